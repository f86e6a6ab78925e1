-- The code's arrays follow the search: what a look does to them. Assumes nothing.
use Prim.Native.Nat.{ℕ, ◌+◌, ◌*◌, ◌≤◌, ◌<◌}
use mathlib.Core.Path.{◌≡◌, refl, ap, sym, ◌∙◌}
use mathlib.Core.Logic.{◌≢◌, ⊎_elim}
use mathlib.Core.Bool.{true, false}
use mathlib.Core.List.{List, [], ◌∷◌, ◌++◌}
use mathlib.Core.Option.{Option, none, some, none-ne-some}
use native.Mathlib.Omega.{arith}
use native.Mathlib.Numerals.{add-one}
use borrow.Author.Tests.{eq-eqb, ne_eqb}
use lib.ListN.{get_or, length, set, take, length-set}
use lib.Seq.{slice, take_all, take-suc, take-suc-set, drop-append-le, length-take-le, get_or-set_same, get_or-set_other}
use Rattle.limits.specs.Limits.{most_cells, most_borders}
use Rattle.lists.proofs.Cases.{eq_or_ne}
use Rattle.grid.specs.declared.Direction.{Direction}
use Rattle.grid.specs.declared.Direction.TheVariants.{Up}
use Rattle.std.specs.Prelude as std
use Rattle.std.specs.Prelude.{not, is_some, Some, None}
use Rattle.grid.specs.declared.Neighbour.{Neighbour}
use Rattle.grid.specs.Neighbours.{neighbour_in}
use Rattle.grid.specs.declared.Grid.{Grid}
use Rattle.grid.specs.Grid.{cells, Cell, Limits, goes_on, next, border}
use Rattle.grid.specs.Steps.{Step}
use Rattle.grid.proofs.Geometry.{goes_step, border_lt, border_count_le, cells_le}
use Rattle.borders.specs.Entry.{entry_of}
use Rattle.borders.specs.Border.{state_of, state_at, stands}
use Rattle.path.specs.Path.{Search, is_new, mark, finds, look, looks}
use Rattle.path.specs.declared.FoundBy.{FoundBy}
use Rattle.path.specs.Trace.{Notes, blank, Traced, Looking, LooksFrom, Follows}
use Rattle.path.proofs.Found.{blank_set, new_none, marked_cases}
use Rattle.grid.proofs.Told.{some_told}

-- one more at the queue's end
pub slice_more : (f t : ℕ) (q : List ℕ) (x : ℕ) → f ≤ t → t < length q → slice f t q ++ (x ∷ []) ≡ slice f (t + 1) (set q t x)
slice_more f t q x h l =
    rw (add-one t, take-suc-set q t x l) (sym (drop-append-le f (take t q) (x ∷ []) (rw (length-take-le t q (omega arith)) h)))

-- a note of a finder and an entry
abbrev pub by : ℕ → ℕ → std.Option FoundBy
by c r = Some (record { finder = c; entry = r })

cons_parts : (e e' : ℕ) (p p' : List ℕ) → ◌≡◌ {A = Option (List ℕ)} (some (e ∷ p)) (some (e' ∷ p')) → (e ≡ e') × (p ≡ p')
cons_parts e e' p p' q = (cc, cc)

module _ (g : Grid) (limits : Limits g) (c : ℕ) (cell : Cell g c) (p : List ℕ) (head : ℕ) (s : Search) (f : Notes) (q : List ℕ) (t : ℕ) (k : Looking g c p head s f q t) where
  small : cells g ≤ most_cells
  small = cells_le g limits

  module _ (x r : ℕ) (xcell : Cell g x) (z : get_or s.found x none ≡ none) where
    x_in : x < length s.found
    x_in = omega (arith, k.kept.traced.size)

    -- a found cell is another
    not_x : (y : ℕ) (v : List ℕ) → get_or s.found y none ≡ some v → y ≢ x
    not_x y v w i = none-ne-some v (sym z ∙ ap (λ n. get_or s.found n none) (sym i) ∙ w)

    fewer : blank (set s.found x (some (r ∷ p))) + 1 ≡ blank s.found
    fewer = blank_set s.found x (r ∷ p) x_in z

    -- there is a place for x
    pub place : t < cells g
    place = omega (arith, fewer, k.kept.room)

    still : (y : ℕ) (v : List ℕ) → get_or s.found y none ≡ some v → get_or (set s.found x (some (r ∷ p))) y none ≡ some v
    still y v w = get_or-set_other s.found x y (some (r ∷ p)) none (not_x y v w) ∙ w

    traced_mark : Traced g (set s.found x (some (r ∷ p))) (set f x (by c r))
    unfolding is_new
    traced_mark =
        let o = k.kept.traced in
        record {
          size = length-set s.found x (some (r ∷ p)) ∙ o.size;
          found_long = simp length-set o.found_long;
          new = λ y l.
              ⊎_elim
              (λ (i : y ≡ x).
              rw (i, get_or-set_same s.found x (some (r ∷ p)) none x_in, get_or-set_same f x (by c r) None (omega (arith, small, o.found_long)))
              refl)
              (λ (i : y ≢ x). rw (get_or-set_other s.found x y (some (r ∷ p)) none i, get_or-set_other f x y (by c r) None i) (o.new y l))
              (eq_or_ne y x);
          back = λ y e' p' w.
              ⊎_elim
              (λ (i : (y ≡ x) × (some (r ∷ p) ≡ some (e' ∷ p'))).
              let u = cons_parts r e' p p' i.1 in
              (c, rw i.0 (get_or-set_same f x (by c r) None (omega (arith, small, o.found_long)) ∙ ap (λ n. by c n) u.0), still c p k.here ∙ ap some u.1))
              (λ (i : (y ≢ x) × (get_or s.found y none ≡ some (e' ∷ p'))).
              let u = o.back y e' p' i.1 in
              (u.0, get_or-set_other f x y (by c r) None i.0 ∙ u.1, still u.0 p' u.2))
              (marked_cases s.found x (r ∷ p) x_in y (e' ∷ p') w);
        }

    pub looking_mark : Looking g c p head (mark x (r ∷ p) s) (set f x (by c r)) (set q t x) (t + 1)
    unfolding mark
    looking_mark =
        record {
          kept = record {
            traced = traced_mark;
            queue_long = simp length-set k.kept.queue_long;
            order = omega (arith, k.kept.order);
            waits = rw k.kept.waits (slice_more head t q x k.kept.order (omega (arith, small, place, k.kept.queue_long)));
            room = omega (arith, fewer, k.kept.room);
          };
          here = still c p k.here;
        }

-- A LOOK IN ONE DIRECTION

module _ {g : Grid} {states : List ℕ} {c : ℕ} {f : Notes} {q : List ℕ} {t : ℕ} (v : LooksFrom g states c f q t) (d : Direction) where
  -- what the look leaves in the arrays
  abbrev pub Looked : Notes → List ℕ → ℕ → Type 0
  Looked f' q' t' = Follows g c (λ p s. look g states c p d s) f q t f' q' t'

  nothing : ((p : List ℕ) (head : ℕ) (s : Search) → Looking g c p head s f q t → finds g states c d s ≡ false) → Looked f q t
  unfolding look
  nothing z p head s k = rw (z p head s k) k

  pub look_end : goes_on g d c ≡ false → Looked f q t
  unfolding finds stands
  look_end z = nothing (λ p head s k. rw z)

  -- x lies beyond the border b
  module _ {r : std.Option Neighbour} {x b : ℕ} (is : r ≡ neighbour_in g d c) (at : r ≡ std.Some (record { cell = x; border = b })) where
    told : (goes_on g d c ≡ true) × (x ≡ next g d c) × (b ≡ border g d c)
    told = some_told g d c is at

    there : Step g d c x b
    there = rw (told.1, told.2) (goes_step g d c v.cell told.0)

    pub border_fits : b < length states
    border_fits = omega (arith, border_lt g d c x b there, v.states_long)

    pub entry_fits : b < most_borders
    entry_fits = omega (arith, border_lt g d c x b there, border_count_le g v.limits)

    pub cell_small : x < most_cells
    cell_small = omega (arith, there.cell', cells_le g v.limits)

    pub look_apart : state_of states b ≢ 1 → Looked f q t
    unfolding finds stands state_at
    look_apart z = nothing (λ p head s k. rw (told.0, ne_eqb (state_of states (border g d c)) 1 (rw told.2 at z)))

    -- what the finder says of x in every search that the arrays keep
    is_new_lem : (p : List ℕ) (head : ℕ) (s : Search) → Looking g c p head s f q t → is_new (get_or s.found (next g d c) none) ≡ not (is_some (get_or f x None))
    is_new_lem p head s k = rw (← told.1) (k.kept.traced.new x there.cell')

    module _ (connected : state_of states b ≡ 1) where
      stands_connected : stands g states 1 d c ≡ true
      unfolding stands state_at
      stands_connected = rw told.0 (eq-eqb (state_of states (border g d c)) 1 (rw told.2 at connected))

      pub look_old : is_some (get_or f x None) ≡ true → Looked f q t
      unfolding finds
      look_old z = nothing (λ p head s k. rw (stands_connected, is_new_lem p head s k, z))

      module _ (new : is_some (get_or f x None) ≡ false) where
        x_none : (p : List ℕ) (head : ℕ) (s : Search) → Looking g c p head s f q t → get_or s.found x none ≡ none
        x_none p head s k = new_none _ (k.kept.traced.new x there.cell' ∙ ap not new)

        pub queue_fits : t < length q
        queue_fits =
            let k = v.looking in
            omega (arith, cells_le g v.limits, k.kept.queue_long, place g v.limits c v.cell v.p v.head v.s f q t k x b there.cell' (x_none v.p v.head v.s k))

        pub look_new : {l : ℕ} → l ≡ entry_of false b → Looked (set f x (by c l)) (set q t x) (t + 1)
        unfolding look finds
        look_new q' p head s k =
            rw (stands_connected, is_new_lem p head s k, new, ← told.1, ← told.2, q')
            (looking_mark g v.limits c v.cell p head s f q t k x (2 * b) there.cell' (x_none p head s k))

-- A LOOK ROUND

module _ {g : Grid} {states : List ℕ} {c : ℕ} {f : Notes} {q : List ℕ} {t : ℕ} (v : LooksFrom g states c f q t) where
  -- after a look there can be another
  pub looks_on : {after : List ℕ → Search → Search} {f' : Notes} {q' : List ℕ} {t' : ℕ} → Follows g c after f q t f' q' t' → LooksFrom g states c f' q' t'
  looks_on {after} w =
      record {
        limits = v.limits;
        cell = v.cell;
        states_long = v.states_long;
        p = v.p;
        head = v.head;
        s = after v.p v.s;
        looking = w v.p v.head v.s v.looking;
      }

module _ (g : Grid) (states : List ℕ) (c : ℕ) where
  looks_more : (p : List ℕ) (ds : List Direction) (d : Direction) (s : Search) → looks g states c p (ds ++ (d ∷ [])) s ≡ look g states c p d (looks g states c p ds s)
  unfolding looks
  looks_more p [] d s = refl
  looks_more p (a ∷ ds) d s = looks_more p ds d (look g states c p a s)

-- from f q t the arrays have come to f' q' t' by looks in the first i directions
pub record Round (g : Grid) (states : List ℕ) (c : ℕ) (ds : List Direction) (f : Notes) (q : List ℕ) (t i : ℕ) (f' : Notes) (q' : List ℕ) (t' : ℕ) : Type 0 where
  pub follows : Follows g c (λ p s. looks g states c p (take i ds) s) f q t f' q' t'

module _ {g : Grid} {states : List ℕ} {c : ℕ} {ds : List Direction} {f : Notes} {q : List ℕ} {t : ℕ} where
  pub round_start : Round g states c ds f q t 0 f q t
  unfolding looks
  round_start = record { follows = λ p head s k. k }

  module _ {i : ℕ} {f' : Notes} {q' : List ℕ} {t' : ℕ} (k : Round g states c ds f q t i f' q' t') where
    pub round_on : i < length ds → {f1 : Notes} {q1 : List ℕ} {t1 : ℕ} → Follows g c (λ p s. look g states c p (get_or ds i Up) s) f' q' t' f1 q1 t1
        → Round g states c ds f q t (i + 1) f1 q1 t1
    round_on h w =
        record {
          follows = λ p head s l. rw (add-one i, take-suc ds i Up h, looks_more g states c p (take i ds) (get_or ds i Up) s) (w p head _ (k.follows p head s l));
        }

    pub round_end : length ds ≤ i → Follows g c (λ p s. looks g states c p ds s) f q t f' q' t'
    round_end h p head s l = rw (take_all i ds h) at (k.follows p head s l)
