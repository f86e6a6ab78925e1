-- The loop of the search: the arrays keep a search from which `search_from` comes to the same end. Assumes nothing.
use Prim.Native.Nat.{ℕ, zero, suc, ◌+◌, ◌-◌, ◌≤◌, ◌<◌}
use mathlib.Core.Path.{◌≡◌, refl, ap, sym, ◌∙◌}
use mathlib.Core.Logic.{inl, ◌≢◌, ⊎_elim}
use mathlib.Core.List.{List, [], ◌∷◌}
use mathlib.Core.Option.{Option, none, some, none-ne-some}
use native.Mathlib.Omega.{arith}
use native.Mathlib.Nat.{sub-zero}
use native.Mathlib.Numerals.{add-one}
use borrow.Author.Tests.{eq-eqb, ne_eqb}
use lib.ListN.{get_or, length, set, replicate, length-set, length-replicate}
use lib.Seq.{slice, slice-cons, slice_empty, get_or-set_same, get_or-set_other}
use Rattle.limits.specs.Limits.{most_cells}
use Rattle.lists.proofs.Cases.{eq_or_ne}
use Rattle.grid.specs.declared.Grid.{Grid}
use Rattle.grid.specs.Grid.{cells, Cell}
use Rattle.grid.proofs.Geometry.{cells_le}
use Rattle.path.specs.Path.{Lists, Search, is_new, look_all, look_round, search_from, search}
use Rattle.path.specs.Trace.{Notes, Traced, Kept, Looking, LooksFrom, Follows, Asks, Fresh}
use Rattle.path.proofs.Found.{Found, blank_set, blank_all, none_at, marked_cases}
use Rattle.path.proofs.Search.{Searching, taken, starts}
use Rattle.path.proofs.Looks.{slice_more, by}
use Rattle.std.specs.Prelude.{None}

pub record Going (g : Grid) (states : List ℕ) (start target : ℕ) (f : Notes) (q : List ℕ) (head tail : ℕ) : Type 0 where
  pub s : Search
  pub kept : Kept g head s f q tail
  pub searching : Searching g states start (λ x. ⊥) (cells g - head) s.queue s.found
  pub left : search_from g states target (cells g - head) s.queue s.found ≡ search g states start target

-- BEFORE THE FIRST TURN

module _ {g : Grid} {states : List ℕ} {start target : ℕ} (a : Asks g states start target) {f : Notes} {q : List ℕ} (fresh : Fresh f q) where
  small : cells g ≤ most_cells
  small = cells_le g a.limits

  first : Lists
  first = set (replicate (cells g) none) start (some [])

  all_long : length {A = Option (List ℕ)} (replicate (cells g) none) ≡ cells g
  all_long = length-replicate {A = Option (List ℕ)} (cells g) none

  start_in : start < length {A = Option (List ℕ)} (replicate (cells g) none)
  start_in = omega (arith, all_long, a.start_cell)

  traced_first : Traced g first (set f start (by start 0))
  unfolding first is_new
  traced_first =
      record {
        size = length-set (replicate (cells g) none) start (some []) ∙ all_long;
        found_long = simp length-set fresh.found_long;
        new = λ y l.
            ⊎_elim
            (λ (i : y ≡ start).
            rw (i, get_or-set_same (replicate (cells g) none) start (some []) none start_in, get_or-set_same f start (by start 0) None (omega (arith, small, fresh.found_long, a.start_cell)))
            refl)
            (λ (i : y ≢ start).
            rw (get_or-set_other {A = Option (List ℕ)} (replicate (cells g) none) start y (some []) none i, none_at (cells g) y, get_or-set_other f start y (by start 0) None i, fresh.new y (omega (arith, small))) refl)
            (eq_or_ne y start);
        back = λ y r p w.
            absurd
            (⊎_elim
            (λ (i : (y ≡ start) × (some [] ≡ some (r ∷ p))). let z : ◌≡◌ {A = ℕ} 0 1 = cc in omega arith)
            (λ (i : (y ≢ start) × (get_or (replicate (cells g) none) y none ≡ some (r ∷ p))). none-ne-some (r ∷ p) (sym (none_at (cells g) y) ∙ i.1))
            (marked_cases (replicate (cells g) none) start [] start_in y (r ∷ p) w));
      }

  pub going_start : Going g states start target (set f start (by start 0)) (set q 0 start) 0 1
  unfolding first search
  going_start =
      record {
        s = record { queue = start ∷ []; found = first };
        kept = record {
          traced = traced_first;
          queue_long = simp length-set fresh.queue_long;
          order = omega arith;
          waits = slice_more 0 0 q start (omega arith) (omega (arith, fresh.queue_long));
          room = omega (arith, blank_set (replicate (cells g) none) start [] start_in (none_at (cells g) start), blank_all (cells g));
        };
        searching = rw (sub-zero (cells g)) (starts g states start a.start_cell);
        left = rw (sub-zero (cells g));
      }

-- A TURN, AND THE TWO ENDS

nothing_waits : (g : Grid) (states : List ℕ) (target fuel : ℕ) (xs : Lists) → search_from g states target fuel [] xs ≡ xs
unfolding search_from
nothing_waits g states target zero xs = refl
nothing_waits g states target (suc fuel) xs = refl

round_all : (g : Grid) (states : List ℕ) (c : ℕ) (p : List ℕ) (s : Search) → get_or s.found c none ≡ some p → look_round g states c s ≡ look_all g states c p s
unfolding look_round
round_all g states c p s here = rw here

-- c, whose list is p and which is not the target, is taken out and looks round
taken_out : (g : Grid) (states : List ℕ) (start target c fuel : ℕ) (rest : List ℕ) (xs : Lists) (p : List ℕ) → get_or xs c none ≡ some p → c ≢ target
    → Searching g states start (λ x. ⊥) (suc fuel) (c ∷ rest) xs
    → Searching g states start (λ x. ⊥) fuel (look_all g states c p (record { queue = rest; found = xs })).queue (look_all g states c p (record { queue = rest; found = xs })).found
    × (search_from g states target (suc fuel) (c ∷ rest) xs
    ≡ search_from g states target fuel (look_all g states c p (record { queue = rest; found = xs })).queue (look_all g states c p (record { queue = rest; found = xs })).found)
unfolding search_from
taken_out g states start target c fuel rest xs p here i k =
    let same : look_round g states c (record { queue = rest; found = xs }) ≡ look_all g states c p (record { queue = rest; found = xs }) = round_all g states c p (record { queue = rest; found = xs }) here in
    (rw same at (taken g states start c fuel rest xs k), rw (ne_eqb c target i, same))

module _ {g : Grid} {states : List ℕ} {start target : ℕ} (a : Asks g states start target) {f : Notes} {q : List ℕ} {head tail : ℕ} (k : Going g states start target f q head tail) where
  xs : Lists
  xs = k.s.found

  -- nothing waits any more
  pub going_end : tail ≤ head → Traced g (search g states start target) f
  unfolding xs
  going_end h =
      let i : head ≡ tail = omega (arith, k.kept.order) in
      let none_left : k.s.queue ≡ [] = k.kept.waits ∙ ap (λ n. slice n tail q) i ∙ slice_empty tail q in
      let same : xs ≡ search g states start target = sym (nothing_waits g states target (cells g - head) xs) ∙ ap (λ l. search_from g states target (cells g - head) l xs) (sym none_left) ∙ k.left in
      rw same at k.kept.traced

  tail_fits : tail ≤ most_cells
  tail_fits = omega (arith, k.kept.room, cells_le g a.limits)

  pub head_fits : head < tail → head < most_cells
  head_fits h = omega (arith, tail_fits)

  module _ (h : head < tail) where
    c : ℕ
    c = get_or q head 0

    rest : List ℕ
    rest = slice (suc head) tail q

    waits_c : k.s.queue ≡ c ∷ rest
    unfolding c rest
    waits_c = k.kept.waits ∙ slice-cons head tail q 0 h (omega (arith, tail_fits, k.kept.queue_long))

    one_less : cells g - head ≡ suc (cells g - (head + 1))
    one_less = omega (arith, k.kept.room)

    searching_c : Searching g states start (λ x. ⊥) (suc (cells g - (head + 1))) (c ∷ rest) xs
    unfolding xs
    searching_c = rw (one_less, waits_c) at k.searching

    left_c : search_from g states target (suc (cells g - (head + 1))) (c ∷ rest) xs ≡ search g states start target
    unfolding xs
    left_c = rw (one_less, waits_c) at k.left

    -- c, the first that waits, is a found cell
    known : Cell g c × Found xs c
    known = searching_c.queued c (inl refl)

    -- the target is taken out
    pub going_found : get_or q head 0 ≡ target → Traced g (search g states start target) f
    unfolding search_from c xs
    going_found i =
        let same : xs ≡ search g states start target = rw (eq-eqb (get_or q head 0) target i) at left_c in
        rw same at k.kept.traced

    abbrev after : Search
    after = record { queue = rest; found = xs }

    looking_c : Looking g c known.1.0 (head + 1) after f q tail
    unfolding rest xs
    looking_c =
        record {
          kept = record {
            traced = k.kept.traced;
            queue_long = k.kept.queue_long;
            order = omega arith;
            waits = rw (add-one head);
            room = k.kept.room;
          };
          here = known.1.1;
        }

    pub going_look : LooksFrom g states (get_or q head 0) f q tail
    unfolding c
    going_look =
        record {
          limits = a.limits;
          cell = known.0;
          states_long = a.states_long;
          p = known.1.0;
          head = head + 1;
          s = after;
          looking = looking_c;
        }

    pub going_on : get_or q head 0 ≢ target → {f' : Notes} {q' : List ℕ} {tail' : ℕ}
        → Follows g (get_or q head 0) (λ p s. look_all g states (get_or q head 0) p s) f q tail f' q' tail' → Going g states start target f' q' (head + 1) tail'
    unfolding c
    going_on i w =
        let p : List ℕ = known.1.0 in
        let turn = taken_out g states start target c (cells g - (head + 1)) rest xs p known.1.1 i searching_c in
        record {
          s = look_all g states c p after;
          kept = (w p (head + 1) after looking_c).kept;
          searching = turn.0;
          left = sym turn.1 ∙ left_c;
        }
