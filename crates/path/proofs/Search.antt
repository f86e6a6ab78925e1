-- The search's invariant: what is found leads back to the start, and every found cell waits in the queue or has had all its Connected neighbours found. Assumes nothing.
use Prim.Native.Nat.{ℕ, zero, suc, ◌+◌, ◌≤◌, ◌<◌}
use mathlib.Core.Path.{◌≡◌, refl, ap, sym, ◌∙◌}
use mathlib.Core.Logic.{◌⊎◌, inl, inr, ◌≢◌, ⊎_elim}
use mathlib.Core.Bool.{Bool, true, false, true≢false}
use mathlib.Core.List.{List, [], ◌∷◌}
use mathlib.Core.Option.{Option, none, some, some-injective, none-ne-some}
use native.Mathlib.Omega.{arith}
use borrow.Author.Tests.{eqb-true, ne_eqb}
use lib.Dec.{eqb}
use lib.ListN.{get_or, length, set, replicate, length-set, length-append, length-replicate}
use lib.Seq.{get_or-set_same, get_or-set_other}
use Rattle.lists.specs.Choice.{both}
use Rattle.lists.specs.Lists.{In}
use Rattle.lists.proofs.Cases.{true_or_false}
use Rattle.lists.proofs.ChoiceLaws.{both_true, true_both}
use Rattle.lists.proofs.ListLaws.{in_left, in_right, in_append}
use Rattle.frame.specs.Frame.{here, on, SameUnit}
use Rattle.grid.specs.declared.Direction.{Direction}
use Rattle.grid.specs.declared.Grid.{Grid}
use Rattle.grid.specs.Grid.{cells, Cell, next, border}
use Rattle.grid.specs.Steps.{Step, Neighbours}
use Rattle.grid.proofs.Geometry.{step_next}
use Rattle.borders.specs.Entry.{connected_entry, Standing}
use Rattle.borders.specs.Border.{state_of, stands}
use Rattle.borders.proofs.Choices.{pick_elim}
use Rattle.borders.proofs.EntryLaws.{connected_stands}
use Rattle.borders.proofs.BorderLaws.{stands_state, stands_step, step_stands}
use Rattle.grid.specs.Orders.{around}
use Rattle.borders.proofs.Directions.{in_around}
use Rattle.answers.specs.Answers.{list_of}
use Rattle.path.specs.Path.{Lists, Search, is_new, mark, finds, look, looks, look_all, look_round, search_from}
use Rattle.path.specs.Trace.{blank}
use Rattle.path.proofs.Leads.{Leads, arrived, over}
use Rattle.path.proofs.Found.{Found, blank_set, blank_all, none_at, new_none, old_some, marked_cases, marked_here, found_still}

module _ (g : Grid) (states : List ℕ) (start : ℕ) where
  -- p leads from c back to the start over borders that stand Connected
  abbrev pub Way : ℕ → List ℕ → Type 0
  Way c p = Leads g start c p × Standing (state_of states) p

  way_on : (c x e : ℕ) (p : List ℕ) → Neighbours g c x e → state_of states e ≡ 1 → Way c p → Way x (connected_entry e ∷ p)
  way_on c x e p n q k = (
    over n k.0,
    λ l m. ⊎_elim (λ (y : l ≡ connected_entry e). rw y (connected_stands (state_of states) e q)) (λ y. k.1 l y) m,
  )

  -- all that c is Connected to is found
  abbrev pub Closed : Lists → ℕ → Type 0
  Closed xs c = (x e : ℕ) → Neighbours g c x e → state_of states e ≡ 1 → Found xs x

  -- Between steps, while X is looking round. `fuel` is how many cells may still be taken out.
  pub record Searching (X : ℕ → Type 0) (fuel : ℕ) (queue : List ℕ) (xs : Lists) : Type 0 where
    pub size : length xs ≡ cells g
    pub way : (x : ℕ) (p : List ℕ) → get_or xs x none ≡ some p → Way x p
    pub short : (x : ℕ) (p : List ℕ) → get_or xs x none ≡ some p → length p + blank xs < cells g
    pub begun : get_or xs start none ≡ some []
    pub queued : (x : ℕ) → In x queue → Cell g x × Found xs x
    pub closed : (x : ℕ) → Found xs x → X x ⊎ (In x queue ⊎ Closed xs x)
    pub room : blank xs + length queue ≤ fuel

  -- from s to r, while c looks: what was found stays found
  pub record Looked (c fuel : ℕ) (s r : Search) : Type 0 where
    pub searching : Searching (λ x. x ≡ c) fuel r.queue r.found
    pub more : (x : ℕ) → Found s.found x → Found r.found x
    pub less : blank r.found ≤ blank s.found

  -- c, whose list is p, looks
  module _ (c fuel : ℕ) (cell : Cell g c) (p : List ℕ) (way : Way c p) where
    marked : (d : Direction) (s : Search) → Searching (λ x. x ≡ c) fuel s.queue s.found → length p + blank s.found < cells g → stands g states 1 d c ≡ true
        → get_or s.found (next g d c) none ≡ none → Looked c fuel s (mark (next g d c) (connected_entry (border g d c) ∷ p) s)
    unfolding mark
    marked d s k sh t z =
        let x : ℕ = next g d c in
        let r : List ℕ = connected_entry (border g d c) ∷ p in
        let xs : Lists = s.found in
        let step = stands_step g states 1 d c cell t in
        let xn : x < length xs = omega (arith, step.cell', k.size) in
        let fewer : blank (set xs x (some r)) + 1 ≡ blank xs = blank_set xs x r xn z in
        let way_x : Way x r = way_on c x (border g d c) p (d, step) (stands_state g states 1 d c t) way in
        record {
          searching = record {
            size = length-set xs x (some r) ∙ k.size;
            way = λ y v q.
                ⊎_elim
                (λ (i : (y ≡ x) × (some r ≡ some v)). rw (i.0, ← some-injective r v i.1) way_x)
                (λ (i : (y ≢ x) × (get_or xs y none ≡ some v)). k.way y v i.1)
                (marked_cases xs x r xn y v q);
            short = λ y v q.
                ⊎_elim
                (λ (i : (y ≡ x) × (some r ≡ some v)). omega (arith, ap length (some-injective r v i.1)))
                (λ (i : (y ≢ x) × (get_or xs y none ≡ some v)). omega (arith, k.short y v i.1))
                (marked_cases xs x r xn y v q);
            begun = get_or-set_other xs x start (some r) none (λ (e : start ≡ x). none-ne-some [] (sym z ∙ ap (λ n. get_or xs n none) (sym e) ∙ k.begun)) ∙ k.begun;
            queued = λ y m.
                ⊎_elim
                (λ i. let o = k.queued y i in (o.0, found_still xs x r xn y o.1))
                (λ i. ⊎_elim (λ (e : y ≡ x). (rw e step.cell', (r, marked_here xs x r xn y e))) (λ (e : ⊥). absurd e) i)
                (in_append y s.queue (x ∷ []) m);
            closed = λ y f.
                ⊎_elim
                (λ (i : (y ≡ x) × (some r ≡ some f.0)). inr (inl (in_right y s.queue (x ∷ []) (inl i.0))))
                (λ (i : (y ≢ x) × (get_or xs y none ≡ some f.0)).
                ⊎_elim
                (λ j. inl j)
                (λ j.
                ⊎_elim
                (λ m. inr (inl (in_left y s.queue (x ∷ []) m)))
                (λ m. inr (inr (λ v e n w. found_still xs x r xn v (m v e n w))))
                j)
                (k.closed y (f.0, i.1)))
                (marked_cases xs x r xn y f.0 f.1);
            room = omega (arith, k.room, length-append s.queue (x ∷ []));
          };
          more = λ y f. found_still xs x r xn y f;
          less = omega arith;
        }

    finds_it : (d : Direction) (s : Search) → Searching (λ x. x ≡ c) fuel s.queue s.found → stands g states 1 d c ≡ true
        → (y e : ℕ) → Step g d c y e → Found (mark (next g d c) (connected_entry (border g d c) ∷ p) s).found y
    unfolding mark
    finds_it d s k t y e i =
        (connected_entry (border g d c) ∷ p, marked_here s.found (next g d c) _ (omega (arith, (stands_step g states 1 d c cell t).cell', k.size)) y (step_next g d c y e i))

    -- after a look in direction d the Connected neighbour there is found
    pub looked : (d : Direction) (s : Search) → Searching (λ x. x ≡ c) fuel s.queue s.found → length p + blank s.found < cells g
        → Looked c fuel s (look g states c p d s) × ((x e : ℕ) → Step g d c x e → state_of states e ≡ 1 → Found (look g states c p d s).found x)
    unfolding look finds
    looked d s k sh =
        let x : ℕ = next g d c in
        let r : List ℕ = connected_entry (border g d c) ∷ p in
        let new : Bool = is_new (get_or s.found x none) in
        pick_elim (λ y. Looked c fuel s y × ((x e : ℕ) → Step g d c x e → state_of states e ≡ 1 → Found y.found x))
        (both (stands g states 1 d c) new) (mark x r s) s
        (λ q.
        let o = both_true (stands g states 1 d c) new q in
        (marked d s k sh o.0 (new_none _ o.1), λ y e i w. finds_it d s k o.0 y e i))
        (λ q. (
          record { searching = k; more = λ y f. f; less = omega arith },
          λ y e i w.
              ⊎_elim
              (λ (z : new ≡ true). absurd (true≢false (sym (true_both (stands g states 1 d c) new (step_stands g states 1 d c y e i w) z) ∙ q)))
              (λ (z : new ≡ false). rw (step_next g d c y e i) (old_some _ z))
              (true_or_false new),
        ))

    looked_each : (ds : List Direction) (s : Search) → Searching (λ x. x ≡ c) fuel s.queue s.found → length p + blank s.found < cells g
        → Looked c fuel s (looks g states c p ds s) × ((d : Direction) (x e : ℕ) → In d ds → Step g d c x e → state_of states e ≡ 1 → Found (looks g states c p ds s).found x)
    unfolding looks
    looked_each [] s k sh = (record { searching = k; more = λ x f. f; less = omega arith }, λ d x e m i w. absurd m)
    looked_each (a ∷ ds) s k sh =
        let u = looked a s k sh in
        let v = looked_each ds (look g states c p a s) u.0.searching (omega (arith, u.0.less)) in (
          record {
            searching = v.0.searching;
            more = λ x f. v.0.more x (u.0.more x f);
            less = omega (arith, u.0.less, v.0.less);
          },
          λ d x e m i w.
              ⊎_elim (λ (q : d ≡ a). v.0.more x (u.1 x e (rw q at i) w)) (λ n. v.1 d x e n i w) m,
        )

  -- c is taken out and looks round
  pub taken : (c fuel : ℕ) (queue : List ℕ) (xs : Lists) → Searching (λ x. ⊥) (suc fuel) (c ∷ queue) xs
      → Searching (λ x. ⊥) fuel (look_round g states c (record { queue = queue; found = xs })).queue (look_round g states c (record { queue = queue; found = xs })).found
  unfolding look_round look_all
  taken c fuel queue xs k =
      let o = k.queued c (inl refl) in
      let f = o.1 in
      let p : List ℕ = list_of (get_or xs c none) in
      let e : p ≡ f.0 = ap list_of f.1 in
      let r =
      looked_each c fuel o.0 p (rw e (k.way c f.0 f.1)) around (record { queue = queue; found = xs })
      (record {
        size = k.size;
        way = k.way;
        short = k.short;
        begun = k.begun;
        queued = λ x m. k.queued x (inr m);
        closed = λ x y.
            ⊎_elim
            (λ (z : ⊥). absurd z)
            (λ z. ⊎_elim (λ m. ⊎_elim (λ (i : x ≡ c). inl i) (λ i. inr (inl i)) m) (λ m. inr (inr m)) z)
            (k.closed x y);
        room = omega (arith, k.room);
      }) (omega (arith, k.short c f.0 f.1, ap length e)) in
      let after = r.0.searching in
      record {
        size = after.size;
        way = after.way;
        short = after.short;
        begun = after.begun;
        queued = after.queued;
        closed = λ x y. ⊎_elim (λ (i : x ≡ c). inr (inr (rw i (λ v e n w. r.1 n.0 v e (in_around n.0) n.1 w)))) (λ z. inr z) (after.closed x y);
        room = after.room;
      }

  -- the search is over: the target is found, or nothing found is Connected to anything else
  pub record Ended (target : ℕ) (xs : Lists) : Type 0 where
    pub way : (x : ℕ) (p : List ℕ) → get_or xs x none ≡ some p → Way x p
    pub short : (x : ℕ) (p : List ℕ) → get_or xs x none ≡ some p → length p < cells g
    pub begun : get_or xs start none ≡ some []
    pub ends : Found xs target ⊎ ((x : ℕ) → Found xs x → Closed xs x)

  pub search_on : (target fuel c : ℕ) (queue : List ℕ) (xs : Lists) → c ≢ target
      → search_from g states target (suc fuel) (c ∷ queue) xs
      ≡ search_from g states target fuel (look_round g states c (record { queue = queue; found = xs })).queue (look_round g states c (record { queue = queue; found = xs })).found
  unfolding search_from
  search_on target fuel c queue xs z = rw (ne_eqb c target z)

  empty_ends : (target fuel : ℕ) (xs : Lists) → Searching (λ x. ⊥) fuel [] xs → Ended target xs
  empty_ends target fuel xs k =
      record {
        way = k.way;
        short = λ x p e. omega (arith, k.short x p e);
        begun = k.begun;
        ends = inr (λ x f. ⊎_elim (λ (z : ⊥). absurd z) (λ y. ⊎_elim (λ (z : ⊥). absurd z) (λ m. m) y) (k.closed x f));
      }

  pub search_ends : (target fuel : ℕ) (queue : List ℕ) (xs : Lists) → Searching (λ x. ⊥) fuel queue xs → Ended target (search_from g states target fuel queue xs)
  unfolding search_from
  search_ends target zero [] xs k = empty_ends target zero xs k
  search_ends target zero (c ∷ queue) xs k = absurd (omega (arith, k.room))
  search_ends target (suc fuel) [] xs k = empty_ends target (suc fuel) xs k
  search_ends target (suc fuel) (c ∷ queue) xs k =
      pick_elim (Ended target) (eqb c target) xs _
      (λ e.
      record { way = k.way; short = λ x p e. omega (arith, k.short x p e); begun = k.begun; ends = inl (rw (eqb-true c target e) at (k.queued c (inl refl)).1) })
      (λ e. search_ends target fuel _ _ (taken c fuel queue xs k))

  -- before the first step
  pub starts : Cell g start → Searching (λ x. ⊥) (cells g) (start ∷ []) (set (replicate (cells g) none) start (some []))
  starts l =
      let n : ℕ = cells g in
      let xs : Lists = replicate n none in
      let xn : start < length xs = omega (arith, length-replicate {A = Option (List ℕ)} n none) in
      let fewer : blank (set xs start (some [])) + 1 ≡ n = blank_set xs start [] xn (none_at n start) ∙ blank_all n in
      let only : (x : ℕ) (p : List ℕ) → get_or (set xs start (some [])) x none ≡ some p → (x ≡ start) × ([] ≡ p) = λ x p q.
      ⊎_elim
      (λ (i : (x ≡ start) × (some [] ≡ some p)). (i.0, some-injective [] p i.1))
      (λ (i : (x ≢ start) × (get_or xs x none ≡ some p)). absurd (none-ne-some p (sym (none_at n x) ∙ i.1)))
      (marked_cases xs start [] xn x p q) in
      record {
        size = length-set xs start (some []) ∙ length-replicate n none;
        way = λ x p q. let o = only x p q in rw (o.0, ← o.1) (arrived, λ l m. absurd m);
        short = λ x p q. omega (arith, ap length (only x p q).1);
        begun = get_or-set_same xs start (some []) none xn;
        queued = λ x m.
            ⊎_elim (λ (i : x ≡ start). (rw i l, ([], marked_here xs start [] xn x i))) (λ (z : ⊥). absurd z) m;
        closed = λ x f. inr (inl (inl (only x f.0 f.1).0));
        room = omega arith;
      }

  -- what nothing leaves holds all that is joined to the start
  pub reaches : (xs : Lists) → ((x : ℕ) → Found xs x → Closed xs x) → Found xs start → {x : ℕ} → SameUnit (Neighbours g) (state_of states) start x → Found xs x
  reaches xs k f here = f
  reaches xs k f (on {b = c} {c = x} j l) = k c (reaches xs k f j) x l.0 l.1 l.2
