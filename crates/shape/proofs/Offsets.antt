-- What the check's tests of an offset say, in the terms of the crate `frame`: when an offset is tried, when it is good, and what a failed
-- landing says of every board on which its entry stands. Of the offset only `Moves` is used, of group numbers only `Labels`. Assumes nothing.
use Prim.Native.Nat.{ℕ}
use mathlib.Core.Path.{◌≡◌, refl, ap, sym, ◌∙◌, subst}
use mathlib.Core.Logic.{◌⊎◌, inl, inr, ◌≢◌, ⊎_elim}
use mathlib.Core.Bool.{Bool, true, false, true≢false, not}
use mathlib.Core.List.{List}
use mathlib.Core.Option.{Option, none, some}
use borrow.Author.Tests.{eqb-true, eqb-false, eq-eqb, ne_eqb, not-true, not-false}
use lib.Dec.{eqb}
use lib.ListN.{get_or}
use Rattle.lists.specs.Choice.{both, pick, give, through}
use Rattle.lists.specs.Lists.{In, any, all, first}
use Rattle.lists.proofs.Cases.{true_or_false, not_both}
use Rattle.lists.proofs.ChoiceLaws.{both_true, true_both, either_true, left_either, right_either, give_some, give_none, or_else_none, or_else_some, holds_true, true_holds, none_or_some, through_some, through_none}
use Rattle.lists.proofs.ListLaws.{any_true, true_any, all_true, true_all, first_of_both, none_of_both}
use Rattle.frame.specs.Frame.{Relation, States, SameUnit, SamePotential, Adjacent}
use Rattle.frame.proofs.Offset.{Tried, Good, OnWall, OnConnected, Fails}
use Rattle.grid.specs.declared.Direction.{Direction}
use Rattle.grid.specs.declared.Grid.{Grid}
use Rattle.grid.specs.Grid.{Cell, goes_on, next, border}
use Rattle.grid.specs.Steps.{Neighbours}
use Rattle.grid.proofs.Geometry.{goes_step, step_goes, step_next, neighbours_back, one_border}
use Rattle.borders.specs.Entry.{connected_entry, wall_entry, Stands, Standing}
use Rattle.borders.specs.Border.{state_of, state_at, stands}
use Rattle.borders.proofs.Choices.{either_false}
use Rattle.borders.proofs.EntryLaws.{stands_wall, stands_connected, wall_stands, connected_stands}
use Rattle.borders.proofs.BorderLaws.{stands_state, stands_step, step_stands}
use Rattle.grid.specs.Orders.{around, forward}
use Rattle.borders.proofs.Directions.{Ahead, down_or_right, in_around}
use Rattle.groups.specs.Groups.{cells_of}
use Rattle.groups.proofs.GroupLaws.{Labels, in_cells, cells_in_lem, chain_cell}
use Rattle.boundary.specs.Boundary.{ahead}
use Rattle.shape.specs.Shape.{wall_to, behind, parted, adjacent, Offset, UnitInfo, falls, meets, inner_border, shut, on_wall, on_connected, landing, landed, try, is_good, entry_of}
use Rattle.shape.specs.declared.Try.{Try}
use Rattle.shape.specs.declared.Try.TheVariants.{Passed}
use Rattle.shape.proofs.Moves.{Moves, turned_step}

-- u is the unit of its first cell
pub record IsUnit (g : Grid) (ids pids : List ℕ) (u : UnitInfo) : Type 0 where
  pub in_unit : (c : ℕ) → In c u.cells → Cell g c × (get_or ids c 0 ≡ u.number)
  pub unit_in : (c : ℕ) → Cell g c → get_or ids c 0 ≡ u.number → In c u.cells
  pub cell : Cell g u.first
  pub id : get_or ids u.first 0 ≡ u.number
  pub own : u.own ≡ get_or pids u.first 0

good_pick : (t : Bool) (o : Option ℕ) → is_good (pick t (landed o) Passed) ≡ true → (t ≡ true) × (o ≡ none)
unfolding is_good landed
good_pick true none q = (refl, refl)
good_pick true (some l) q = absurd (true≢false (sym q))
good_pick false o q = absurd (true≢false (sym q))

pub entry_pick : (t : Bool) (o : Option ℕ) (l : ℕ) → In l (entry_of (pick t (landed o) Passed)) → o ≡ some l
unfolding entry_of landed
entry_pick true none l m = absurd m
entry_pick true (some e) l (inl q) = ap some (sym q)
entry_pick true (some e) l (inr m) = absurd m
entry_pick false o l m = absurd m

-- what is given of the cell on which a cell falls, where a test of either holds
module _ (o : Option ℕ) (t : Bool) (at : ℕ → Bool) (entry : ℕ → ℕ) where
  abbrev given : Option ℕ
  given = through o (λ x. give (both t (at x)) (entry x))

  given_some : (l : ℕ) → given ≡ some l → (x : ℕ) × (o ≡ some x) × (t ≡ true) × (at x ≡ true) × (l ≡ entry x)
  given_some l q =
      let x = through_some o (λ x. give (both t (at x)) (entry x)) l q in
      let k = give_some (both t (at x.0)) (entry x.0) l x.2 in
      let b = both_true t (at x.0) k.0 in
      (x.0, x.1, b.0, b.1, k.1)

  given_none : given ≡ none → (x : ℕ) → o ≡ some x → t ≡ true → at x ≡ true → ⊥
  given_none q x p i w = not_both _ (true_both t (at x) i w) (give_none _ (entry x) (through_none o (λ x. give (both t (at x)) (entry x)) x p q))

-- a failed landing stands where it was found
module _ (g : Grid) (states ids : List ℕ) (u : UnitInfo) (o : Offset) where
  abbrev walls : Option ℕ
  walls = first (λ c. first (on_wall g states ids u o c) forward) u.cells

  abbrev connecteds : Option ℕ
  connecteds = first (λ c. first (on_connected g states o c) around) u.cells

  -- where the landing comes from
  landing_some : (l : ℕ) → landing g states ids u o ≡ some l
      → ((c : ℕ) × (d : Direction) × In c u.cells × (on_wall g states ids u o c d ≡ some l)) ⊎ ((c : ℕ) × (d : Direction) × In c u.cells × (on_connected g states o c d ≡ some l))
  unfolding landing
  landing_some l q =
      ⊎_elim
      (λ k. inl (first_of_both (on_wall g states ids u o) u.cells forward l k))
      (λ k. inr (first_of_both (on_connected g states o) u.cells around l k))
      (or_else_some walls connecteds l q)

  wall_some : (c l : ℕ) (d : Direction) → on_wall g states ids u o c d ≡ some l
      → (x : ℕ) × (o.put c ≡ some x) × (inner_border g ids u c d ≡ true) × (stands g states 2 (o.turn d) x ≡ true) × (l ≡ wall_entry (border g (o.turn d) x))
  unfolding on_wall
  wall_some c l d q = given_some (o.put c) (inner_border g ids u c d) (stands g states 2 (o.turn d)) (λ x. wall_entry (border g (o.turn d) x)) l q

  connected_some : (c l : ℕ) (d : Direction) → on_connected g states o c d ≡ some l
      → (x : ℕ) × (o.put c ≡ some x) × (shut g states c d ≡ true) × (stands g states 1 (o.turn d) x ≡ true) × (l ≡ connected_entry (border g (o.turn d) x))
  unfolding on_connected
  connected_some c l d q = given_some (o.put c) (shut g states c d) (stands g states 1 (o.turn d)) (λ x. connected_entry (border g (o.turn d) x)) l q

  pub landing_stands : (l : ℕ) → landing g states ids u o ≡ some l → Stands (state_of states) l
  landing_stands l q =
      ⊎_elim
      (λ (k : (c : ℕ) × (d : Direction) × In c u.cells × (on_wall g states ids u o c d ≡ some l)).
      let x = wall_some k.0 l k.1 k.3 in
      let d = o.turn k.1 in
      rw x.4 (wall_stands (state_of states) (border g d x.0) (stands_state g states 2 d x.0 x.3)))
      (λ (k : (c : ℕ) × (d : Direction) × In c u.cells × (on_connected g states o c d ≡ some l)).
      let x = connected_some k.0 l k.1 k.3 in
      let d = o.turn k.1 in
      rw x.4 (connected_stands (state_of states) (border g d x.0) (stands_state g states 1 d x.0 x.3)))
      (landing_some l q)

  module _ (free : landing g states ids u o ≡ none) where
    wall_free : (a x : ℕ) (d : Direction) → In a u.cells → In d forward → o.put a ≡ some x → inner_border g ids u a d ≡ true → stands g states 2 (o.turn d) x ≡ true → ⊥
    unfolding landing on_wall
    wall_free a x d m k p i w =
        given_none (o.put a) (inner_border g ids u a d) (stands g states 2 (o.turn d)) (λ x. wall_entry (border g (o.turn d) x))
        (none_of_both (on_wall g states ids u o) u.cells forward (or_else_none walls connecteds free).0 a d m k) x p i w

    connected_free : (a x : ℕ) (d : Direction) → In a u.cells → o.put a ≡ some x → shut g states a d ≡ true → stands g states 1 (o.turn d) x ≡ true → ⊥
    unfolding landing on_connected
    connected_free a x d m p i w =
        given_none (o.put a) (shut g states a d) (stands g states 1 (o.turn d)) (λ x. connected_entry (border g (o.turn d) x))
        (none_of_both (on_connected g states o) u.cells around (or_else_none walls connecteds free).1 a d m (in_around d)) x p i w

module _ (g : Grid) (states ids pids : List ℕ) (m n : ℕ)
    (lu : Labels g ids m (SameUnit (Neighbours g) (state_of states))) (lp : Labels g pids n (SamePotential (Neighbours g) (state_of states))) where
  abbrev Nb : Relation
  Nb = Neighbours g

  abbrev s : States
  s = state_of states

  -- ADJACENCY
  pub adjacent_true : (f x : ℕ) → Cell g f → Cell g x → adjacent g states pids (get_or pids f 0) (get_or pids x 0) ≡ true → Adjacent Nb s f x
  unfolding adjacent parted behind wall_to
  adjacent_true f x fn xn q =
      let p = get_or pids f 0 in
      let r = get_or pids x 0 in
      ⊎_elim
      (λ k. inl (lp.apart f x fn xn (eqb-true _ _ k)))
      (λ k.
      let c = any_true (λ c. any (wall_to g states pids r c) around) (cells_of g pids p) k in
      let d = any_true (wall_to g states pids r c.0) around c.2 in
      let i = in_cells g pids p c.0 c.1 in
      let o = both_true (stands g states 2 d.0 c.0) (ahead g pids r c.0 d.0) d.2 in
      let step = stands_step g states 2 d.0 c.0 i.0 o.0 in
      inr (record {
        near = c.0;
        far = next g d.0 c.0;
        wall = border g d.0 c.0;
        near_in = lp.apart f c.0 fn i.0 (sym i.1);
        between = (d.0, step);
        is_wall = stands_state g states 2 d.0 c.0 o.0;
        far_in = lp.apart (next g d.0 c.0) x step.cell' xn (eqb-true _ _ o.1);
      }))
      (either_true (eqb p r) (any (λ c. any (wall_to g states pids r c) around) (cells_of g pids p)) q)

  pub true_adjacent : (f x : ℕ) → Cell g f → Cell g x → Adjacent Nb s f x → adjacent g states pids (get_or pids f 0) (get_or pids x 0) ≡ true
  unfolding adjacent parted behind wall_to
  true_adjacent f x fn xn (inl j) = left_either (eqb (get_or pids f 0) (get_or pids x 0)) _ (eq-eqb _ _ (lp.alike f x fn xn j))
  true_adjacent f x fn xn (inr k) =
      let p = get_or pids f 0 in
      let r = get_or pids x 0 in
      let d = k.between.0 in
      let step = k.between.1 in
      right_either (eqb p r) _
      (true_any (λ c. any (wall_to g states pids r c) around) (cells_of g pids p) k.near
      (cells_in_lem g pids p k.near step.cell (sym (lp.alike f k.near fn step.cell k.near_in)))
      (true_any (wall_to g states pids r k.near) around d (in_around d)
      (true_both (stands g states 2 d k.near) (ahead g pids r k.near d) (step_stands g states 2 d k.near k.far k.wall step k.is_wall)
      (eq-eqb _ r (ap (λ i. get_or pids i 0) (sym (step_next g d k.near k.far k.wall step)) ∙ lp.alike k.far x step.cell' xn k.far_in)))))

  -- THE UNIT
  module _ (u : UnitInfo) (is : IsUnit g ids pids u) where
    pub same_unit : (a : ℕ) → Cell g a → get_or ids a 0 ≡ u.number → SameUnit Nb s u.first a
    same_unit a l q = lu.apart u.first a is.cell l (is.id ∙ sym q)

    pub unit_cell_lem : (a : ℕ) → SameUnit Nb s u.first a → Cell g a
    unit_cell_lem a j = chain_cell g (λ e. state_of states e ≡ 1) is.cell j

    pub unit_id : (a : ℕ) → SameUnit Nb s u.first a → get_or ids a 0 ≡ u.number
    unit_id a j = sym (lu.alike u.first a is.cell (unit_cell_lem a j) j) ∙ is.id

    in_cells_of : (a : ℕ) → SameUnit Nb s u.first a → In a u.cells
    in_cells_of a j = is.unit_in a (unit_cell_lem a j) (unit_id a j)

    -- THE OFFSET
    module _ (o : Offset) (T : ℕ → ℕ → Type 0) (moves : Moves g o T) where
      falls_true : (c : ℕ) → Cell g c → falls ids u o.put c ≡ true → (x : ℕ) × T c x × (SameUnit Nb s u.first x → ⊥)
      unfolding falls
      falls_true c l q =
          let k = holds_true (o.put c) (λ x. not (eqb (get_or ids x 0) u.number)) q in
          (k.0, moves.is_put c k.0 l k.1, λ j. eqb-false (get_or ids k.0 0) u.number (not-true _ k.2) (unit_id k.0 j))

      true_falls : (c x : ℕ) → T c x → (SameUnit Nb s u.first x → ⊥) → falls ids u o.put c ≡ true
      unfolding falls
      true_falls c x r z =
          true_holds (o.put c) (λ x. not (eqb (get_or ids x 0) u.number)) x (moves.puts c x r)
          (ap not (ne_eqb (get_or ids x 0) u.number (λ q. z (same_unit x (moves.to c x r) q))))

      meets_true : (c : ℕ) → Cell g c → meets g states pids u o.put c ≡ true → (x : ℕ) × T c x × Adjacent Nb s u.first x
      unfolding meets
      meets_true c l q =
          let k = holds_true (o.put c) (λ x. adjacent g states pids u.own (get_or pids x 0)) q in
          let r = moves.is_put c k.0 l k.1 in
          (k.0, r, adjacent_true u.first k.0 is.cell (moves.to c k.0 r) (sym (ap (λ p. adjacent g states pids p (get_or pids k.0 0)) is.own) ∙ k.2))

      true_meets : (c x : ℕ) → T c x → Adjacent Nb s u.first x → meets g states pids u o.put c ≡ true
      unfolding meets
      true_meets c x r k =
          true_holds (o.put c) (λ x. adjacent g states pids u.own (get_or pids x 0)) x (moves.puts c x r)
          (rw is.own (true_adjacent u.first x is.cell (moves.to c x r) k))

      abbrev test : Bool
      test = both (all (falls ids u o.put) u.cells) (any (meets g states pids u o.put) u.cells)

      tried_true : test ≡ true → Tried Nb s u.first T
      tried_true q =
          let p = both_true (all (falls ids u o.put) u.cells) (any (meets g states pids u o.put) u.cells) q in
          let k = any_true (meets g states pids u o.put) u.cells p.1 in
          let c = is.in_unit k.0 k.1 in
          let x = meets_true k.0 c.0 k.2 in
          record {
            falls = λ a j. falls_true a (unit_cell_lem a j) (all_true (falls ids u o.put) u.cells p.0 a (in_cells_of a j));
            meets = (k.0, x.0, same_unit k.0 c.0 c.1, x.1, x.2);
          }

      true_tried : Tried Nb s u.first T → test ≡ true
      true_tried k =
          let w = k.meets in
          true_both (all (falls ids u o.put) u.cells) (any (meets g states pids u o.put) u.cells)
          (true_all (falls ids u o.put) u.cells
          (λ a i. let c = is.in_unit a i in let x = k.falls a (same_unit a c.0 c.1) in true_falls a x.0 x.1 x.2))
          (true_any (meets g states pids u o.put) u.cells w.0 (in_cells_of w.0 w.2) (true_meets w.0 w.1 w.3 w.4))

      -- no landing fails
      module _ (free : landing g states ids u o ≡ none) where
        no_wall : (a c x y e e' : ℕ) → Ahead g a c e → SameUnit Nb s u.first a → SameUnit Nb s u.first c
            → T a x → T c y → Nb x y e' → state_of states e' ≢ 2
        unfolding inner_border
        no_wall a c x y e e' h ja jc p q k w =
            let d = h.0 in
            let step = h.2 in
            let step' = moves.step_on d a c x y e p q step in
            wall_free g states ids u o free a x d (in_cells_of a ja) h.1 (moves.puts a x p)
            (true_both (goes_on g d a) (ahead g ids u.number a d) (step_goes g d a c e step) (eq-eqb _ u.number (ap (λ i. get_or ids i 0) (sym (step_next g d a c e step)) ∙ unit_id c jc)))
            (step_stands g states 2 (o.turn d) x y (border g (o.turn d) x) step' (ap s (one_border g x y (border g (o.turn d) x) e' (o.turn d, step') k) ∙ w))

        no_connected : (a x y e' : ℕ) → SameUnit Nb s u.first a → T a x → Nb x y e' → state_of states e' ≡ 1
            → (c : ℕ) × (e : ℕ) × T c y × Nb a c e × (state_of states e ≢ 2)
        unfolding shut state_at
        no_connected a x y e' ja p k w =
            let d = moves.back k.0 in
            let step' = turned_step g o T moves k.0 x y e' k.1 in
            ⊎_elim
            (λ (z : shut g states a d ≡ true).
            absurd (connected_free g states ids u o free a x d (in_cells_of a ja) (moves.puts a x p) z (step_stands g states 1 (o.turn d) x y e' step' w)))
            (λ (z : shut g states a d ≡ false).
            let z' = either_false (not (goes_on g d a)) (eqb (state_at g states d a) 2) z in
            let step = goes_step g d a (moves.from a x p) (not-false _ z'.0) in
            (next g d a, border g d a, moves.follows d a (next g d a) x y (border g d a) e' p step step', (d, step), eqb-false _ 2 z'.1))
            (true_or_false (shut g states a d))

      pub good_true : is_good (try g states ids pids u o) ≡ true → Good Nb s u.first T
      unfolding try
      good_true q =
          let k = good_pick test (landing g states ids u o) q in
          record {
            tried = tried_true k.0;
            joins = λ a c x y e e' ja jc l p r l' w.
                ⊎_elim
                (λ h. no_wall k.1 a c x y e e' h ja jc p r l' w)
                (λ h. no_wall k.1 c a y x e e' h jc ja r p (neighbours_back g x y e' l') w)
                (down_or_right g a c e l);
            parts = λ a x y e' ja p l w. no_connected k.1 a x y e' ja p l w;
          }

      -- a failed landing, whose entry stands on S
      module _ (S : ℕ → ℕ) (l : ℕ) (stood : Stands S l) where
        wall_fails : (c : ℕ) (d : Direction) → In c u.cells → on_wall g states ids u o c d ≡ some l → OnWall Nb s S u.first T
        unfolding inner_border
        wall_fails c d i q =
            let z = is.in_unit c i in
            let x = wall_some g states ids u o c l d q in
            let p = moves.is_put c x.0 z.0 x.1 in
            let k = both_true (goes_on g d c) (ahead g ids u.number c d) x.2 in
            let step = goes_step g d c z.0 k.0 in
            let d' = o.turn d in
            let step' = stands_step g states 2 d' x.0 (moves.to c x.0 p) x.3 in
            record {
              a = c;
              b = next g d c;
              x = x.0;
              y = next g d' x.0;
              e = border g d c;
              e' = border g d' x.0;
              in_a = same_unit c z.0 z.1;
              in_b = same_unit (next g d c) step.cell' (eqb-true _ u.number k.1);
              inner = (d, step);
              puts_a = p;
              puts_b = moves.follows d c (next g d c) x.0 (next g d' x.0) (border g d c) (border g d' x.0) p step step';
              lands = (d', step');
              is_wall = stands_wall S (border g d' x.0) (rw x.4 at stood);
            }

        connected_fails : (c : ℕ) (d : Direction) → In c u.cells → on_connected g states o c d ≡ some l → OnConnected Nb s S u.first T
        unfolding shut state_at
        connected_fails c d i q =
            let z = is.in_unit c i in
            let x = connected_some g states ids u o c l d q in
            let p = moves.is_put c x.0 z.0 x.1 in
            let d' = o.turn d in
            let step' = stands_step g states 1 d' x.0 (moves.to c x.0 p) x.3 in
            record {
              a = c;
              x = x.0;
              y = next g d' x.0;
              e' = border g d' x.0;
              in_a = same_unit c z.0 z.1;
              puts_a = p;
              shut = λ v e r k.
                  let step = moves.step_off d c v x.0 (next g d' x.0) (border g d' x.0) p r step' in
                  ap s (one_border g c v e (border g d c) k (d, step)) ∙
                  ⊎_elim
                  (λ (z : not (goes_on g d c) ≡ true). absurd (true≢false (sym (step_goes g d c v (border g d c) step) ∙ not-true _ z)))
                  (λ (z : eqb (state_at g states d c) 2 ≡ true). eqb-true (state_at g states d c) 2 z)
                  (either_true (not (goes_on g d c)) (eqb (state_at g states d c) 2) x.2);
              lands = (d', step');
              is_connected = stands_connected S (border g d' x.0) (rw x.4 at stood);
            }

        landing_fails : landing g states ids u o ≡ some l → Fails Nb s S u.first T
        landing_fails q =
            ⊎_elim
            (λ (k : (c : ℕ) × (d : Direction) × In c u.cells × (on_wall g states ids u o c d ≡ some l)). inl (wall_fails k.0 k.1 k.2 k.3))
            (λ (k : (c : ℕ) × (d : Direction) × In c u.cells × (on_connected g states o c d ≡ some l)). inr (connected_fails k.0 k.1 k.2 k.3))
            (landing_some g states ids u o l q)

      -- an offset that is tried and not good gave an entry, and failed
      pub tried_fails : (S : ℕ → ℕ) → Standing S (entry_of (try g states ids pids u o)) → (is_good (try g states ids pids u o) ≡ true → ⊥)
          → Tried Nb s u.first T → Fails Nb s S u.first T
      unfolding try is_good entry_of landed
      tried_fails S stood bad k =
          let q : test ≡ true = true_tried k in
          let land = landing g states ids u o in
          let r : try g states ids pids u o ≡ landed land = ap (λ t. pick t (landed land) Passed) q in
          ⊎_elim
          (λ (z : land ≡ none). absurd (bad (ap is_good (r ∙ ap landed z))))
          (λ (z : (l : ℕ) × (land ≡ some l)).
          landing_fails S z.0 (stood z.0 (subst (λ (y : Try). In z.0 (entry_of y)) (sym (r ∙ ap landed z.1)) (inl refl))) z.1)
          (none_or_some land)
