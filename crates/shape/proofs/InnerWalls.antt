-- The first stage: its list stands, and stands on no board without a Wall inside a unit; where it finds nothing there is none. Assumes nothing.
use Prim.Native.Nat.{ℕ}
use mathlib.Core.Path.{◌≡◌, refl, ap, ◌∙◌, subst}
use mathlib.Core.Logic.{inl, ⊎_elim}
use mathlib.Core.Bool.{true}
use mathlib.Core.List.{List, [], ◌∷◌, ◌++◌}
use mathlib.Core.Option.{none, some}
use borrow.Author.Tests.{eqb-true, eq-eqb}
use lib.Dec.{eqb}
use lib.ListN.{get_or}
use Rattle.lists.specs.Choice.{both}
use Rattle.lists.specs.Lists.{In, range}
use Rattle.lists.proofs.Cases.{not_both}
use Rattle.lists.proofs.ChoiceLaws.{both_true, true_both, give_some, give_none}
use Rattle.lists.proofs.ListLaws.{in_left, in_right, in_append, first_of_both, none_of_both, range_in, in_range}
use Rattle.frame.specs.Frame.{States, SameUnit, NoInnerWall}
use Rattle.frame.proofs.Chains.{unit_back}
use Rattle.grid.specs.declared.Direction.{Direction}
use Rattle.grid.specs.declared.Grid.{Grid}
use Rattle.grid.specs.Grid.{cells, Cell, next, border}
use Rattle.grid.specs.Steps.{Step, Neighbours}
use Rattle.grid.proofs.Geometry.{step_next, neighbours_back}
use Rattle.borders.specs.Entry.{wall_entry, Standing}
use Rattle.borders.specs.Border.{state_of, stands}
use Rattle.borders.proofs.EntryLaws.{stands_wall, wall_stands}
use Rattle.borders.proofs.BorderLaws.{stands_state, stands_step, step_stands}
use Rattle.grid.specs.Orders.{forward}
use Rattle.borders.proofs.Directions.{Ahead, down_or_right}
use Rattle.groups.proofs.GroupLaws.{Labels}
use Rattle.path.specs.Path.{path_of, path_list}
use Rattle.path.proofs.PathLaws.{path_list_lem, path_leads, path_stands, leads_joins}
use Rattle.shape.specs.Shape.{inner_at, inner_wall}

-- where the list comes from: a Wall between two cells of one number, and the path from the one to the other
pub record Inner (g : Grid) (states ids L : List ℕ) : Type 0 where
  pub c : ℕ
  pub d : Direction
  pub cell : Cell g c
  pub wall : stands g states 2 d c ≡ true
  pub same : get_or ids c 0 ≡ get_or ids (next g d c) 0
  pub list : L ≡ path_list g states c (next g d c) ++ (wall_entry (border g d c) ∷ [])

pub inner_at_lem : (g : Grid) (states ids L : List ℕ) → inner_wall g states ids ≡ some L → Inner g states ids L
unfolding inner_wall inner_at
inner_at_lem g states ids L q =
    let k = first_of_both (inner_at g states ids) (range (cells g)) forward L q in
    let c = k.0 in
    let d = k.1 in
    let there = next g d c in
    let test = eqb (get_or ids c 0) (get_or ids there 0) in
    let o = give_some (both (stands g states 2 d c) test) (path_list g states c there ++ (wall_entry (border g d c) ∷ [])) L k.3 in
    let r = both_true (stands g states 2 d c) test o.0 in
    record { c = c; d = d; cell = in_range (cells g) c k.2; wall = r.0; same = eqb-true _ _ r.1; list = o.1 }

module _ (g : Grid) (states ids : List ℕ) (m : ℕ) (lu : Labels g ids m (SameUnit (Neighbours g) (state_of states))) where
  ahead_free : inner_wall g states ids ≡ none → (a c e : ℕ) → Ahead g a c e → state_of states e ≡ 2 → SameUnit (Neighbours g) (state_of states) a c → ⊥
  unfolding inner_wall inner_at
  ahead_free q a c e h w j =
      let d = h.0 in
      let s = h.2 in
      not_both _
      (true_both (stands g states 2 d a) (eqb (get_or ids a 0) (get_or ids (next g d a) 0)) (step_stands g states 2 d a c e s w)
      (eq-eqb _ _ (lu.alike a c s.cell s.cell' j ∙ ap (λ i. get_or ids i 0) (step_next g d a c e s))))
      (give_none _ (path_list g states a (next g d a) ++ (wall_entry (border g d a) ∷ []))
      (none_of_both (inner_at g states ids) (range (cells g)) forward q a d (range_in (cells g) a s.cell) h.1))

  pub inner_none : inner_wall g states ids ≡ none → NoInnerWall (Neighbours g) (state_of states)
  inner_none q a c e w z j =
      ⊎_elim
      (λ h. ahead_free q a c e h z j)
      (λ h. ahead_free q c a e h z (unit_back (Neighbours g) (neighbours_back g) (state_of states) j))
      (down_or_right g a c e w)

  module _ (L : List ℕ) (q : inner_wall g states ids ≡ some L) where
    abbrev at : Inner g states ids L
    at = inner_at_lem g states ids L q

    -- the Wall's other cell, the Wall, and the path round it
    abbrev there : ℕ
    there = next g at.d at.c

    abbrev wall : ℕ
    wall = border g at.d at.c

    abbrev round : List ℕ
    round = path_list g states at.c there

    step : Step g at.d at.c there wall
    step = stands_step g states 2 at.d at.c at.cell at.wall

    found : path_of g states at.c there ≡ some round
    found = path_list_lem g states at.c there at.cell (lu.apart at.c there at.cell step.cell' at.same)

    pub inner_stands : Standing (state_of states) L
    inner_stands l i =
        ⊎_elim
        (λ j. path_stands g states at.c there at.cell round found l j)
        (λ j.
        ⊎_elim
        (λ (e : l ≡ wall_entry wall). rw e (wall_stands (state_of states) wall (stands_state g states 2 at.d at.c at.wall)))
        (λ (e : ⊥). absurd e)
        j)
        (in_append l round (wall_entry wall ∷ []) (subst (λ (xs : List ℕ). In l xs) at.list i))

    pub inner_never : (S : States) → Standing S L → NoInnerWall (Neighbours g) S → ⊥
    inner_never S stood law =
        let stood' : Standing S (round ++ (wall_entry wall ∷ [])) = subst (λ (xs : List ℕ). Standing S xs) at.list stood in
        law at.c there wall (at.d, step)
        (stands_wall S wall (stood' (wall_entry wall) (in_right (wall_entry wall) round (wall_entry wall ∷ []) (inl refl))))
        (leads_joins g at.c (path_leads g states at.c there at.cell round found) S (λ l i. stood' l (in_left l round (wall_entry wall ∷ []) i)))
