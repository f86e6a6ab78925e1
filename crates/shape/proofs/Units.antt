-- One unit's stage: a fault's list stands, and stands on no board where the unit has a good offset; a unit without a fault has one. Assumes nothing.
use Prim.Native.Nat.{ℕ, ◌<◌}
use mathlib.Core.Path.{◌≡◌, refl, ap, sym, subst}
use mathlib.Core.Logic.{◌⊎◌, inl, inr, ◌≢◌, ⊎_elim}
use mathlib.Core.Bool.{true, false, not}
use mathlib.Core.List.{List, [], ◌∷◌, ◌++◌}
use mathlib.Core.Option.{none, some}
use borrow.Author.Tests.{not-true}
use lib.ListN.{get_or}
use Rattle.lists.specs.Choice.{both}
use Rattle.lists.specs.Lists.{In, range, keep, any, all}
use Rattle.lists.proofs.Cases.{eq_or_ne, true_or_false, not_both}
use Rattle.lists.proofs.ChoiceLaws.{give_some, give_none}
use Rattle.lists.proofs.ListLaws.{in_left, in_right, in_append, keep_in, any_true, true_any, in_gather, gather_in, range_in, in_range}
use Rattle.frame.specs.Frame.{Relation, States, on, SameUnit, SamePotential, Adjacent}
use Rattle.frame.proofs.Offset.{Good, Reason}
use Rattle.frame.proofs.Never.{never_good}
use Rattle.grid.specs.declared.Grid.{Grid}
use Rattle.grid.specs.Grid.{cells, Cell}
use Rattle.grid.specs.Steps.{Neighbours}
use Rattle.grid.proofs.Geometry.{neighbours_back}
use Rattle.images.specs.declared.Image.{Image}
use Rattle.borders.specs.Entry.{connected_entry, wall_entry, Standing}
use Rattle.borders.specs.Border.{state_of}
use Rattle.borders.proofs.EntryLaws.{stands_wall, stands_connected}
use Rattle.groups.specs.Groups.{cells_of}
use Rattle.groups.proofs.GroupLaws.{Labels, in_cells, cells_in_lem, chain_cell}
use Rattle.boundary.specs.Boundary.{unit_boundary, potential_boundary}
use Rattle.boundary.proofs.BoundaryLaws.{connected_listed, wall_listed, bounding_listed, unit_stands, potential_stands}
use Rattle.shape.specs.Shape.{adjacent, offset, Offset, UnitInfo, head_or0, unit_of, falls, meets, landing, try, is_good, entry_of, try_at, fits_by, fits, failures_by, failures, boundaries, unit_fault}
use Rattle.shape.specs.Laws.{Takes}
use Rattle.shape.proofs.Moves.{placement}
use Rattle.shape.proofs.Placing.{place_moves}
use Rattle.shape.proofs.Offsets.{IsUnit, entry_pick, landing_stands, true_adjacent, unit_id, good_true, tried_fails}

head_in : (cs : List ℕ) (c : ℕ) → In c cs → In (head_or0 cs) cs
unfolding head_or0
head_in [] c m = absurd m
head_in (b ∷ cs) c m = inl refl

-- EACH ENTRY STANDS AS LISTED
module _ (ms : List Image) (g : Grid) (states ids pids : List ℕ) (n : ℕ) where
  failures_stand : (u : UnitInfo) → Standing (state_of states) (failures ms g states ids pids u)
  unfolding failures failures_by try_at try
  failures_stand u l i =
      let m = in_gather (failures_by g states ids pids u) ms l i in
      let t = in_gather (λ t. entry_of (try_at m.0 g states ids pids u t)) (range (cells g)) l m.2 in
      let o : Offset = offset m.0 g u.first t.0 in
      landing_stands g states ids u o l
      (entry_pick (both (all (falls ids u o.put) u.cells) (any (meets g states pids u o.put) u.cells)) (landing g states ids u o) l t.2)

  boundaries_stand : (u : UnitInfo) → Standing (state_of states) (boundaries g states ids pids n u)
  unfolding boundaries
  boundaries_stand u l m =
      ⊎_elim
      (λ i. unit_stands g states ids u.number l i)
      (λ i. let q = in_gather (potential_boundary g states pids) (keep (adjacent g states pids u.own) (range n)) l i in potential_stands g states pids q.0 l q.2)
      (in_append l (unit_boundary g states ids u.number) _ m)

  -- the list of a fault, and that no offset was good
  fault_list : (k : ℕ) (L : List ℕ) → unit_fault ms g states ids pids n k ≡ some L
      → (fits ms g states ids pids (unit_of g ids pids k) ≡ false) × (L ≡ failures ms g states ids pids (unit_of g ids pids k) ++ boundaries g states ids pids n (unit_of g ids pids k))
  unfolding unit_fault
  fault_list k L q =
      let u = unit_of g ids pids k in
      let o = give_some (not (fits ms g states ids pids u)) (failures ms g states ids pids u ++ boundaries g states ids pids n u) L q in
      (not-true _ o.0, o.1)

  pub unit_fault_stands : (k : ℕ) (L : List ℕ) → unit_fault ms g states ids pids n k ≡ some L → Standing (state_of states) L
  unit_fault_stands k L q l m =
      let u = unit_of g ids pids k in
      ⊎_elim
      (λ i. failures_stand u l i)
      (λ i. boundaries_stand u l i)
      (in_append l (failures ms g states ids pids u) _ (subst (λ (xs : List ℕ). In l xs) (fault_list k L q).1 m))

module _ (ms : List Image) (g : Grid) (states ids pids : List ℕ) (m n : ℕ)
    (lu : Labels g ids m (SameUnit (Neighbours g) (state_of states))) (lp : Labels g pids n (SamePotential (Neighbours g) (state_of states))) where
  abbrev Nb : Relation
  Nb = Neighbours g

  abbrev s : States
  s = state_of states

  -- each number below the count is a unit's
  unit_is : (k : ℕ) → k < m → IsUnit g ids pids (unit_of g ids pids k)
  unfolding unit_of
  unit_is k l =
      let c = lu.used k l in
      let cs = cells_of g ids k in
      let f = in_cells g ids k (head_or0 cs) (head_in cs c.0 (cells_in_lem g ids k c.0 c.1 c.2)) in
      record { in_unit = in_cells g ids k; unit_in = cells_in_lem g ids k; cell = f.0; id = f.1; own = refl }

  adjacent_cell : (f q : ℕ) → Cell g f → Adjacent Nb s f q → Cell g q
  adjacent_cell f q l (inl j) = chain_cell g (λ e. state_of states e ≢ 2) l j
  adjacent_cell f q l (inr p) = chain_cell g (λ e. state_of states e ≢ 2) p.between.1.cell' p.far_in

  -- WHAT THE BOUNDARY LISTS SAY of a board on which they stand
  module _ (u : UnitInfo) (is : IsUnit g ids pids u) (S : States) (stood : Standing S (boundaries g states ids pids n u)) where
    stood_unit : Standing S (unit_boundary g states ids u.number)
    unfolding boundaries
    stood_unit l i = stood l (in_left l (unit_boundary g states ids u.number) _ i)

    stood_potential : (q : ℕ) → q < n → adjacent g states pids u.own q ≡ true → Standing S (potential_boundary g states pids q)
    unfolding boundaries
    stood_potential q l a e i =
        stood e (in_right e (unit_boundary g states ids u.number) _
        (gather_in (potential_boundary g states pids) (keep (adjacent g states pids u.own) (range n)) q e (keep_in (adjacent g states pids u.own) (range n) q (range_in n q l) a) i))

    bounds : (q a c e : ℕ) → Adjacent Nb s u.first q → SamePotential Nb s q a → Nb a c e → state_of states e ≡ 2
        → SamePotential Nb s q c ⊎ (S e ≡ 2)
    bounds q a c e k j w z =
        let qn = adjacent_cell u.first q is.cell k in
        let p = get_or pids q 0 in
        ⊎_elim
        (λ (y : get_or pids c 0 ≡ p). inl (lp.apart q c qn w.1.cell' (sym y)))
        (λ (y : get_or pids c 0 ≢ p).
        inr (stands_wall S e
        (stood_potential p (lp.small q qn) (rw is.own (true_adjacent g states ids pids m n lu lp u.first q is.cell qn k)) (wall_entry e)
        (bounding_listed g states pids p a c e w (sym (lp.alike q a qn w.1.cell j)) y z))))
        (eq_or_ne (get_or pids c 0) p)

    reason : Reason Nb s S u.first
    reason =
        let id : (a : ℕ) → SameUnit Nb s u.first a → get_or ids a 0 ≡ u.number = unit_id g states ids pids m n lu lp u is in
        record {
          joins = λ a c e j w q. stands_connected S e (stood_unit (connected_entry e) (connected_listed g states ids u.number a c e w (id a j) (id c (on j (e, w, q))) q));
          walls = λ a c e j w q. stands_wall S e (stood_unit (wall_entry e) (wall_listed g states ids u.number a c e w (id a j) q));
          bounds = bounds;
        }

  -- each offset of each image comes up
  failure_in : (u : UnitInfo) (i : Image) → In i ms → (t : ℕ) → t < cells g → (e : ℕ) → In e (entry_of (try_at i g states ids pids u t)) → In e (failures ms g states ids pids u)
  unfolding failures failures_by
  failure_in u i k t l e w =
      gather_in (failures_by g states ids pids u) ms i e k
      (gather_in (λ t. entry_of (try_at i g states ids pids u t)) (range (cells g)) t e (range_in (cells g) t l) w)

  good_fits : (u : UnitInfo) (i : Image) → In i ms → (t : ℕ) → t < cells g → is_good (try_at i g states ids pids u t) ≡ true → fits ms g states ids pids u ≡ true
  unfolding fits fits_by
  good_fits u i k t l q =
      true_any (fits_by g states ids pids u) ms i k (true_any (λ t. is_good (try_at i g states ids pids u t)) (range (cells g)) t (range_in (cells g) t l) q)

  fits_good : (u : UnitInfo) → fits ms g states ids pids u ≡ true
      → (i : Image) × In i ms × (t : ℕ) × Cell g t × (is_good (try_at i g states ids pids u t) ≡ true)
  unfolding fits fits_by
  fits_good u q =
      let i = any_true (fits_by g states ids pids u) ms q in
      let t = any_true (λ t. is_good (try_at i.0 g states ids pids u t)) (range (cells g)) i.2 in
      (i.0, i.1, t.0, in_range (cells g) t.0 t.1, t.2)

  -- THE UNIT'S LIST stands on no board where the unit has a good offset
  pub unit_never : (k : ℕ) → k < m → (L : List ℕ) → unit_fault ms g states ids pids n k ≡ some L → (S : States) → Standing S L
      → (f : ℕ) × Cell g f × ((i : Image) → In i ms → (t : ℕ) → Cell g t → Good Nb S f (Takes i g f t) → ⊥)
  unfolding try_at
  unit_never k l L q S stood =
      let u = unit_of g ids pids k in
      let is = unit_is k l in
      let o = fault_list ms g states ids pids n k L q in
      let stood' : Standing S (failures ms g states ids pids u ++ boundaries g states ids pids n u) = subst (λ (xs : List ℕ). Standing S xs) o.1 stood in
      let told = reason u is S (λ e i. stood' e (in_right e (failures ms g states ids pids u) _ i)) in (
        u.first,
        is.cell,
        λ i ik t tn good.
            let T : ℕ → ℕ → Type 0 = Takes i g u.first t in
            let moves = place_moves i g u.first t in
            never_good Nb (neighbours_back g) s S u.first told T (placement g (offset i g u.first t) T moves) good
            (tried_fails g states ids pids m n lu lp u is (offset i g u.first t) T moves S
            (λ e w. stood' e (in_left e (failures ms g states ids pids u) _ (failure_in u i ik t tn e w)))
            (λ y. not_both _ (good_fits u i ik t tn y) o.0)),
      )

  -- a unit without a fault has a good offset
  pub unit_good : (k : ℕ) → k < m → unit_fault ms g states ids pids n k ≡ none
      → (f : ℕ) × Cell g f × (get_or ids f 0 ≡ k) × (i : Image) × In i ms × (t : ℕ) × Cell g t × Good Nb s f (Takes i g f t)
  unfolding unit_fault try_at unit_of
  unit_good k l q =
      let u = unit_of g ids pids k in
      let is = unit_is k l in
      ⊎_elim
      (λ (y : fits ms g states ids pids u ≡ true).
      let w = fits_good u y in
      let f = u.first in (
        f,
        is.cell,
        is.id,
        w.0,
        w.1,
        w.2,
        w.3,
        good_true g states ids pids m n lu lp u is (offset w.0 g f w.2) (Takes w.0 g f w.2) (place_moves w.0 g f w.2) w.4,
      ))
      (λ (y : fits ms g states ids pids u ≡ false). absurd (not_both _ (ap not y) (give_none _ (failures ms g states ids pids u ++ boundaries g states ids pids n u) q)))
      (true_or_false (fits ms g states ids pids u))
