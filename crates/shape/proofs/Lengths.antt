-- How long the check's list is at most: one failed landing for each offset of each image, 4 entries a cell for the unit, and 4 a cell for the
-- adjacent potential units, which have no cell in common. Assumes nothing.
use Prim.Native.Nat.{ℕ, zero, suc, ◌+◌, ◌*◌, ◌≤◌, ◌<◌}
use mathlib.Core.Path.{◌≡◌, refl, ap}
use mathlib.Core.Logic.{◌≢◌, ⊎_elim}
use mathlib.Core.Bool.{Bool, true, false, not}
use mathlib.Core.List.{List, [], ◌∷◌, ◌++◌}
use mathlib.Core.Option.{some}
use native.Mathlib.Omega.{arith}
use native.Mathlib.Nat.{add-mul}
use borrow.Author.Tests.{ne_eqb}
use lib.Dec.{eqb}
use lib.ListN.{get_or, length, length-append}
use Rattle.lists.specs.Choice.{when}
use Rattle.lists.specs.Lists.{count_from, range, keep, gather, first}
use Rattle.lists.proofs.Cases.{eq_or_ne}
use Rattle.lists.proofs.ChoiceLaws.{give_some, or_else_some}
use Rattle.lists.proofs.ListLaws.{first_some, range_length}
use Rattle.grid.specs.declared.Grid.{Grid}
use Rattle.grid.specs.Grid.{cells, next, border}
use Rattle.images.specs.declared.Image.{Image}
use Rattle.borders.specs.Entry.{wall_entry}
use Rattle.groups.specs.Groups.{cells_in, cells_of}
use Rattle.boundary.specs.Boundary.{unit_boundary, potential_boundary}
use Rattle.boundary.proofs.Lengths.{when_most, gather_most, gather_both, gather_times}
use Rattle.boundary.proofs.BoundaryLaws.{unit_most, potential_most, cells_most}
use Rattle.path.specs.Path.{path_list}
use Rattle.path.proofs.PathLaws.{path_list_short}
use Rattle.shape.specs.Shape.{inner_wall, adjacent, UnitInfo, unit_of, entry_of, try_at, fits, failures_by, failures, boundaries, unit_fault, fault_in}
use Rattle.shape.specs.declared.Try.{Try}
use Rattle.shape.specs.declared.Try.TheVariants.{Passed, Good, Failed}
use Rattle.shape.proofs.InnerWalls.{inner_at_lem}

-- rising numbers, from a on
abbrev Rising : ℕ → List ℕ → Type 0
Rising a [] = Unit {0}
Rising a (x ∷ xs) = (a ≤ x) × Rising (suc x) xs

rising_lower : (a : ℕ) (xs : List ℕ) → Rising (suc a) xs → Rising a xs
rising_lower a [] s = tt
rising_lower a (x ∷ xs) s = (omega (arith, s.0), s.1)

rising_when : (t : Bool) (a : ℕ) (xs : List ℕ) → Rising (suc a) xs → Rising a (when t a ++ xs)
unfolding when
rising_when true a xs s = (omega arith, s)
rising_when false a xs s = rising_lower a xs s

rising_keep : (p : ℕ → Bool) (a n : ℕ) → Rising a (keep p (count_from a n))
unfolding keep count_from
rising_keep p a zero = tt
rising_keep p a (suc n) = rising_when (p a) a (keep p (count_from (suc a) n)) (rising_keep p (suc a) n)

-- a cell is in at most one of several groups
when_not : (i k x : ℕ) → i ≢ k → length (when (eqb i k) x) ≡ 0
unfolding when
when_not i k x z = rw (ne_eqb i k z)

in_none : (i a x : ℕ) (ks : List ℕ) → i < a → Rising a ks → length (gather (λ k. when (eqb i k) x) ks) ≡ 0
unfolding gather
in_none i a x [] l s = refl
in_none i a x (k ∷ ks) l s =
    omega (
      arith,
      length-append (when (eqb i k) x) (gather (λ k. when (eqb i k) x) ks),
      when_not i k x (omega (arith, s.0)),
      in_none i (suc k) x ks (omega (arith, s.0)) s.1,
    )

in_one : (i a x : ℕ) (ks : List ℕ) → Rising a ks → length (gather (λ k. when (eqb i k) x) ks) ≤ 1
unfolding gather
in_one i a x [] s = omega arith
in_one i a x (k ∷ ks) s =
    let both = length-append (when (eqb i k) x) (gather (λ k. when (eqb i k) x) ks) in
    ⊎_elim
    (λ (q : i ≡ k). omega (arith, both, when_most (eqb i k) x, in_none i (suc k) x ks (omega arith) s.1))
    (λ (z : i ≢ k). omega (arith, both, when_not i k x z, in_one i (suc k) x ks s.1))
    (eq_or_ne i k)

gather_none : (ks : List ℕ) → length (gather {B = ℕ} (λ (k : ℕ). []) ks) ≡ 0
unfolding gather
gather_none [] = refl
gather_none (k ∷ ks) = gather_none ks

apart : (ids ks : List ℕ) (a : ℕ) → Rising a ks → (cs : List ℕ) → length (gather (λ k. keep (λ c. eqb (get_or ids c 0) k) cs) ks) ≤ length cs
unfolding keep
apart ids ks a s [] = omega (arith, gather_none ks)
apart ids ks a s (c ∷ cs) =
    omega (
      arith,
      gather_both (λ k. when (eqb (get_or ids c 0) k) c) (λ k. keep (λ c. eqb (get_or ids c 0) k) cs) ks,
      in_one (get_or ids c 0) a c ks s,
      apart ids ks a s cs,
    )

groups_most : (g : Grid) (ids : List ℕ) (p : ℕ → Bool) (n : ℕ) → length (gather (cells_of g ids) (keep p (range n))) ≤ cells g
unfolding cells_in range
groups_most g ids p n = omega (arith, apart ids (keep p (range n)) 0 (rising_keep p 0 n) (range (cells g)), range_length (cells g))

entry_most : (t : Try) → length (entry_of t) ≤ 1
unfolding entry_of
entry_most Passed = omega arith
entry_most Good = omega arith
entry_most (Failed l) = omega arith

module _ (ms : List Image) (g : Grid) (states ids pids : List ℕ) (u : UnitInfo) where
  by_most : (m : Image) → length (failures_by g states ids pids u m) ≤ cells g
  unfolding failures_by
  by_most m =
      omega (
        arith,
        gather_most (λ t. entry_of (try_at m g states ids pids u t)) 1 (λ t. entry_most (try_at m g states ids pids u t)) (range (cells g)),
        range_length (cells g),
      )

  pub failures_most : length (failures ms g states ids pids u) ≤ length ms * cells g
  unfolding failures
  failures_most = gather_most (failures_by g states ids pids u) (cells g) by_most ms

module _ (g : Grid) (states ids pids : List ℕ) (n : ℕ) (u : UnitInfo) where
  pub boundaries_most : length (boundaries g states ids pids n u) ≤ 8 * cells g
  unfolding boundaries
  boundaries_most =
      let near : List ℕ = keep (adjacent g states pids u.own) (range n) in
      omega (
        arith,
        length-append (unit_boundary g states ids u.number) (gather (potential_boundary g states pids) near),
        unit_most g states ids u.number,
        cells_most g ids u.number,
        gather_times (potential_boundary g states pids) (cells_of g pids) 4 (potential_most g states pids) near,
        groups_most g pids (adjacent g states pids u.own) n,
      )

pub fault_most : (ms : List Image) (g : Grid) (states ids pids : List ℕ) (m n : ℕ) (L : List ℕ) → fault_in ms g states ids pids m n ≡ some L
    → length L ≤ (length ms + 8) * cells g
unfolding fault_in unit_fault
fault_most ms g states ids pids m n L q =
    let most : (length ms + 8) * cells g ≡ length ms * cells g + 8 * cells g = add-mul (length ms) 8 (cells g) in
    ⊎_elim
    (λ k.
    let o = inner_at_lem g states ids L k in
    let path : List ℕ = path_list g states o.c (next g o.d o.c) in
    omega (arith, most, ap length o.list, length-append path (wall_entry (border g o.d o.c) ∷ []), path_list_short g states o.c (next g o.d o.c) o.cell))
    (λ k.
    let i = first_some (unit_fault ms g states ids pids n) (range m) L k in
    let u = unit_of g ids pids i.0 in
    let o = give_some (not (fits ms g states ids pids u)) (failures ms g states ids pids u ++ boundaries g states ids pids n u) L i.2 in
    omega (
      arith,
      most,
      ap length o.1,
      length-append (failures ms g states ids pids u) (boundaries g states ids pids n u),
      failures_most ms g states ids pids u,
      boundaries_most g states ids pids n u,
    ))
    (or_else_some (inner_wall g states ids) (first (unit_fault ms g states ids pids n) (range m)) L q)
