-- The check's answer depends on the board's borders alone: two records with the same borders standing are answered alike, list included. Assumes nothing.
use Prim.Native.Nat.{ℕ}
use mathlib.Core.Path.{◌≡◌, ap, ap₂, ◌∙◌}
use mathlib.Core.Bool.{Bool, true, false, not}
use mathlib.Core.List.{List, [], ◌∷◌, ◌++◌}
use mathlib.Core.Option.{some}
use borrow.Author.Tests.{not-false}
use lib.Dec.{eqb}
use lib.ListN.{get_or}
use Rattle.lists.specs.Choice.{both, either, pick, give, or_else}
use Rattle.lists.specs.Lists.{In, range, keep, any, all, gather, first}
use Rattle.lists.proofs.ListLaws.{in_range}
use Rattle.grid.specs.declared.Direction.{Direction}
use Rattle.grid.specs.declared.Grid.{Grid}
use Rattle.grid.specs.Grid.{cells, Cell, goes_on, next, border}
use Rattle.images.specs.declared.Image.{Image}
use Rattle.borders.specs.Entry.{connected_entry, wall_entry}
use Rattle.borders.proofs.Congruence.{either_same, holds_same, keep_same, any_same, through_same, gather_same, first_same}
use Rattle.grid.specs.Orders.{around, forward}
use Rattle.borders.proofs.Agreement.{Agree, state_reads, stands_reads}
use Rattle.parts.specs.Parts.{Edge, roots, begun_in, parts}
use Rattle.groups.specs.Groups.{passes, edges, group_ids, group_count, cells_of}
use Rattle.groups.proofs.GroupLaws.{in_cells}
use Rattle.groups.proofs.Agreement.{edges_agree}
use Rattle.path.proofs.Agreement.{list_agrees}
use Rattle.boundary.specs.Boundary.{ahead, potential_boundary}
use Rattle.boundary.proofs.Agreement.{unit_agrees, potential_agrees}
use Rattle.shape.specs.Shape.{inner_at, inner_wall, wall_to, behind, parted, adjacent, Offset, offset, UnitInfo, unit_of, falls, meets, inner_border, shut, on_wall, on_connected, landing, landed, try, is_good, entry_of, try_at, fits_by, fits, failures_by, failures, boundaries, unit_fault, fault_in, shape_fault}
use Rattle.shape.specs.declared.Try.TheVariants.{Passed}
use Rattle.shape.proofs.Placing.{place_moves}

module _ (ms : List Image) (g : Grid) (a b : List ℕ) (agree : Agree g a b) where
  -- GROUPS
  board_edges_agree : (potential : Bool) → edges g a potential ≡ edges g b potential
  board_edges_agree potential = edges_agree g _ _ (λ e h. ap (passes potential) (agree e h))

  ids_agree : (potential : Bool) → group_ids g a potential ≡ group_ids g b potential
  unfolding group_ids
  ids_agree potential = ap (parts (cells g)) (board_edges_agree potential)

  count_agrees : (potential : Bool) → group_count g a potential ≡ group_count g b potential
  unfolding group_count
  count_agrees potential = ap (λ (E : List Edge). begun_in (roots (cells g) E) (cells g)) (board_edges_agree potential)

  module _ (ids pids : List ℕ) where
    -- INNER WALLS
    inner_agrees : inner_wall g a ids ≡ inner_wall g b ids
    unfolding inner_wall inner_at
    inner_agrees =
        first_same (λ c. first (inner_at g a ids c) forward) (λ c. first (inner_at g b ids c) forward) (range (cells g))
        (λ c m.
        let cell = in_range (cells g) c m in
        first_same (inner_at g a ids c) (inner_at g b ids c) forward
        (λ d i.
        ap₂ (λ t p. give (both t (eqb (get_or ids c 0) (get_or ids (next g d c) 0))) (p ++ (wall_entry (border g d c) ∷ [])))
        (stands_reads g a b agree d c cell 2) (list_agrees g a b agree c (next g d c) cell)))

    -- OFFSETS
    adjacent_agrees : (p q : ℕ) → adjacent g a pids p q ≡ adjacent g b pids p q
    unfolding adjacent parted behind wall_to
    adjacent_agrees p q =
        ap (either (eqb p q))
        (any_same (λ c. any (wall_to g a pids q c) around) (λ c. any (wall_to g b pids q c) around) (cells_of g pids p)
        (λ c m.
        any_same (wall_to g a pids q c) (wall_to g b pids q c) around (λ d i. ap (λ t. both t (ahead g pids q c d)) (stands_reads g a b agree d c (in_cells g pids p c m).0 2))))

    -- a unit whose cells are the board's, and an offset that stays on it
    module _ (u : UnitInfo) (on : (c : ℕ) → In c u.cells → Cell g c) (o : Offset) (to : (c x : ℕ) → Cell g c → o.put c ≡ some x → Cell g x) where
      wall_agrees : (c : ℕ) (d : Direction) → Cell g c → on_wall g a ids u o c d ≡ on_wall g b ids u o c d
      unfolding on_wall
      wall_agrees c d cell =
          through_same (o.put c) _ _ (λ x q. ap (λ t. give (both (inner_border g ids u c d) t) (wall_entry (border g (o.turn d) x))) (stands_reads g a b agree (o.turn d) x (to c x cell q) 2))

      shut_agrees : (c : ℕ) (d : Direction) → Cell g c → shut g a c d ≡ shut g b c d
      unfolding shut
      shut_agrees c d cell = either_same (not (goes_on g d c)) _ _ (λ q. ap (λ s. eqb s 2) (state_reads g a b agree d c cell (not-false _ q)))

      connected_agrees : (c : ℕ) (d : Direction) → Cell g c → on_connected g a o c d ≡ on_connected g b o c d
      unfolding on_connected
      connected_agrees c d cell =
          through_same (o.put c) _ _ (λ x q. ap₂ (λ s t. give (both s t) (connected_entry (border g (o.turn d) x))) (shut_agrees c d cell) (stands_reads g a b agree (o.turn d) x (to c x cell q) 1))

      landing_agrees : landing g a ids u o ≡ landing g b ids u o
      unfolding landing
      landing_agrees =
          ap₂ or_else
          (first_same (λ c. first (on_wall g a ids u o c) forward) (λ c. first (on_wall g b ids u o c) forward) u.cells
          (λ c m. first_same (on_wall g a ids u o c) (on_wall g b ids u o c) forward (λ d i. wall_agrees c d (on c m))))
          (first_same (λ c. first (on_connected g a o c) around) (λ c. first (on_connected g b o c) around) u.cells
          (λ c m. first_same (on_connected g a o c) (on_connected g b o c) around (λ d i. connected_agrees c d (on c m))))

      meets_agree : (c : ℕ) → meets g a pids u o.put c ≡ meets g b pids u o.put c
      unfolding meets
      meets_agree c = holds_same (o.put c) _ _ (λ x q. adjacent_agrees u.own (get_or pids x 0))

      try_agrees : try g a ids pids u o ≡ try g b ids pids u o
      unfolding try
      try_agrees =
          ap₂ (λ t l. pick (both (all (falls ids u o.put) u.cells) t) (landed l) Passed)
          (any_same (meets g a pids u o.put) (meets g b pids u o.put) u.cells (λ c m. meets_agree c)) landing_agrees

    -- UNITS
    module _ (u : UnitInfo) (on : (c : ℕ) → In c u.cells → Cell g c) where
      at_agrees : (m : Image) (t : ℕ) → try_at m g a ids pids u t ≡ try_at m g b ids pids u t
      unfolding try_at
      at_agrees m t =
          let moves = place_moves m g u.first t in
          try_agrees u on (offset m g u.first t) (λ c x cell q. moves.to c x (moves.is_put c x cell q))

      fits_agree : fits ms g a ids pids u ≡ fits ms g b ids pids u
      unfolding fits fits_by
      fits_agree =
          any_same (fits_by g a ids pids u) (fits_by g b ids pids u) ms
          (λ m i.
          any_same (λ t. is_good (try_at m g a ids pids u t)) (λ t. is_good (try_at m g b ids pids u t)) (range (cells g)) (λ t k. ap is_good (at_agrees m t)))

      failures_agree : failures ms g a ids pids u ≡ failures ms g b ids pids u
      unfolding failures failures_by
      failures_agree =
          gather_same (failures_by g a ids pids u) (failures_by g b ids pids u) ms
          (λ m i.
          gather_same (λ t. entry_of (try_at m g a ids pids u t)) (λ t. entry_of (try_at m g b ids pids u t)) (range (cells g)) (λ t k. ap entry_of (at_agrees m t)))

      boundaries_agree : (n : ℕ) → boundaries g a ids pids n u ≡ boundaries g b ids pids n u
      unfolding boundaries
      boundaries_agree n =
          ap₂ ◌++◌ (unit_agrees g a b agree ids u.number)
          (ap (gather (potential_boundary g a pids)) (keep_same (adjacent g a pids u.own) (adjacent g b pids u.own) (range n) (λ q m. adjacent_agrees u.own q))
          ∙ gather_same (potential_boundary g a pids) (potential_boundary g b pids) (keep (adjacent g b pids u.own) (range n)) (λ q m. potential_agrees g a b agree pids q))

    unit_fault_agrees : (n k : ℕ) → unit_fault ms g a ids pids n k ≡ unit_fault ms g b ids pids n k
    unfolding unit_fault unit_of
    unit_fault_agrees n k =
        let u = unit_of g ids pids k in
        let on : (c : ℕ) → In c u.cells → Cell g c = λ c m. (in_cells g ids k c m).0 in
        ap₂ (λ t l. give (not t) l) (fits_agree u on) (ap₂ ◌++◌ (failures_agree u on) (boundaries_agree u on n))

    fault_agrees : (m n : ℕ) → fault_in ms g a ids pids m n ≡ fault_in ms g b ids pids m n
    unfolding fault_in
    fault_agrees m n = ap₂ or_else inner_agrees (first_same (unit_fault ms g a ids pids n) (unit_fault ms g b ids pids n) (range m) (λ k i. unit_fault_agrees n k))

  -- the answers are the same
  pub shape_agrees : shape_fault ms g a ≡ shape_fault ms g b
  unfolding shape_fault
  shape_agrees =
      fault_agrees (group_ids g a false) (group_ids g a true) (group_count g a false) (group_count g a true)
      ∙ ap₂ (λ (i j : List ℕ). fault_in ms g b i j (group_count g a false) (group_count g a true)) (ids_agree false) (ids_agree true)
      ∙ ap₂ (fault_in ms g b (group_ids g b false) (group_ids g b true)) (count_agrees false) (count_agrees true)
