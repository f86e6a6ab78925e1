-- The boundary lists depend on the board's borders alone. Assumes nothing.
use Prim.Native.Nat.{ℕ}
use mathlib.Core.Path.{◌≡◌, ap, ap₂}
use mathlib.Core.Bool.{not}
use mathlib.Core.List.{List, ◌++◌}
use Rattle.lists.specs.Choice.{both, when}
use Rattle.grid.specs.declared.Grid.{Grid}
use Rattle.grid.specs.Grid.{Cell, border}
use Rattle.borders.specs.Entry.{connected_entry, wall_entry}
use Rattle.borders.proofs.Congruence.{gather_same}
use Rattle.grid.specs.Orders.{around, forward, unit_order}
use Rattle.borders.proofs.Agreement.{Agree, stands_reads}
use Rattle.groups.specs.Groups.{cells_of}
use Rattle.groups.proofs.GroupLaws.{in_cells}
use Rattle.boundary.specs.Boundary.{ahead, connected_at, wall_at, outer_wall_at, unit_cell, unit_boundary, potential_cell, potential_boundary}

module _ (g : Grid) (a b : List ℕ) (agree : Agree g a b) (ids : List ℕ) (k : ℕ) where
  unit_cell_agrees : (c : ℕ) → Cell g c → unit_cell g a ids k c ≡ unit_cell g b ids k c
  unfolding unit_cell connected_at wall_at
  unit_cell_agrees c cell =
      ap₂ ◌++◌
      (gather_same (connected_at g a ids k c) (connected_at g b ids k c) forward
      (λ d m. ap (λ t. when (both t (ahead g ids k c d)) (connected_entry (border g d c))) (stands_reads g a b agree d c cell 1)))
      (gather_same (wall_at g a c) (wall_at g b c) unit_order (λ d m. ap (λ t. when t (wall_entry (border g d c))) (stands_reads g a b agree d c cell 2)))

  pub unit_agrees : unit_boundary g a ids k ≡ unit_boundary g b ids k
  unfolding unit_boundary
  unit_agrees = gather_same (unit_cell g a ids k) (unit_cell g b ids k) (cells_of g ids k) (λ c m. unit_cell_agrees c (in_cells g ids k c m).0)

  potential_cell_agrees : (c : ℕ) → Cell g c → potential_cell g a ids k c ≡ potential_cell g b ids k c
  unfolding potential_cell outer_wall_at
  potential_cell_agrees c cell =
      gather_same (outer_wall_at g a ids k c) (outer_wall_at g b ids k c) around
      (λ d m. ap (λ t. when (both t (not (ahead g ids k c d))) (wall_entry (border g d c))) (stands_reads g a b agree d c cell 2))

  pub potential_agrees : potential_boundary g a ids k ≡ potential_boundary g b ids k
  unfolding potential_boundary
  potential_agrees = gather_same (potential_cell g a ids k) (potential_cell g b ids k) (cells_of g ids k) (λ c m. potential_cell_agrees c (in_cells g ids k c m).0)
