-- A board's units and potential units, and the lists of adjacent potential units. Assumes nothing.
use Rattle.std.specs.Prelude.{ℕ, ◌≡◌, List}
use Rattle.grid.specs.declared.Grid.{Grid}
use Rattle.offsets.specs.declared.table.CellInfo.{CellInfo}
use Rattle.offsets.specs.Table.{units_in, potentials_in}
use Rattle.adjacency.specs.Adjacency.{Adjacency}

-- the groups of boards g₁ and g₂, ids and pids, are the units and potential units that the table of board g tells, and there are the lists of
-- the adjacent ones of so many potential units
pub record Finding (g : Grid) (states : List ℕ) (table : List CellInfo) (g₁ : Grid) (ids : List ℕ) (g₂ : Grid) (pids : List ℕ) (count : ℕ) (nstarts near : List ℕ) : Type 0 where
  pub units_of : g₁ ≡ g
  pub units : units_in g table ≡ ids
  pub potentials_of : g₂ ≡ g
  pub potentials : potentials_in g table ≡ pids
  pub lists : ∥ Adjacency g states (potentials_in g table) count nstarts near ∥₁
