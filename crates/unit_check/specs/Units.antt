-- The stage: the units of a board in order. Assumes nothing.
use Rattle.std.specs.Prelude.{ℕ, ◌+◌, ◌*◌, ◌≤◌, ◌≡◌, List, length}
use Rattle.std.proofs.Math.Option.{Option}
use Rattle.lists.specs.Lists.{range, first}
use Rattle.grid.specs.declared.Grid.{Grid}
use Rattle.grid.specs.Grid.{cells}
use Rattle.images.specs.declared.Image.{Image}
use Rattle.shape.specs.Shape.{unit_fault}
use Rattle.offsets.specs.declared.table.CellInfo.{CellInfo}
use Rattle.offsets.specs.Table.{units_in, potentials_in}

-- the fault of the first unit that has one, of n units, among so many potential units (SPEC 4.11, 14.2)
abbrev pub unit_stage : List Image → Grid → List ℕ → List ℕ → List ℕ → ℕ → ℕ → Option (List ℕ)
unit_stage ms g states ids pids count n = first (unit_fault ms g states ids pids count) (range n)

-- there is a unit for each cell of the board, and so much room in the buffer, where there are m images
pub record Checked (m : ℕ) (g g₁ : Grid) (ids : List ℕ) (room : ℕ) : Type 0 where
  pub units_of : g₁ ≡ g
  pub ids_long : length ids ≡ cells g
  pub enough : (m + 8) * cells g ≤ room

-- the list of the first of n units that fits nowhere, on a board of so many potential units, where the table tells both
abbrev pub first_list : List Image → Grid → List ℕ → List CellInfo → ℕ → ℕ → Option (List ℕ)
first_list ms g states table count n = unit_stage ms g states (units_in g table) (potentials_in g table) count n
