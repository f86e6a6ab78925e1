-- The list of a unit that fits nowhere, as it is written. Assumes nothing.
use Rattle.std.specs.Prelude.{ℕ, List, [], ◌++◌, eqb, get_or}
use Rattle.lists.specs.Choice.{pick}
use Rattle.lists.specs.Lists.{range, gather}
use Rattle.grid.specs.declared.Grid.{Grid}
use Rattle.boundary.specs.Boundary.{potential_boundary}
use Rattle.images.specs.declared.Image.{Image}
use Rattle.shape.specs.Shape.{failures_by, failures, boundaries}
use Rattle.offsets.specs.declared.table.CellInfo.{CellInfo}
use Rattle.offsets.specs.Table.{units_in, potentials_in}
use Rattle.offsets.specs.Trial.{unit_at}

-- the failed landings of the unit of these cells as an image, and those as one image after the other
abbrev pub failures_as : Grid → List ℕ → List CellInfo → List ℕ → Image → List ℕ
failures_as g states table cs m = failures_by g states (units_in g table) (potentials_in g table) (unit_at g table cs) m

abbrev pub failures_at : List Image → Grid → List ℕ → List CellInfo → List ℕ → List ℕ
failures_at ms g states table cs = failures ms g states (units_in g table) (potentials_in g table) (unit_at g table cs)

-- its whole list, where there are n potential units (SPEC 4.11, 14.2)
abbrev pub list_at : List Image → Grid → List ℕ → List CellInfo → ℕ → List ℕ → List ℕ
list_at ms g states table n cs = failures_at ms g states table cs ++ boundaries g states (units_in g table) (potentials_in g table) n (unit_at g table cs)

-- the boundary list of a potential unit, if it is marked
unfoldable pub marked_boundary : Grid → List ℕ → List ℕ → List ℕ → ℕ → List ℕ
marked_boundary g states pids marks q = pick (eqb (get_or marks q 0) 0) [] (potential_boundary g states pids q)

-- those of the marked ones of n potential units, in rising number
unfoldable pub near_boundaries : Grid → List ℕ → List ℕ → List ℕ → ℕ → List ℕ
near_boundaries g states pids marks n = gather (marked_boundary g states pids marks) (range n)
