-- What one trial of a unit asks and answers. The unit is told by its cells: the first of them has its number in the table. Assumes nothing.
use Rattle.std.specs.Prelude.{ℕ, ◌<◌, ◌≤◌, ◌≡◌, Bool, not, List, eqb, get_or, length}
use Rattle.grid.specs.declared.Grid.{Grid}
use Rattle.grid.specs.Grid.{Limits, Cell, border_count}
use Rattle.groups.specs.Groups.{cells_of}
use Rattle.shape.specs.declared.Try.{Try}
use Rattle.shape.specs.Shape.{adjacent, head_or0, UnitInfo, unit_of, offset, try, try_at, fits_by, fits}
use Rattle.offsets.specs.declared.shift.Shift.{Shift}
use Rattle.offsets.specs.declared.table.CellInfo.{CellInfo}
use Rattle.images.specs.declared.Image.{Image}
use Rattle.images.specs.Images.{spot, spot_in}
use Rattle.offsets.specs.Table.{Table, unit_in, potential_in, units_in, potentials_in}

-- the unit of these cells
abbrev pub unit_at : Grid → List CellInfo → List ℕ → UnitInfo
unit_at g table cs = unit_of g (units_in g table) (potentials_in g table) (unit_in table (head_or0 cs))

-- the shift of image m that puts f, a cell of unit k, on t
abbrev pub shift_of : Image → Grid → ℕ → ℕ → ℕ → Shift
shift_of m g k f t = record { unit = k; image = m; from = spot_in g m (spot g f); to = spot g t }

-- what comes of the offset of image m that puts cell f on `to`
abbrev pub tried_from : Image → Grid → List ℕ → List CellInfo → List ℕ → ℕ → ℕ → Try
tried_from m g states table cs f to = try g states (units_in g table) (potentials_in g table) (unit_at g table cs) (offset m g f to)

-- what comes of the one that puts its first cell on `to`
abbrev pub tried_at : Image → Grid → List ℕ → List CellInfo → List ℕ → ℕ → Try
tried_at m g states table cs to = try_at m g states (units_in g table) (potentials_in g table) (unit_at g table cs) to

-- the unit fits somewhere as an image: it has a good offset (SPEC 4.8, 4.9)
abbrev pub fits_as : Grid → List ℕ → List CellInfo → List ℕ → Image → Bool
fits_as g states table cs m = fits_by g states (units_in g table) (potentials_in g table) (unit_at g table cs) m

-- as one of several images (SPEC 14.2)
abbrev pub fits_at : List Image → Grid → List ℕ → List CellInfo → List ℕ → Bool
fits_at ms g states table cs = fits ms g states (units_in g table) (potentials_in g table) (unit_at g table cs)

-- the cells of a unit, whose first cell has its number in the table
pub record Unit (g : Grid) (table : List CellInfo) (cs : List ℕ) : Type 0 where
  pub limits : Limits g
  pub table_of : Table g table
  pub some : 0 < length cs
  pub cells_are : cs ≡ cells_of g (units_in g table) (unit_in table (head_or0 cs))

-- the cells of a unit, and marks that are set exactly for the potential units adjacent to the unit's own
pub record Placed (g : Grid) (states : List ℕ) (table : List CellInfo) (marks cs : List ℕ) : Type 0 where
  pub limits : Limits g
  pub states_long : border_count g ≤ length states
  pub table_of : Table g table
  pub some : 0 < length cs
  pub cells_are : cs ≡ cells_of g (units_in g table) (unit_in table (head_or0 cs))
  pub marks_long : (c : ℕ) → Cell g c → potential_in table c < length marks
  pub marked : (q : ℕ) → q < length marks → not (eqb (get_or marks q 0) 0) ≡ adjacent g states (potentials_in g table) (potential_in table (head_or0 cs)) q
