-- The table that an ask makes once: of each cell its row, its column, its unit and its potential unit. Assumes nothing.
use Rattle.std.specs.Prelude.{ℕ, ◌≤◌, ◌≡◌, List, map, get_or, length}
use Rattle.lists.specs.Lists.{range}
use Rattle.grid.specs.declared.Grid.{Grid}
use Rattle.grid.specs.Grid.{Limits, cells, Cell, row, col}
use Rattle.images.specs.declared.Spot.{Spot}
use Rattle.offsets.specs.declared.table.CellInfo.{CellInfo}

-- what stands behind the last cell
abbrev pub blank : CellInfo
blank = record { row = 0; col = 0; unit = 0; potential = 0 }

-- the row and column that the table has of a cell
abbrev pub spot_of : CellInfo → Spot
spot_of info = record { row = info.row; col = info.col }

abbrev pub row_in : List CellInfo → ℕ → ℕ
row_in table c = (get_or table c blank).row

abbrev pub col_in : List CellInfo → ℕ → ℕ
col_in table c = (get_or table c blank).col

abbrev pub unit_in : List CellInfo → ℕ → ℕ
unit_in table c = (get_or table c blank).unit

abbrev pub potential_in : List CellInfo → ℕ → ℕ
potential_in table c = (get_or table c blank).potential

-- each cell's unit, and each cell's potential unit
unfoldable pub units_in : Grid → List CellInfo → List ℕ
units_in g table = map (unit_in table) (range (cells g))

unfoldable pub potentials_in : Grid → List CellInfo → List ℕ
potentials_in g table = map (potential_in table) (range (cells g))

-- it has a place for each cell, with its row and column
pub record Table (g : Grid) (table : List CellInfo) : Type 0 where
  pub long : cells g ≤ length table
  pub row_at : (c : ℕ) → Cell g c → row_in table c ≡ row g c
  pub col_at : (c : ℕ) → Cell g c → col_in table c ≡ col g c

-- each cell has a unit and a potential unit, and there is a place for each cell
pub record Fillable (g : Grid) (ids pids : List ℕ) (table : List CellInfo) : Type 0 where
  pub limits : Limits g
  pub ids_long : length ids ≡ cells g
  pub pids_long : length pids ≡ cells g
  pub room : cells g ≤ length table

-- a filled table, with these units and potential units
pub record Filled (g : Grid) (ids pids : List ℕ) (table : List CellInfo) : Type 0 where
  pub table_of : Table g table
  pub units : units_in g table ≡ ids
  pub potentials : potentials_in g table ≡ pids
