-- What the stage of inner Walls asks. Assumes nothing.
use Rattle.std.specs.Prelude.{ℕ, ◌+◌, ◌-◌, ◌*◌, ◌≤◌, ◌<◌, ◌≡◌, ◌≢◌, List, get_or, length}
use Rattle.grid.specs.declared.Grid.{Grid}
use Rattle.grid.specs.Grid.{cells}

-- every cell has a unit, and the buffer has room for every list
pub record Asked (g : Grid) (ids buffer : List ℕ) : Type 0 where
  pub ids_long : cells g ≤ length ids
  pub room : 9 * cells g ≤ length buffer

-- none of so many borders that follow one another is a Wall inside a unit: the first lies between a cell and the one `step` numbers further on
abbrev pub NoneInside : List ℕ → List ℕ → ℕ → ℕ → ℕ → ℕ → Type 0
NoneInside states ids border cell step count = (i : ℕ) → i < count → get_or states (border + i) 0 ≡ 2 → get_or ids (cell + i) 0 ≢ get_or ids (cell + step + i) 0

-- no Wall right of a row's cells or under them lies inside a unit
pub record RowHasNone (g : Grid) (states ids : List ℕ) (y : ℕ) : Type 0 where
  pub right : NoneInside states ids (y * (g.width - 1)) (y * g.width) 1 (g.width - 1)
  pub down : y + 1 < g.height → NoneInside states ids (g.height * (g.width - 1) + y * g.width) (y * g.width) g.width g.width
