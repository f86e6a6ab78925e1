-- Which cells have a Wall or the board's edge on a side. Assumes nothing.
use Rattle.std.specs.Prelude.{ℕ, ◌+◌, ◌<◌, ◌≤◌, ◌≡◌, Bool, false, not, List, eqb, get_or, length}
use Rattle.lists.specs.Choice.{either}
use Rattle.lists.specs.Lists.{any}
use Rattle.grid.specs.declared.Direction.{Direction}
use Rattle.grid.specs.Orders.{around}
use Rattle.grid.specs.declared.Grid.{Grid}
use Rattle.grid.specs.Grid.{cells, Cell, goes_on}
use Rattle.borders.specs.Border.{state_at}

-- a Wall or the board's edge is in that direction of c
abbrev pub shut_to : Grid → List ℕ → ℕ → Direction → Bool
shut_to g states c d = either (not (goes_on g d c)) (eqb (state_at g states d c) 2)

unfoldable pub shut_in : Grid → List ℕ → ℕ → Bool
unfolding any goes_on state_at
shut_in g states c = any (shut_to g states c) around

-- each cell has a place, and where there is 0 the cell has neither
pub record Shut (g : Grid) (states shut : List ℕ) : Type 0 where
  pub long : cells g ≤ length shut
  pub none : (c : ℕ) → Cell g c → get_or shut c 0 ≡ 0 → shut_in g states c ≡ false

-- a row and a column that are not at the board's edge
pub record Inside (g : Grid) (y x : ℕ) : Type 0 where
  pub row_behind : 1 ≤ y
  pub row_before : y + 1 < g.height
  pub col_behind : 1 ≤ x
  pub col_before : x + 1 < g.width
