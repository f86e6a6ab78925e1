-- The board of a list of states is within the limits, and every border has a state. Assumes nothing.
use Rattle.std.specs.Prelude.{ℕ, ◌≤◌, List, length}
use Rattle.grid.specs.declared.Grid.{Grid}
use Rattle.grid.specs.Grid.{Limits, border_count}

-- the board is within the limits, and every border has a state
pub record Fits (g : Grid) (st : List ℕ) : Type 0 where
  pub limits : Limits g
  pub borders : border_count g ≤ length st
