-- What the row words of a board's borders say (SPEC 13.3). Assumes nothing.
use Rattle.std.specs.Prelude.{ℕ, ◌+◌, ◌-◌, ◌*◌, ◌≤◌, ◌<◌, ◌≡◌, Bool, List, get_or, length}
use Rattle.lists.specs.Choice.{pick}
use Rattle.grid.specs.declared.Direction.{Direction}
use Rattle.grid.specs.declared.Grid.{Grid}
use Rattle.borders.specs.Border.{stands}
use Rattle.words.specs.Words.{bit}
use Rattle.words.specs.Layout.{side_at, back_of}

-- the words say of every cell and direction whether a Wall stands there, or else a Connected border
pub record BorderWords (g : Grid) (states words : List ℕ) : Type 0 where
  pub long : 132 ≤ length words
  pub says : (walls : Bool) (d : Direction) (y x : ℕ) → y < g.height → x < g.width
      → bit (get_or words (side_at walls d + y) 0) (32 + x - back_of d) ≡ stands g states (pick walls 2 1) d (y * g.width + x)
