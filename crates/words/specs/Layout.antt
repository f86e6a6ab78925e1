-- Where the row words of a board's borders stand, one table behind the other: Walls under the rows' cells, a place further on, so that the
-- borders above row 0 have a blank word; Walls right of the cells; and the same of Connected borders. Assumes nothing.
use Rattle.std.specs.Prelude.{ℕ, ◌+◌, Bool}
use Rattle.lists.specs.Choice.{pick}
use Rattle.grid.specs.declared.Direction.{Direction}
use Rattle.grid.specs.declared.Direction.TheVariants.{Up, Down, Left, Right}

-- the place of row 0's word for the Walls in a direction
abbrev pub base_of : Direction → ℕ
base_of Up = 0
base_of Down = 1
base_of Left = 33
base_of Right = 33

-- the same for Walls, or else for Connected borders
abbrev pub side_at : Bool → Direction → ℕ
side_at walls d = pick walls 0 66 + base_of d

-- the border left of a cell is the one right of the cell before it
abbrev pub back_of : Direction → ℕ
back_of Up = 0
back_of Down = 0
back_of Left = 1
back_of Right = 0
