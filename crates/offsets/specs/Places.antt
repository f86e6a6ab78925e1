-- Border places in doubled coordinates, which run from −1 and stay signed (SPEC 4.10). Assumes nothing.
use Rattle.std.specs.Prelude.{ℕ, ◌+◌, ◌-◌, ◌*◌, ◌/◌, ◌%◌, eqb, ltb, ℤ, pos, negsuc, ◌+ℤ◌, ◌-ℤ◌, Option, Some, None}
use Rattle.lists.specs.Choice.{both, pick}
use Rattle.grid.specs.declared.Direction.{Direction}
use Rattle.grid.specs.declared.Direction.TheVariants.{Up, Down, Left, Right}
use Rattle.grid.specs.declared.Neighbour.{Neighbour}
use Rattle.grid.specs.declared.Grid.{Grid}
use Rattle.grid.specs.Neighbours.{neighbour_in}
use Rattle.offsets.specs.declared.places.Place.{Place}

-- from a cell's doubled coordinates to those of its border in that direction
abbrev pub ahead_of : Direction → Place
ahead_of Up = record { y = negsuc 0; x = pos 0 }
ahead_of Down = record { y = pos 1; x = pos 0 }
ahead_of Left = record { y = pos 0; x = negsuc 0 }
ahead_of Right = record { y = pos 0; x = pos 1 }

-- a coordinate of a border's place, moved by the offset that takes `from` to `to`
unfoldable pub coordinate_of : ℕ → ℤ → ℕ → ℕ → ℤ
coordinate_of at ahead from to = (pos (2 * at) +ℤ ahead) +ℤ (pos (2 * to) -ℤ pos (2 * from))

abbrev pub border_of : Option Neighbour → Option ℕ
border_of (Some n) = Some n.border
border_of None = None

-- the border at a place that is not negative
unfoldable pub border_at : Grid → ℕ → ℕ → Option ℕ
border_at g y x =
    pick (both (ltb y (2 * g.height - 1)) (ltb x (2 * g.width - 1)))
    (border_of (neighbour_in g (pick (eqb (y % 2) 1) Down Right) (y / 2 * g.width + x / 2)))
    None

-- where a place lands: those outside the board are skipped (SPEC 4.10)
unfoldable pub land_of : Grid → ℤ → ℤ → Option ℕ
unfolding border_at
land_of g (pos y) (pos x) = border_at g y x
land_of g (pos y) (negsuc x) = None
land_of g (negsuc y) (pos x) = None
land_of g (negsuc y) (negsuc x) = None
