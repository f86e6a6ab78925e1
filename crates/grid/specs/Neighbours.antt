-- The neighbour of a cell in a direction, with the border between (SPEC 1.1, 1.2), and what a call that asks for it answers. Assumes nothing.
use Rattle.std.specs.Prelude.{ℕ, eqb, ltb, Option, Some, None, Result, Ok, Err}
use Rattle.lists.specs.Choice.{pick}
use Rattle.answers.specs.declared.Refusal.{Refusal}
use Rattle.answers.specs.declared.Refusal.TheVariants.{Size, Missing}
use Rattle.grid.specs.declared.Grid.{Grid}
use Rattle.grid.specs.declared.Direction.{Direction}
use Rattle.grid.specs.declared.Direction.TheVariants.{Up, Down, Left, Right}
use Rattle.grid.specs.declared.Neighbour.{Neighbour}
use Rattle.grid.specs.Grid.{sizes_ok, cells, goes_on, next, border}

-- by number: 0 up, 1 down, 2 left; every other number is right
abbrev pub direction_of : ℕ → Direction
direction_of n = pick (eqb n 0) Up (pick (eqb n 1) Down (pick (eqb n 2) Left Right))

-- the neighbour in that direction and the border between, or none where the board ends
abbrev pub neighbour_in : Grid → Direction → ℕ → Option Neighbour
neighbour_in g d c = pick (goes_on g d c) (Some (record { cell = next g d c; border = border g d c })) None

-- questions 1 and 3 first: the size, and then the cell
abbrev pub neighbour_of : Grid → Direction → ℕ → Result (Option Neighbour) Refusal
neighbour_of g d c = pick (sizes_ok g) (pick (ltb c (cells g)) (Ok (neighbour_in g d c)) (Err Missing)) (Err Size)
