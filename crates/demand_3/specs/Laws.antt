-- The laws of a full board (SPEC 2.3 to 2.6, 14.3): all four, of the kind whose images these are. s e is the state of border e. Assumes nothing.
use Rattle.std.specs.Prelude.{ℕ, ◌<◌, ◌≡◌, true, List}
use Rattle.frame.specs.Frame.{States}
use Rattle.grid.specs.declared.Grid.{Grid}
use Rattle.images.specs.declared.Image.{Image}
use Rattle.shape.specs.Laws.{RightShape}
use Rattle.rooms.specs.Rooms.{room_count, clued, clue_of}
use Rattle.rooms.specs.Units.{GivenWalls, InRoom, HoldsUnits}

pub record RightBoard (ms : List Image) (g : Grid) (given clues : List ℕ) (s : States) : Type 0 where
  -- the first law (SPEC 2.3)
  pub given_walls : GivenWalls given s
  -- the second and the third law (SPEC 2.4, 2.5, 14.3)
  pub shape : RightShape ms g s
  -- the fourth law (SPEC 2.6)
  pub rooms : (r : ℕ) → r < room_count g given → clued clues r ≡ true → HoldsUnits g s (InRoom g given r) (clue_of clues r)
