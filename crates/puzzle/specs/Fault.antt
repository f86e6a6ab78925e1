-- What an ask finds on a puzzle whose borders have these states (SPEC 4.15). Assumes nothing.
use Rattle.std.specs.Prelude.{ℕ, List}
use Rattle.std.proofs.Math.Option.{Option, none, some}
use Rattle.lists.specs.Choice.{pick, or_else}
use Rattle.lists.specs.Lists.{range, first}
use Rattle.grid.specs.declared.Grid.{Grid}
use Rattle.images.specs.declared.Image.{Image}
use Rattle.borders.specs.Border.{state_of}
use Rattle.shape.specs.Shape.{shape_fault}
use Rattle.rooms.specs.Rooms.{is_given, room_ids, room_count, room_cells, clued, clue_of}
use Rattle.rooms.specs.RoomGraph.{room_list}
use Rattle.puzzle.specs.declared.Check.{Check}
use Rattle.puzzle.specs.declared.Check.TheVariants.{Shape, Room}

-- the check that found it, shape or a room with its number, and the list
pub record Found : Type 0 where
  pub check : Check
  pub list : List ℕ

-- a check's list, with the check
unfoldable pub found_by : Check → Option (List ℕ) → Option Found
found_by k none = none
found_by k (some l) = some (record { check = k; list = l })

-- what the count of room r finds
unfoldable pub room_check : Grid → List ℕ → List ℕ → List ℕ → ℕ → Option Found
unfolding found_by room_list
room_check g given clues states r =
    let counted = found_by (Room r) (room_list g (is_given given) (room_cells g given r) (clue_of clues r) (state_of states)) in
    pick (clued clues r) counted none

-- the shape check over these images, then the clued rooms in order, up to the first fault (SPEC 4.15, 14.2)
unfoldable pub fault_of : List Image → Grid → List ℕ → List ℕ → List ℕ → Option Found
unfolding or_else found_by shape_fault first room_check range room_ids room_count
fault_of ms g given clues states =
    or_else (found_by Shape (shape_fault ms g states)) (first (room_check g given clues states) (range (room_count g given)))
