-- The counts of the clued rooms, in their order: what is found first, answered and left in the buffer; what the functions ask and promise. Assumes nothing.
use Rattle.std.specs.Prelude.{ℕ, ◌<◌, ◌≡◌, Bool, List, eqb, length, get_or}
use Rattle.std.specs.Prelude as std
use Rattle.std.specs.Prelude.{Some, None}
use Rattle.std.proofs.Math.Option.{Option, none, some}
use Rattle.std.proofs.lemmas.List.Edits.{sets}
use Rattle.limits.specs.Limits.{no_clue}
use Rattle.lists.specs.Choice.{pick}
use Rattle.lists.specs.Lists.{range, all, first}
use Rattle.grid.specs.declared.Grid.{Grid}
use Rattle.borders.specs.Border.{state_of}
use Rattle.rooms.specs.Rooms.{is_given, room_cells}
use Rattle.rooms.specs.RoomGraph.{room_entries, room_list}
use Rattle.room_checks.specs.declared.in_turn.Failing.{Failing}
use Rattle.room_checks.specs.declared.RoomFault.{RoomFault}

-- no room has a clue (SPEC 1.7)
unfoldable pub none_clued : List ℕ → Bool
unfolding all
none_clued clues = all (λ c. eqb c no_clue) clues

-- what the count of a room with these cells lists where it has a clue; `given` tells the given walls
unfoldable pub clue_list : Grid → (ℕ → Bool) → List ℕ → ℕ → (ℕ → ℕ) → Option (List ℕ)
clue_list g given cs clue s = pick (eqb clue no_clue) none (room_list g given cs clue s)

-- a room whose count fails, and its list
pub record Faulty : Type 0 where
  pub room : ℕ
  pub list : List ℕ

-- a list of room r's count, with the room
unfoldable pub fault_at : ℕ → Option (List ℕ) → Option Faulty
fault_at r none = none
fault_at r (some l) = some (record { room = r; list = l })

-- the first of the clued rooms whose count lists something; room r has the cells cs r
unfoldable pub rooms_fault : Grid → (ℕ → Bool) → (ℕ → List ℕ) → List ℕ → (ℕ → ℕ) → Option Faulty
unfolding first range
rooms_fault g given cs clues s = first (λ r. fault_at r (clue_list g given (cs r) (get_or clues r 0) s)) (range (length clues))

-- the same for a board's own rooms
abbrev pub rooms_in : Grid → List ℕ → List ℕ → List ℕ → Option Faulty
rooms_in g given clues states = rooms_fault g (is_given given) (room_cells g given) clues (state_of states)

-- what the counts answer, and what they leave in the buffer
abbrev pub counted_of : Option Faulty → std.Option RoomFault
counted_of none = None
counted_of (some f) = Some (record { room = f.room; len = length f.list })

abbrev pub leaves : Option Faulty → List ℕ → List ℕ
leaves none buffer = buffer
leaves (some f) buffer = sets buffer 0 f.list

-- what is found where a room's count fails, and that there is such a room
abbrev pub found_at : Grid → (ℕ → Bool) → (ℕ → List ℕ) → (ℕ → ℕ) → std.Option Failing → Option Faulty
found_at g given cs s None = none
found_at g given cs s (Some f) = some (record { room = f.room; list = room_entries g given (cs f.room) f.wall s })

abbrev pub Among : ℕ → std.Option Failing → Type 0
Among n None = Unit {0}
Among n (Some f) = f.room < n

pub record Checks (g : Grid) (given : ℕ → Bool) (cs : ℕ → List ℕ) (clues : List ℕ) (s : ℕ → ℕ) (r : std.Option Failing) : Type 0 where
  pub told : found_at g given cs s r ≡ rooms_fault g given cs clues s
  pub among : Among (length clues) r
