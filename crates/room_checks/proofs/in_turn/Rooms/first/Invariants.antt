-- `Rooms::first` meets its contract: one law of `RoomChecks` a turn.
use Rattle.std.proofs.Common.{◌≡◌}
use Rattle.borders.specs.Border.{state_of}
use Rattle.groups.specs.Groups.{cells_of}
use Rattle.rooms.specs.Lent.{marked_in}
use Rattle.room_checks.specs.RoomChecks.{rooms_fault}
use Rattle.room_checks.proofs.RoomChecks.{rest}
use Rattle.room_checks.proofs.in_turn.Rooms.first.Given as goal

abbrev pub invariant-loop-room : goal.invariant-loop-room
invariant-loop-room l =
    rest l.self.borders.grid (marked_in l.self.marks.now) (cells_of l.self.borders.grid l.self.groups.ids.now) l.clues (state_of l.self.borders.states.now) l.room
    ≡ rooms_fault l.self.borders.grid (marked_in l.self.marks.now) (cells_of l.self.borders.grid l.self.groups.ids.now) l.clues (state_of l.self.borders.states.now)
