-- `Room::write` meets its contract: one law of `EdgesLaws` a look.
use Rattle.std.proofs.Common.{◌*◌, ◌+◌}
use Rattle.borders.specs.Border.{state_of}
use Rattle.rooms.specs.Lent.{marked_in}
use Rattle.rooms.proofs.EdgesLaws.{Listing}
use Rattle.rooms.proofs.room.Room.write.Given as goal

abbrev pub invariant-loop-cell : goal.invariant-loop-cell
invariant-loop-cell l =
    Listing l.self.borders.grid (marked_in l.self.marks.now) l.self.cells.now l.wall (state_of l.self.borders.states.now) l.initial.buffer l.buffer l.n (2 * l.cell-index)

abbrev pub invariant-loop-direction : goal.invariant-loop-direction
invariant-loop-direction l =
    Listing l.self.borders.grid (marked_in l.self.marks.now) l.self.cells.now l.wall (state_of l.self.borders.states.now) l.fn.buffer l.buffer l.n (2 * l.cell-index + l.direction-index)
