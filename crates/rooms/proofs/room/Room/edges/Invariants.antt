-- `Room::edges` meets its contract: one law of `EdgesLaws` a look.
use Rattle.std.proofs.Common.{◌*◌, ◌+◌}
use Rattle.rooms.specs.Lent.{marked_in}
use Rattle.rooms.proofs.EdgesLaws.{Writing}
use Rattle.rooms.proofs.room.Room.edges.Given as goal

abbrev pub invariant-loop-cell : goal.invariant-loop-cell
invariant-loop-cell l =
    Writing l.self.borders.grid (marked_in l.self.marks.now) l.self.cells.now l.self.borders.states.now l.initial.us l.initial.vs l.initial.states l.us l.vs l.states l.m (2 * l.cell-index)

abbrev pub invariant-loop-direction : goal.invariant-loop-direction
invariant-loop-direction l =
    Writing l.self.borders.grid (marked_in l.self.marks.now) l.self.cells.now l.self.borders.states.now l.fn.us l.fn.vs l.fn.states l.us l.vs l.states l.m (2 * l.cell-index + l.direction-index)
