-- `Rooms::room` meets its contract: the cells of a group are in row order. Assumes nothing.
use Rattle.room_checks.proofs.Housed.{room_housed}
use Rattle.room_checks.proofs.in_turn.Rooms.room.Goals as goal

pub invariant_of-result : goal.invariant_of-result
invariant_of-result c =
    let r = c.args.self in
    record { housed = room_housed r.borders.grid r.marks.now r.borders.states.now r.groups.ids.now c.cells.result.now c.args.room r.borders.fits r.marked (rw r.one_board at c.cells.ensures.cells_are) }

pub returns-clause-cells : goal.returns-clause-cells
returns-clause-cells c = rw c.args.self.one_board at c.cells.ensures.cells_are
