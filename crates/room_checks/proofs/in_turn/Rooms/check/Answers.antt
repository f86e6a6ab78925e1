-- `Rooms::check` meets its contract: without a clue nothing is counted; else the room's count is asked. Assumes nothing.
use Rattle.room_checks.proofs.RoomChecks.{no_clue_lem, has_clue}
use Rattle.room_checks.proofs.in_turn.Rooms.check.Goals as goal

pub returns-then-clue-eq-NO_CLUE : goal.returns-then-clue-eq-NO_CLUE
returns-then-clue-eq-NO_CLUE c = no_clue_lem _ _ _ _ c.args.clue c.if-clue-eq-NO_CLUE.true

pub returns : goal.returns
returns c =
    let e = c.room.ensures in
    has_clue _ _ _ _ c.args.clue c.if-clue-eq-NO_CLUE.false c.find.result
    (rw (c.from.ensures, e.board.0, e.board.1, e.marks, e.cells) at c.find.ensures)
