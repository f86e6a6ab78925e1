-- `Rooms::first` meets its contract: one law of `RoomChecks` a turn. Assumes nothing.
use Rattle.room_checks.proofs.RoomChecks.{rest_all, checks_none, checks_at, rest_turn}
use Rattle.room_checks.proofs.in_turn.Rooms.first.Goals as goal

pub loop-room-init : goal.loop-room-init
loop-room-init c = rest_all _ _ _ _ _

pub returns-in-Some : goal.returns-in-Some
returns-in-Some c = checks_at _ _ _ _ _ c.loop-room.room c.loop-room-test.true c.loop-room.invariant c.check.ensures c.in-Some.is

pub loop-room-preserved : goal.loop-room-preserved
loop-room-preserved c = rest_turn _ _ _ _ _ c.loop-room.room c.loop-room-test.true c.loop-room.invariant c.check.ensures c.in_default.is

pub returns : goal.returns
returns c = checks_none _ _ _ _ _ c.loop-room.room c.loop-room-test.false c.loop-room.invariant
