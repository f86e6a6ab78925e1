-- `ledger::mark_each` meets its contract: the loop's invariant is `Walk`. Assumes nothing.
use Rattle.std.proofs.Common.{length}
use Rattle.ledger.proofs.Turns.{Walk}
use Rattle.ledger.proofs.mark_each.Given as goal

abbrev pub invariant-loop-x : goal.invariant-loop-x
invariant-loop-x l = Walk l.xs (length l.initial.marks) l.initial.marks l.marks l.x-index l.new
