-- `offsets::sides::fill` meets its contract: the cells that have 0 are told, and those that have 1 need not be. Assumes nothing.
use Rattle.offsets.specs.Sides.{Shut}
use Rattle.offsets.proofs.sides.fill.Given as goal

abbrev pub invariant-loop-row : goal.invariant-loop-row
invariant-loop-row l = Shut l.b.grid l.b.states.now l.shut

abbrev pub invariant-loop-col : goal.invariant-loop-col
invariant-loop-col l = Shut l.b.grid l.b.states.now l.shut
