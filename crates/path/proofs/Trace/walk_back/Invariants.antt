-- `path::Trace::walk_back` meets its contract: the invariant `Walking`, one law of `Walk` for the start, a turn and the end. Assumes nothing.
use Prim.Native.Nat.{◌-◌}
use lib.ListN.{length}
use Rattle.path.proofs.Walk.{Walking}
use Rattle.path.proofs.Trace.walk_back.Given as goal

abbrev pub invariant-loop-cell : goal.invariant-loop-cell
invariant-loop-cell l = Walking l.start l.target l.self.found.now l.initial.buffer l.buffer l.n l.cell

abbrev pub decreases-loop-cell : goal.decreases-loop-cell
decreases-loop-cell l = length l.initial.buffer - l.n
