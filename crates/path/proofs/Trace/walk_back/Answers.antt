-- `path::Trace::walk_back` meets its contract: the invariant `Walking`, one law of `Walk` for the start, a turn and the end. Assumes nothing.
use Rattle.path.proofs.Walk.{walking_start, walking_lost, walking_on, walking_end}
use Rattle.path.proofs.Trace.walk_back.Goals as goal

pub loop-cell-init : goal.loop-cell-init
loop-cell-init c = walking_start c.requires

pub returns-in_default : goal.returns-in_default
returns-in_default c = absurd (walking_lost c.loop-cell.invariant c.loop-cell-test.true c.in_default.not-Some)

pub loop-cell-preserved : goal.loop-cell-preserved
loop-cell-preserved c = rw (c.from-cell.ensures, c.in-Some.is) (walking_on c.loop-cell.invariant c.loop-cell-test.true c.in-Some.is)

pub returns : goal.returns
returns c = walking_end c.loop-cell.invariant c.loop-cell-test.false
