-- `ledger::mark_each` meets its contract: the loop's invariant is `Walk`. Assumes nothing.
use mathlib.Core.Path.{refl}
use native.Mathlib.Omega.{arith}
use lib.ListN.{length}
use Rattle.ledger.proofs.Turns.{border_below, walk_on, walk_end}
use Rattle.ledger.proofs.mark_each.Goals as goal

pub bounds-marks-e : goal.bounds-marks-e
bounds-marks-e c =
    let e = border_below c.args.xs.now (length c.args.marks.now) c.loop-x.x-index c.loop-x-test.true c.requires in
    omega (arith, c.border_of-e.ensures, e, c.loop-x.auto.marks)

pub bounds-marks-e-in-loop-x : goal.bounds-marks-e-in-loop-x
bounds-marks-e-in-loop-x c =
    let e = border_below c.args.xs.now (length c.args.marks.now) c.loop-x.x-index c.loop-x-test.true c.requires in
    omega (arith, c.border_of-e.ensures, e, c.loop-x.auto.marks)

pub loop-x-preserved : goal.loop-x-preserved
loop-x-preserved c =
    let n = length c.args.marks.now in
    let e = border_below c.args.xs.now n c.loop-x.x-index c.loop-x-test.true c.requires in
    walk_on c.args.xs.now n c.args.marks.now c.loop-x.marks c.loop-x.x-index c.border_of-e.result c.loop-x.new _ c.loop-x.invariant c.loop-x-test.true c.border_of-e.ensures (rw c.border_of-e.ensures e) refl

pub returns : goal.returns
returns c = walk_end c.args.xs.now (length c.args.marks.now) c.args.marks.now c.loop-x.marks c.loop-x.x-index c.loop-x.new c.loop-x.invariant c.loop-x-test.false
