-- `Arcs::sweep` meets its contract: `Sweeping` of the vertices so far; a seed without a mark begins a part. Assumes nothing.
use Rattle.std.proofs.Common.{arith}
use Rattle.arcs.proofs.LinkLaws.{zeros, zeros_at, zeros_long}
use Rattle.arcs.proofs.WalkLaws.{sweep_none, sweep_walk, sweep_more, sweep_pass, sweep_all}
use Rattle.arcs.proofs.Arcs.sweep.Goals.{then-seen-s-eq0, else-seen-s-eq0}
use Rattle.arcs.proofs.Arcs.sweep.Goals as goal

pub loop-s-init : goal.loop-s-init
unfolding zeros
loop-s-init c = sweep_none c.requires (zeros 1024) (omega (arith, c.requires.arcs.few, zeros_long 1024)) (zeros_at 1024)

pub walk-requires : goal.walk-requires
walk-requires c = sweep_walk c.requires c.loop-s.invariant c.loop-s-test.true c.if-seen-s-eq0.true

pub loop-s-preserved : goal.loop-s-preserved
loop-s-preserved c =
    elim c.if-seen-s-eq0.branch [
      | then-seen-s-eq0 w ↦
          rw (w.seen-is, w.parts-is) (sweep_more c.requires c.loop-s.invariant c.loop-s-test.true w.if-seen-s-eq0.true w.walk.ensures)
      | else-seen-s-eq0 w ↦
          rw (w.seen-is, w.parts-is) (sweep_pass c.requires c.loop-s.invariant c.loop-s-test.true w.if-seen-s-eq0.false)
    ]

pub returns : goal.returns
returns c = sweep_all c.requires c.loop-s.invariant (omega arith)
