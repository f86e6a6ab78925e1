-- `Arcs::walk` meets its contract: one law for each way through a turn. Assumes nothing.
use Rattle.std.proofs.Common.{arith}
use Rattle.arcs.proofs.WalkLaws.{try_start, some_left, arc_low, arc_on, walk_next, try_pass, try_walk, walk_done}
use Rattle.arcs.proofs.Arcs.+walk.Goals.{then-seen-v-eq0, else-seen-v-eq0}
use Rattle.arcs.proofs.Arcs.+walk.Goals as goal

pub loop-at-init : goal.loop-at-init
loop-at-init t c = try_start c.from-at.ensures

pub offset_bounds-self-arc : goal.offset_bounds-self-arc
offset_bounds-self-arc t c =
    omega (arith, (arc_low c.requires c.loop-at.invariant c.loop-at-test.true).0)

pub bounds-self-arc : goal.bounds-self-arc
bounds-self-arc t c = (arc_low c.requires c.loop-at.invariant c.loop-at-test.true).0

pub bounds-seen-v : goal.bounds-seen-v
bounds-seen-v t c = arc_on c.requires c.loop-at.invariant c.loop-at-test.true c.from-v.ensures

pub overflow_sub-left : goal.overflow_sub-left
overflow_sub-left t c = some_left c.requires

pub walk-requires : goal.walk-requires
walk-requires t c = (
  omega (arith, some_left c.requires),
  walk_next c.requires c.loop-at.invariant c.loop-at-test.true c.from-v.ensures c.if-seen-v-eq0.true,
)

pub offset_bounds-self-arc-in-loop-at : goal.offset_bounds-self-arc-in-loop-at
offset_bounds-self-arc-in-loop-at t c =
    omega (arith, (arc_low c.requires c.loop-at.invariant c.loop-at-test.true).0)

pub bounds-self-arc-in-loop-at : goal.bounds-self-arc-in-loop-at
bounds-self-arc-in-loop-at t c = (arc_low c.requires c.loop-at.invariant c.loop-at-test.true).0

pub loop-at-smaller : goal.loop-at-smaller
loop-at-smaller t c =
    omega (arith, c.from-at-in-loop-at.ensures, (arc_low c.requires c.loop-at.invariant c.loop-at-test.true).1)

pub loop-at-preserved : goal.loop-at-preserved
loop-at-preserved t c =
    let p = c.requires in
    let i = c.loop-at.invariant in
    let h = c.loop-at-test.true in
    elim c.if-seen-v-eq0.branch [
      | then-seen-v-eq0 w ↦ rw w.seen-is (try_walk p i h c.from-v.ensures c.from-at-in-loop-at.ensures w.if-seen-v-eq0.true w.walk.ensures)
      | else-seen-v-eq0 w ↦ rw w.seen-is (try_pass p i h c.from-v.ensures c.from-at-in-loop-at.ensures w.if-seen-v-eq0.false)
    ]

pub returns : goal.returns
returns t c = walk_done c.requires c.loop-at.invariant c.loop-at-test.false
