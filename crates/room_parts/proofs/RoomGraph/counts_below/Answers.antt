-- `RoomGraph::counts_below` meets its contract: `Taken` of the edges so far, one law for each way through a turn. Assumes nothing.
use Rattle.std.proofs.Common.{arith}
use Rattle.room_parts.proofs.CountLaws.{taken_none, join_turn, skip_turn, taken_all}
use Rattle.room_parts.proofs.RoomGraph.counts_below.Goals.{then-state-eq1+then-join+else-left-count, else-state-eq1, else-state-eq1-via-then-state-eq1+else-join, else-state-eq1-via-else-state-eq1}
use Rattle.room_parts.proofs.RoomGraph.counts_below.Goals as goal

pub loop-i-init : goal.loop-i-init
loop-i-init c = taken_none _ _ _ c.args.self.lent.few_vertices c.alone-union.ensures

pub overflow_sub-left : goal.overflow_sub-left
overflow_sub-left c =
    (join_turn c.loop-i.invariant c.args.self.lent c.loop-i-test.true c.if-state-eq1.true c.ends-u.ensures.first c.ends-u.ensures.second c.join.ensures.value c.join.ensures.after).some
    c.if-join.true

pub returns-then-left-count : goal.returns-then-left-count
returns-then-left-count c =
    (join_turn c.loop-i.invariant c.args.self.lent c.loop-i-test.true c.if-state-eq1.true c.ends-u.ensures.first c.ends-u.ensures.second c.join.ensures.value c.join.ensures.after).tips
    c.if-join.true c.loop-i-test.true c.if-left-count.true

pub loop-i-preserved : goal.loop-i-preserved
loop-i-preserved c =
    elim c.if-state-eq1.branch [
      | then-state-eq1+then-join+else-left-count w ↦
          rw (w.union-is, w.left-is)
          ((join_turn c.loop-i.invariant c.args.self.lent c.loop-i-test.true w.if-state-eq1.true c.ends-u.ensures.first c.ends-u.ensures.second w.join.ensures.value w.join.ensures.after).less
          w.if-join.true w.if-left-count.false)
      | else-state-eq1 w ↦
          elim w.else-state-eq1.branch [
            | else-state-eq1-via-then-state-eq1+else-join v ↦
                rw (w.union-is, w.left-is, v.union-is)
                ((join_turn c.loop-i.invariant c.args.self.lent c.loop-i-test.true v.if-state-eq1.true c.ends-u.ensures.first c.ends-u.ensures.second v.join.ensures.value v.join.ensures.after).same
                v.if-join.false)
            | else-state-eq1-via-else-state-eq1 v ↦
                rw (w.union-is, w.left-is, v.union-is) (skip_turn c.loop-i.invariant v.if-state-eq1.false)
          ]
    ]

pub returns : goal.returns
returns c = taken_all c.loop-i.invariant (omega arith)
