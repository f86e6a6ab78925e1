-- `RoomGraph::joined_parts` meets its contract: `Linking` of the edges so far, and then the sweep's count. Assumes nothing.
use Rattle.std.proofs.Common.{arith}
use Rattle.room_parts.proofs.JoinedLaws.{linking_none, linking_skip, linking_more, sweep_ready, counted}
use Rattle.room_parts.proofs.RoomGraph.joined_parts.Goals.{then-state-ne2, else-state-ne2}
use Rattle.room_parts.proofs.RoomGraph.joined_parts.Goals as goal

pub loop-i-init : goal.loop-i-init
loop-i-init c = linking_none c.args.self.lent c.new-arcs.ensures

pub loop-i-preserved : goal.loop-i-preserved
loop-i-preserved c =
    elim c.if-state-ne2.branch [
      | then-state-ne2 w ↦
          let l = w.link.ensures in
          let k = w.link-then-state-ne2.ensures in
          rw (w.arcs-is, w.count-is)
          (linking_more c.args.self.lent c.loop-i.invariant c.loop-i-test.true w.ends-u.ensures.first w.ends-u.ensures.second w.if-state-ne2.true
          l.head_after
          l.next_after
          l.to_after
          k.head_after
          k.next_after
          k.to_after)
      | else-state-ne2 w ↦ rw (w.arcs-is, w.count-is) (linking_skip c.args.self.lent c.loop-i.invariant w.if-state-ne2.false)
    ]

pub sweep-requires : goal.sweep-requires
sweep-requires c = sweep_ready c.args.self.lent c.loop-i.invariant (omega arith)

pub returns : goal.returns
returns c = counted c.args.self.lent c.loop-i.invariant (omega arith) c.sweep.ensures
