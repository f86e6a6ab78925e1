-- `Room::write` meets its contract: one law of `EdgesLaws` a look. Assumes nothing.
use Rattle.std.proofs.Common.{sym, ◌∙◌, arith}
use Rattle.rooms.proofs.EdgesLaws.{listing_none, listing_skip, listing_one, listing_other, listing_all}
use Rattle.rooms.proofs.HouseLaws.{cell_there, look_none, look_seen}
use Rattle.rooms.proofs.room.Room.write.Goals.{in-Some+then-self-border, in-Some+else-self-border, in_default}
use Rattle.rooms.proofs.room.Room.write.Goals as goal

pub loop-cell-init : goal.loop-cell-init
loop-cell-init c = listing_none _ _ _ _ _

pub edge-edge-requires : goal.edge-edge-requires
edge-edge-requires c = cell_there c.args.self.housed c.loop-cell-test.true c.loop-direction-test.true c.vertices-vertices.ensures c.from.ensures

pub loop-direction-preserved : goal.loop-direction-preserved
loop-direction-preserved c =
    let kind = c.state_of-kind.ensures in
    elim c.match-edge.branch [
      | in-Some+then-self-border x ↦
          rw
          (x.buffer-is, x.n-is, x.entry.ensures)
          (listing_one _ _ _ _ _ c.loop-direction.invariant (look_seen c.args.self.housed c.loop-cell-test.true c.loop-direction-test.true c.vertices-vertices.ensures c.from.ensures c.edge-edge.ensures.edge x.in-Some.is) (x.if-self-border.true ∙ kind))
      | in-Some+else-self-border x ↦
          rw
          (x.buffer-is, x.n-is)
          (listing_other _ _ _ _ _ c.loop-direction.invariant (look_seen c.args.self.housed c.loop-cell-test.true c.loop-direction-test.true c.vertices-vertices.ensures c.from.ensures c.edge-edge.ensures.edge x.in-Some.is) (λ q. x.if-self-border.false (q ∙ sym kind)))
      | in_default x ↦
          rw
          (x.buffer-is, x.n-is)
          (listing_skip _ _ _ _ _ c.loop-direction.invariant (look_none c.args.self.housed c.loop-cell-test.true c.loop-direction-test.true c.vertices-vertices.ensures c.from.ensures c.edge-edge.ensures.edge x.in_default.not-Some))
    ]

pub returns : goal.returns
returns c =
    let w = listing_all _ _ _ _ _ c.loop-cell.invariant (omega (arith, c.loop-cell-test.false)) in
    record { value = w.0; buffer_after = w.1 }
