-- `Room::edges` meets its contract: one law of `EdgesLaws` a look. Assumes nothing.
use Rattle.std.proofs.Common.{arith}
use Rattle.rooms.proofs.EdgesLaws.{writing_none, writing_skip, writing_one, writing_all}
use Rattle.rooms.proofs.HouseLaws.{few, cell_there, look_none, look_seen}
use Rattle.rooms.proofs.room.Room.edges.Goals.{in-Some, in_default}
use Rattle.rooms.proofs.room.Room.edges.Goals as goal

pub loop-cell-init : goal.loop-cell-init
loop-cell-init c = writing_none _ _ _

pub edge-requires : goal.edge-requires
edge-requires c = cell_there c.args.self.housed c.loop-cell-test.true c.loop-direction-test.true c.vertices-vertices.ensures c.from-cell.ensures

pub bounds-vertices-cell : goal.bounds-vertices-cell
bounds-vertices-cell c =
    (look_seen c.args.self.housed c.loop-cell-test.true c.loop-direction-test.true c.vertices-vertices.ensures c.from-cell.ensures c.edge.ensures.edge c.in-Some.is).cell_lt

pub overflow_sub-us : goal.overflow_sub-us
overflow_sub-us c =
    omega (arith, (look_seen c.args.self.housed c.loop-cell-test.true c.loop-direction-test.true c.vertices-vertices.ensures c.from-cell.ensures c.edge.ensures.edge c.in-Some.is).from_is)

pub loop-direction-preserved : goal.loop-direction-preserved
loop-direction-preserved c =
    elim c.match-edge.branch [
      | in-Some x ↦
          rw
          (x.us-is, x.vs-is, x.states-is, x.m-is)
          (writing_one _ _ _ c.loop-direction.invariant (look_seen c.args.self.housed c.loop-cell-test.true c.loop-direction-test.true c.vertices-vertices.ensures c.from-cell.ensures c.edge.ensures.edge x.in-Some.is))
      | in_default x ↦
          rw
          (x.us-is, x.vs-is, x.states-is, x.m-is)
          (writing_skip _ _ _ c.loop-direction.invariant (look_none c.args.self.housed c.loop-cell-test.true c.loop-direction-test.true c.vertices-vertices.ensures c.from-cell.ensures c.edge.ensures.edge x.in_default.not-Some))
    ]

pub returns : goal.returns
returns c = writing_all _ _ _ c.loop-cell.invariant (few c.args.self.housed) (omega (arith, c.loop-cell-test.false))
