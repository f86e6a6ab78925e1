-- `city_count::find` meets its contract: the side that fails is listed, where one does; nothing for a count above the vertices. Assumes nothing.
use Rattle.std.proofs.Common.{arith}
use Rattle.room_parts.specs.RoomGraph.{graph_in}
use Rattle.city_count.proofs.FindLaws.{told_above, told_side, told_none}
use Rattle.city_count.proofs.find.Goals as goal

pub returns : goal.returns
returns c =
    told_side (graph_in c.args.graph) c.args.count _ _ (omega (arith, c.if-graph-count.false)) _ c.failing.ensures _ _ _ c.in_ok-wall.was c.list.ensures.value c.list.ensures.buffer_after

pub returns-then-graph-count : goal.returns-then-graph-count
returns-then-graph-count c = told_above (graph_in c.args.graph) c.args.count _ _ (omega (arith, c.if-graph-count.true))

pub returns-in_err-wall : goal.returns-in_err-wall
returns-in_err-wall c =
    rw c.from_residual.ensures (told_none (graph_in c.args.graph) c.args.count _ _ (omega (arith, c.if-graph-count.false)) _ c.failing.ensures c.in_err-wall.was)
