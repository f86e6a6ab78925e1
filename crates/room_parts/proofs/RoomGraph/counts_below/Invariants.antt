-- `RoomGraph::counts_below` meets its contract: `Taken` of the edges so far, one law for each way through a turn.
use Rattle.room_parts.specs.RoomGraph.{graph_in, edge_states}
use Rattle.room_parts.proofs.CountLaws.{Taken}
use Rattle.room_parts.proofs.RoomGraph.counts_below.Given as goal

abbrev pub invariant-loop-i : goal.invariant-loop-i
invariant-loop-i l = Taken (graph_in l.self) l.count (edge_states l.self) l.union l.left l.i
