-- `RoomGraph::most_parts` meets its contract: no marked vertex begins a part, so that the unmarked ones bound the parts.
use Rattle.room_parts.specs.RoomGraph.{graph_in, edge_states}
use Rattle.room_parts.proofs.BoundLaws.{Marks}
use Rattle.room_parts.proofs.RoomGraph.most_parts.Given as goal

abbrev pub invariant-loop-i : goal.invariant-loop-i
invariant-loop-i l = Marks (graph_in l.self) (edge_states l.self) l.marks
