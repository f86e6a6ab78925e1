-- `RoomGraph::joined_parts` meets its contract: `Linking` of the edges so far, and then the sweep's count.
use Rattle.room_parts.specs.RoomGraph.{graph_in, edge_states}
use Rattle.room_parts.proofs.JoinedLaws.{Linking}
use Rattle.room_parts.proofs.RoomGraph.joined_parts.Given as goal

abbrev pub invariant-loop-i : goal.invariant-loop-i
invariant-loop-i l = Linking (graph_in l.self) (edge_states l.self) l.arcs.head l.arcs.next l.arcs.to l.count l.i
