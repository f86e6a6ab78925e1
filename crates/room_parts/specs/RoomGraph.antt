-- What a `RoomGraph` stands for. Assumes nothing.
use Rattle.std.specs.Prelude.{ℕ}
use Rattle.room_parts.specs.Graph.{Graph, graph_of, states_in}
use Rattle.room_parts.specs.declared.RoomGraph.{RoomGraph}

abbrev pub graph_in : RoomGraph → Graph
graph_in r = graph_of r.vertices r.us.now r.vs.now r.states.now

-- the state of each edge
abbrev pub edge_states : RoomGraph → ℕ → ℕ
edge_states r = states_in r.states.now
