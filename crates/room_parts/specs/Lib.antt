-- Defined here: room graphs, the parts that edges of some states make, and the two numbers of the room count (`Graph`); what the
-- struct of the code stands for (`RoomGraph`). `Examples` counts the parts of small graphs.
-- Proved in proofs/: which edges pass, and that more edges leave fewer parts (`EdgeLaws`); the count by a union is the number of parts
-- (`CountLaws`); bounds of the parts from both sides (`BoundLaws`); the lists of arcs have exactly the graph's links (`JoinedLaws`).
pub mod Graph
pub mod RoomGraph
pub mod Examples
