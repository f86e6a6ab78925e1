-- Defined here: given walls, rooms and clues (`Rooms`); a room's graph, and what its count lists in board border numbers (`RoomGraph`); which
-- cells a room has and how many units it holds (`Units`); what the functions over lent slices ask and promise (`Lent`).
-- Proved in proofs/: a room's graph has k parts exactly if the room holds k units (`RoomUnits`); a count's list stands as listed, wherever it
-- stands there is a fault, and on a full board with the given walls the count is clear exactly if the room holds so many units (`Theorems`).
pub mod Rooms
pub mod RoomGraph
pub mod Units
pub mod Lent
