-- Defined here: what the counts of the clued rooms find, answer and leave in the buffer, and what their functions ask and promise (`RoomChecks`).
-- Proved in proofs/: the loop finds the first room whose count fails (`RoomChecks`); the counts over the lent slices are those of the board's own
-- rooms (`Housed`).
pub mod RoomChecks
