-- Defined here: entries, and what it is for one to stand (`Entry`); the borders of a board as they stand (`Border`).
-- Proved in proofs/: an entry stands exactly as the border's state says (`EntryLaws`); the tests say what they read (`BorderLaws`) and read
-- the board's borders alone (`Agreement`); two neighbours are told once, from the upper or left one (`Directions`).
pub mod Entry
pub mod Fits
pub mod Border
