-- Defined here: the numbers by which enums are handed over (`Boards`, `Files`, `Places`, `Prints`, `Puzzles`).
pub mod Boards
pub mod Files
pub mod Places
pub mod Prints
pub mod Puzzles
