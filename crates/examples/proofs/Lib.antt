-- Shown here: a right board and wrong ones of one puzzle, by the laws (`Boards`).
pub mod Boards
