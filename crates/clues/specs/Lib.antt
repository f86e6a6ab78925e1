-- Defined here: questions 3, 7, 8 and 9 of given walls and clues, and the number of the one that refuses them (`Clues`).
-- Proved in proofs/: the functions put these questions (`Loops`, `ListsCode`); what is true of lists that they accept (`Fitting`); the count
-- of a clued room lists what the lone room check of its graph does (`Alone`).
pub mod Clues
