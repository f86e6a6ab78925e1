-- Defined here: what making, stroke, decide and undo answer, and questions 1 and 2 of a board (`Board`); the run of a list of calls (`Run`).
-- What is proved of it stands in proofs/: a board's run is its book's run, so that after every list of calls from a fresh board the states are exactly
-- the standing borders and the record holds together; an undo gives back the board before an accepted stroke that is not
-- empty, where calls have made it (`Reached`).
pub mod Board
pub mod Run
