-- Defined here: what the room count lists, and the lone room check around it (`Fault`); what making, stroke, decide, undo and ask answer, and
-- questions 1 and 2 of a room graph (`Room`); the run of a list of calls (`Run`). `Examples` computes SPEC's examples.
-- Proved in proofs/: which entries are listed (`EntryLaws`); that they stand, exclude the count and are a fault again wherever they stand, and that a
-- fully decided graph is clear exactly when its parts equal the count, of the room count where the count is not above the vertices (`FaultLaws`), of the
-- lone room check for every count (`LoneLaws`); a graph's run is its book's run, and an undo gives back the record before an accepted stroke, where
-- calls have made it (`Reached`); after every list of calls the record's states are the standing edges, and the next ask answers what the check finds
-- on them (`Theorem`).
pub mod Fault
pub mod Room
pub mod Run
pub mod Examples
