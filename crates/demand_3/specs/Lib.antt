-- Defined here: the laws of a full board, all four (`Laws`); lists of calls, their run and the standing borders (`Run`); demand 3, sentence by
-- sentence (`Demand3`). What a single call answers is defined in crate puzzle.
-- Proved in proofs/Demand3.antt: demand 3, for every accepted making of each kind. It rests on `Reached` (after every list of calls exactly the standing borders
-- stand, and the record holds together), `FaultLaws` (the theorems of the whole check, for any list of images), `Asks` (the next ask gives what the
-- checks find on the standing borders) and `Orders` (entries decided in any order, cut into strokes in any way, are accepted and stand).
-- proofs/Lengths.antt: an ask lists at most nine entries a cell for translates, and sixteen for images.
pub mod Laws
pub mod Run
pub mod Demand3
