-- Defined here: the lines on standard error that say why a file is refused, or a wrong use (`Sentences`).
-- Proved in proofs/: what a name that is written character by character comes to (`NameLaws`).
pub mod Sentences
