-- Defined here: the lists of arcs that the walk follows, and what a walk and a sweep of walks do (`Walk`); the lists that have exactly the arcs
-- of some edges (`Linked`).
-- Proved in proofs/: the lists have exactly the links that were put in them (`LinkLaws`); a walk marks exactly what is joined to its start, and a
-- sweep counts the parts (`WalkLaws`).
pub mod Walk
pub mod Linked
