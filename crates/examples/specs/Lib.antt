-- Defined here: the starred examples of SPEC 7 as a table, and one computed check of it (`Starred`).
pub mod Starred
