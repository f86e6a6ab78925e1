-- Defined here: what the functions that list and mark adjacent potential units ask and promise (`Adjacency`). Adjacency itself is `adjacent` of shape/specs/Shape.antt.
pub mod Adjacency
