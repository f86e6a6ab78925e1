-- Defined here: the parts into which edges join vertices, with their numbers (`Parts`), what marks keep while parts are flooded one after the
-- other (`Flood`), and forests whose trees are the parts (`Forest`). `Examples` computes parts of small graphs.
-- Proved in proofs/: a part's number tells exactly the joined vertices apart and parts are numbered by first vertex without gaps (`PartLaws`),
-- the lists that compute say the same (`PartLists`), one edge more joins two parts or none (`UniteLaws`), a sweep of floods counts all parts
-- (`FloodLaws`), and a forest takes in vertices and edges and numbers its parts in one pass (`ForestLaws`).
pub mod Parts
pub mod Flood
pub mod Forest
pub mod Examples
