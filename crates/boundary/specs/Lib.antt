-- Defined here: the two boundary lists, each in its own order (`Boundary`); what the public calls answer and write (`Answer`), with closed
-- examples of both (`Examples`); what the functions that write the lists ask and promise (`Listing`, `Appended`, `Writes`).
-- Proved in proofs/: which entries are in each list, that each stands as listed, and that there are at most 4 a cell (`BoundaryLaws`);
-- the lists depend on the board's borders alone (`Agreement`).
pub mod Boundary
pub mod Examples
pub mod Appended
pub mod Writes
pub mod Listing
pub mod Answer
