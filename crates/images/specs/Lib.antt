-- Defined here: the eight images of a square, of cells and of directions (`Images`, SPEC 14.1), with closed examples (`Examples`), and what it is to be the symmetries of
-- the square (`Symmetries`). Proved in proofs/: what neighbours become (`Beside`), that the eight images are the symmetries of the square (`Symmetries`), and
-- that there are no others (`Isometries`).
pub mod Images
pub mod Symmetries
pub mod Examples
