-- Defined here: what trials by words are handed (`Words`), and a unit's image whose codes are written (`Coded`), at all offsets of a row, and of
-- several rows (`Rows`). What is decided is `fits_by` of shape/specs/Shape.antt.
pub mod Words
pub mod Coded
pub mod Rows
