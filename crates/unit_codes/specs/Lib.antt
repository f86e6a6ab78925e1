-- Defined here: where a unit's cells stand in an image (`Spans`), the codes of its cells and borders, and what writing them asks (`Codes`).
pub mod Spans
pub mod Codes
