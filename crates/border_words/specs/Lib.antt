-- Defined here: what the row words of a board's borders say (`Sides`, SPEC 13.3); what filling them asks and promises (`Filled`).
pub mod Sides
pub mod Filled
