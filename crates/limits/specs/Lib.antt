-- Defined here: the numbers that bound every record (`Limits`).
pub mod Limits
