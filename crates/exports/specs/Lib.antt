-- Defined here: a group's cells, copied (`Groups`). The numbers by which enums are handed over are defined in crates answers and as_numbers; the
-- rest of each contract is its call's own.
pub mod Groups
