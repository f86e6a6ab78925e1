-- Defined here: marks of the potential units adjacent to one (`Marks`); the row words of a unit's own cells, and those of the cells in
-- potential units adjacent to one (`Cells`).
pub mod Marks
pub mod Cells
