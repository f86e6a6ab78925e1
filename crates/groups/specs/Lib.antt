-- Defined here: the groups into which the borders that pass join a board's cells, by number and by cells (`Groups`); all cells in turn, and each group's
-- start and size (`Turn`); the group record, its question 2, and what grouping and hand-out answer (`Info`). `Examples` computes small boards.
-- What the inner functions ask and promise stands in `Joins`, `Runs` and `Lent`.
-- Proved in proofs/: two cells have one number exactly if they are in one unit, or potential unit, and each number below the count is used (`GroupLaws`);
-- groups are numbered by first cell, none is empty, their cells rise and together are all cells, each once, and a grouping's own record and buffer
-- hand out exactly the group's cells (`Theorems`).
pub mod Groups
pub mod Turn
pub mod Lent
pub mod Joins
pub mod Runs
pub mod Info
pub mod Examples
