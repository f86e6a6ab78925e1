-- Defined here: what a board's ask answers and writes (`Answer`). The check is `shape_fault` of shape/specs/Shape.antt, with examples
-- beside it, and what is proved of its lists stands in shape/proofs/Theorems.antt.
pub mod Answer
