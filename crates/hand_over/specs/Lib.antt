-- Defined here: a list's entries rising, each once (`Sorted`), and what hand-over answers and writes (`HandOver`); the marks that the code
-- sweeps (`Marks`). `Examples` computes the example of SPEC 7.3.
-- Proved in proofs/SortedLaws: the result rises strictly, has exactly the input's entries, is no longer than the input, and is the only such list.
pub mod Sorted
pub mod HandOver
pub mod Marks
pub mod Examples
