-- Defined here: a case file's puzzle, its calls as calls of demand 3's run, and the lines that they print (`CaseRun`). Crate `examples` prints
-- the lines of SPEC's files.
pub mod CaseRun
