-- The cases of what a call that lists answers (SPEC 3.16): how many places hold the list, or the number of the question that refuses. Assumes nothing.
use Rattle.std.specs.Prelude.{ℕ}

pub data Listed : Type 0 where
  List : ℕ → Listed
  Refused : ℕ → Listed
