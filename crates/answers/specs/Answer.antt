-- The cases of what an ask answers (SPEC 3.16): clear, a fault with its list's length, or the number of the question that refuses. Assumes nothing.
use Rattle.std.specs.Prelude.{ℕ}

pub data Answer : Type 0 where
  Clear : Answer
  Fault : ℕ → Answer
  Refused : ℕ → Answer
