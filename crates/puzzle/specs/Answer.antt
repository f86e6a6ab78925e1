-- What an ask answers (SPEC 4.15): clear, a fault with the check that found it and its list's length, or refused with the question's number. Assumes nothing.
use Rattle.std.specs.Prelude.{ℕ}
use Rattle.puzzle.specs.declared.Check.{Check}

pub data Answer : Type 0 where
  Clear : Answer
  Fault : Check → ℕ → Answer
  Refused : ℕ → Answer
