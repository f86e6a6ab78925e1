-- A puzzle's answer as numbers (SPEC 4.15): clear, or a fault with its check and its list's length, or refused. Assumes nothing.
use Rattle.std.specs.Prelude.{ℕ}
use Rattle.puzzle.specs.declared.Check.{Check}
use Rattle.puzzle.specs.declared.Check.TheVariants.{Shape, Room}
use Rattle.puzzle.specs.Answer.{Answer}
use Rattle.puzzle.specs.Answer.{Clear, Fault, Refused}
use Rattle.as_numbers.specs.declared.puzzles.Outcome.{Outcome}

-- kind 1 for the shape check, 2 for a room with its number
abbrev pub fault_outcome : Check → ℕ → Outcome
fault_outcome Shape n = record { kind = 1; code = 0; room = 0; length = n }
fault_outcome (Room r) n = record { kind = 2; code = 0; room = r; length = n }

-- kind 0 for clear, 3 for a refusal with its number
abbrev pub outcome_of : Answer → Outcome
outcome_of Clear = record { kind = 0; code = 0; room = 0; length = 0 }
outcome_of (Fault check n) = fault_outcome check n
outcome_of (Refused k) = record { kind = 3; code = k; room = 0; length = 0 }
