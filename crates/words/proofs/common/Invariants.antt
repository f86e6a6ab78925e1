-- `words::common` meets its contract: the loop's invariant is what the codes so far leave. Assumes nothing.
use Prim.Native.Nat.{ℕ, ◌+◌, ◌/◌, ◌%◌}
use mathlib.Core.Bool.{Bool}
use Rattle.words.specs.Words.{bit}
use Rattle.words.proofs.WalkLaws.{AndWalk}
use Rattle.words.proofs.common.Given as goal

abbrev pub P : ℕ → ℕ → ℕ → Bool
P full x e = bit full (x + e % 64)

abbrev pub invariant-loop-code : goal.invariant-loop-code
invariant-loop-code l = AndWalk (P l.full) l.codes (l.full / 4294967296) l.word l.code-index
