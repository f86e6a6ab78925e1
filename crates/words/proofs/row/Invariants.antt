-- `words::row` meets its contract: the loop's invariant is the word of the columns so far. Assumes nothing.
use Prim.Native.Nat.{ℕ, ◌<◌}
use mathlib.Core.Path.{◌≡◌}
use mathlib.Core.Bool.{Bool}
use Rattle.words.proofs.SetLaws.{SetWalk}
use Rattle.words.proofs.row.Given as goal

abbrev pub invariant-loop-x : goal.invariant-loop-x
invariant-loop-x g l = (P : ℕ → Bool) → ((x : ℕ) (set : Bool) → x < l.width → goal.F-post g l.is_set x set → set ≡ P x) → SetWalk P l.width l.word l.x
