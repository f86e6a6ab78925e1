-- `border_words::fill_side` meets its contract: the words of the rows so far are made. Assumes nothing.
use Rattle.std.proofs.Common.{ℕ, ◌<◌, ◌*◌, get_or}
use Rattle.border_words.specs.Filled.{SideWord}
use Rattle.border_words.proofs.fill_side.Given as goal

abbrev pub invariant-loop-y : goal.invariant-loop-y
invariant-loop-y l = (z : ℕ) → z < l.y → SideWord (z * l.len) l.len l.states l.state (get_or l.words z 0)
