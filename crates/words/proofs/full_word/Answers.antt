-- `words::full_word` meets its contract: each column is set. Assumes nothing.
use mathlib.Core.Bool.{true}
use Rattle.std.proofs.Common.{rules}
use Rattle.words.proofs.SetLaws.{only_full}
use Rattle.words.proofs.full_word.Goals as goal

pub returns : goal.returns
returns c = only_full _ _ (c.row.ensures (λ z. true) (λ x set h p. search rules))
