-- `words::with_bit` meets its contract. Assumes nothing.
use Prim.Native.Nat.{ℕ, ◌^◌}
use mathlib.Core.Path.{sym, ap, ◌∙◌}
use lib.Bits.{bit_or}
use Rattle.std.proofs.lemmas.Nat.{one_shl}
use Rattle.lists.specs.Choice.{either}
use Rattle.words.specs.Words.{bit}
use Rattle.lists.proofs.ChoiceLaws.{either_false}
use Rattle.words.proofs.WordLaws.{bit_or_lem, bit_one}
use Rattle.words.proofs.with_bit.Goals as goal

pub returns-then-set : goal.returns-then-set
returns-then-set c i =
    rw c.if-set.true
    (ap (λ (n : ℕ). bit (bit_or c.args.word n) i) (one_shl c.args.j 64 c.requires) ∙ bit_or_lem c.args.word (2 ^ c.args.j) i
    ∙ ap (either (bit c.args.word i)) (bit_one c.args.j i))

pub returns-else-set : goal.returns-else-set
returns-else-set c i = rw c.if-set.false (sym (either_false (bit c.args.word i)))
