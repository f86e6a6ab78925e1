-- `words::common` meets its contract: the loop's invariant is what the codes so far leave. Assumes nothing.
use Prim.Native.Nat.{◌%◌}
use mathlib.Core.Path.{ap, ◌∙◌}
use native.Mathlib.Omega.{arith}
use native.Mathlib.Nat.{mod-lt}
use lib.ListN.{get_or}
use Rattle.lists.specs.Choice.{both}
use Rattle.lists.specs.Lists.{all}
use Rattle.words.proofs.WordLaws.{bit_moved}
use Rattle.words.proofs.WalkLaws.{and_start, and_turn, and_end}
use Rattle.words.proofs.common.Invariants.{P}
use Rattle.words.proofs.common.Goals as goal

pub loop-code-init : goal.loop-code-init
loop-code-init c = and_start _ _ _

pub overflow_shr-word-in-loop-code : goal.overflow_shr-word-in-loop-code
overflow_shr-word-in-loop-code c = mod-lt _ (omega arith)

pub loop-code-preserved : goal.loop-code-preserved
loop-code-preserved c =
    and_turn (P c.args.full) c.args.codes.now _ c.loop-code-test.true c.loop-code.invariant
    (λ x. bit_moved c.args.full (get_or c.args.codes.now c.loop-code.code-index 0 % 64) x)

pub returns : goal.returns
returns c x =
    and_end (P c.args.full) c.args.codes.now c.loop-code-test.false c.loop-code.invariant x
    ∙ ap (λ b. both b (all (P c.args.full x) c.args.codes.now)) (bit_moved c.args.full 32 x)
