-- `words::gathered` meets its contract: the loop's invariant is the word of the codes so far. Assumes nothing.
use Prim.Native.Nat.{◌+◌, ◌/◌, ◌%◌}
use mathlib.Core.Path.{ap, ◌∙◌}
use native.Mathlib.Omega.{arith}
use native.Mathlib.Nat.{mod-lt}
use lib.ListN.{get_or}
use Rattle.words.specs.Words.{reads}
use Rattle.words.proofs.WordLaws.{bit_moved}
use Rattle.words.proofs.WalkLaws.{or_start, or_turn, or_end, turn_reads}
use Rattle.words.proofs.gathered.Goals as goal

pub loop-code-init : goal.loop-code-init
loop-code-init c = or_start _ _

pub bounds-table-code : goal.bounds-table-code
bounds-table-code c = rw c.from-code.ensures (turn_reads c.requires c.loop-code-test.true)

pub overflow_shr-word : goal.overflow_shr-word
overflow_shr-word c = mod-lt _ (omega arith)

pub loop-code-preserved : goal.loop-code-preserved
loop-code-preserved c =
    or_turn (reads c.args.table.now c.args.at) c.args.codes.now _ c.loop-code-test.true c.loop-code.invariant
    (λ x. bit_moved (get_or c.args.table.now (c.from-code.result / 64 + c.args.at) 0) (c.from-code.result % 64) x ∙ ap (reads c.args.table.now c.args.at x) c.from-code.ensures)

pub returns : goal.returns
returns c = or_end _ _ c.loop-code-test.false c.loop-code.invariant
