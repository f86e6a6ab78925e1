-- `words::row` meets its contract: the loop's invariant is the word of the columns so far. Assumes nothing.
use Rattle.words.proofs.SetLaws.{set_start, set_turn, set_only}
use Rattle.words.proofs.row.Goals as goal

pub loop-x-init : goal.loop-x-init
loop-x-init g c = λ P told. set_start P _

pub loop-x-preserved : goal.loop-x-preserved
loop-x-preserved g c =
    λ P told. set_turn P _ _ _ _ _ c.loop-x-test.true (c.loop-x.invariant P told) (told _ _ c.loop-x-test.true c.is_set.ensures) c.with_bit-word.ensures

pub returns : goal.returns
returns g c = λ P told. set_only P _ _ _ c.loop-x-test.false (c.loop-x.invariant P told)
