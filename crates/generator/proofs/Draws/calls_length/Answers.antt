-- `generator::Draws::calls_length` meets its contract: the invariant `Counting` says what is left, one law a turn and one at the end. Assumes nothing.
use Rattle.std.proofs.Common.{arith}
use Rattle.generator.proofs.WriteLaws.{counting_next, counted_most, counting_end}
use Rattle.generator.proofs.Draws.calls_length.Goals as goal

pub overflow_add-length : goal.overflow_add-length
overflow_add-length c =
    omega (arith, c.requires, counted_most c.loop.invariant _ c.loop-test.true c.next.ensures.drawn c.call_length-length.ensures)

pub loop-preserved : goal.loop-preserved
loop-preserved c =
    counting_next c.loop.invariant _ c.loop-test.true c.next.ensures.drawn c.next.ensures.borders c.call_length-length.ensures

pub returns : goal.returns
returns c = counting_end c.loop.invariant c.loop-test.false
