-- `generator::Draws::write_calls` meets its contract: the invariant `Written` says what is left, one law a turn and one at the end. Assumes nothing.
use Rattle.generator.proofs.WriteLaws.{call_room, written_next, written_end}
use Rattle.generator.proofs.Draws.write_calls.Goals as goal

pub write_call-at-requires : goal.write_call-at-requires
write_call-at-requires c = call_room c.loop.invariant _ c.loop-test.true c.next.ensures.drawn

pub loop-preserved : goal.loop-preserved
loop-preserved c =
    let w = c.write_call-at.ensures in
    written_next c.loop.invariant _ c.loop-test.true c.next.ensures.drawn c.next.ensures.borders w.value w.file_after

pub returns : goal.returns
returns c = written_end c.loop.invariant c.loop-test.false
