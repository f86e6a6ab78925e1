-- `flaws::calls` meets its contract: the invariant says what the calls that are left come to; one law a call. Assumes nothing.
use Rattle.std.proofs.Common.{sym, ◌∙◌, arith}
use Rattle.flaws.proofs.FlawLaws.{calls_next, calls_stop, calls_end}
use Rattle.flaws.proofs.calls.Goals as goal

pub returns-in_default : goal.returns-in_default
returns-in_default c =
    let a = c.args in
    c.call.ensures ∙ calls_stop a.file.now a.count c.loop.counter c.loop.next c.loop-test.true (sym c.in_default.is ∙ c.call_at.ensures) ∙ c.loop.invariant

pub returns : goal.returns
returns c =
    let a = c.args in
    calls_end a.file.now a.count c.loop.counter c.loop.next (omega arith) ∙ c.loop.invariant

pub loop-preserved : goal.loop-preserved
loop-preserved c =
    let a = c.args in
    calls_next a.file.now a.count c.loop.counter c.loop.next c.in-Some.field-0-0 c.in-Some.behind c.loop-test.true c.in-Some.ensures ∙ c.loop.invariant
