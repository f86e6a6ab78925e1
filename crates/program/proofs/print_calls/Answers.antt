-- `program::print_calls` meets its contract: one law a call, and the two ways out. Assumes nothing.
use Rattle.std.proofs.Common.{◌≤◌, rules}
use Rattle.std.specs.Prelude.{IsOk}
use Rattle.program.proofs.PrintLaws.{printing_next, stopped}
use Rattle.program.proofs.print_calls.Goals as goal

pub loop-preserved : goal.loop-preserved
loop-preserved g c =
    let k = c.run_calls in
    printing_next c.loop.invariant c.in-Ok.progress k.new.puzzle k.new.out c.loop-test.true c.in-Ok.ensures.value k.auto.out

pub returns-in_err-write_all : goal.returns-in_err-write_all
returns-in_err-write_all g c =
    let never : IsOk c.from_residual.result → c.args.remaining.now.count ≤ c.loop.counter = search rules in
    stopped c.loop.invariant c.from_residual.result never

pub returns : goal.returns
returns g c = stopped c.loop.invariant _ (λ _. c.loop-test.false)
