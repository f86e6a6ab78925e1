-- `case_run::run_calls` meets its contract: the invariant `Running` says what is left of the run; one law a call. Assumes nothing.
use mathlib.Core.Path.{sym, ◌∙◌}
use native.Mathlib.Omega.{arith}
use Rattle.case_run.specs.CaseRun.{line_by}
use Rattle.case_run.proofs.RunLaws.{no_room, part_back, all_done, counted, stopped, running_next}
use Rattle.case_run.proofs.run_calls.Goals as goal

pub returns-then-out-count : goal.returns-then-out-count
returns-then-out-count c = let a = c.args in let w = no_room a.puzzle.now a.file.now a.at a.count a.out.now c.if-out-count.true in record { value = w.0; out_after = w.1.0; len_in_bounds = w.1.1 }

pub loop-done-preserved : goal.loop-done-preserved
loop-done-preserved c =
    let r = c.loop-done.invariant in
    running_next r _ _ _ c.loop-done-test.true c.in-Some.ensures c.do_call-len.ensures.turned (part_back r (line_by c.loop-done.puzzle c.in-Some.call) _ c.loop-done-test.true c.do_call-len.ensures.out_after)

pub returns-in_default : goal.returns-in_default
returns-in_default c = let w = stopped c.loop-done.invariant (sym c.in_default.is ∙ c.call_at.ensures) in record { value = w.0; out_after = w.1.0; len_in_bounds = w.1.1 }

pub returns : goal.returns
returns c = let w = counted c.loop-done.invariant (omega arith) in record { value = all_done (omega (arith, c.loop-done.invariant.within)) w.0; out_after = w.1.0; len_in_bounds = w.1.1 }
