-- `case_run::run_calls` meets its contract: the invariant `Running` says what is left of the run; one law a call. Assumes nothing.
use Rattle.case_run.proofs.RunLaws.{Running}
use Rattle.case_run.proofs.run_calls.Given as goal

abbrev pub invariant-loop-done : goal.invariant-loop-done
invariant-loop-done l = Running l.initial.puzzle l.file l.at l.count l.initial.out l.puzzle l.next l.done l.len l.out
