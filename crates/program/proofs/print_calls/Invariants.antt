-- `program::print_calls`: the invariant `Printing` says what is left of the run. Assumes nothing.
use Rattle.program.proofs.PrintLaws.{Printing}
use Rattle.program.proofs.print_calls.Given as goal

abbrev pub invariant-loop : goal.invariant-loop
invariant-loop g l = Printing l.file l.initial.remaining l.remaining l.out l.counter
