-- `case_file::numbers` meets its contract: the invariant `Copying` says what is left, one law a turn and one at the end. Assumes nothing.
use Rattle.case_file.specs.Layout.{numbers_at}
use Rattle.case_file.proofs.NumberLaws.{Copying}
use Rattle.case_file.proofs.numbers.Given as goal

abbrev pub invariant-loop-k : goal.invariant-loop-k
invariant-loop-k l = Copying (numbers_at l.file l.list.at l.list.count) l.initial.number-items l.number-items l.k
