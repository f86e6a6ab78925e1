-- `case_file::calls_at` meets its contract: the invariant `Walking` says what the calls that are left leave behind them. Assumes nothing.
use Rattle.std.proofs.Common.{◌+◌}
use Rattle.case_file.proofs.ListLaws.{Walking}
use Rattle.case_file.proofs.calls_at.Given as goal

abbrev pub invariant-loop : goal.invariant-loop
invariant-loop l = Walking l.file (l.at + 2) l.count l.next l.counter
