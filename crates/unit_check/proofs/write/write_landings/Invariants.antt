-- `unit_check::write::write_landings` meets its contract: the loop's invariant is what is left to write. Assumes nothing.
use Rattle.unit_check.proofs.WriteLaws.{Landing}
use Rattle.unit_check.proofs.write.write_landings.Given as goal

abbrev pub invariant-loop-to : goal.invariant-loop-to
invariant-loop-to l = let u = l.trial.unit in Landing l.image u.chart.borders.grid u.chart.borders.states.now u.chart.table.now u.cells.now l.initial.list l.list l.to
