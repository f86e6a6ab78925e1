-- `offsets::chart::Chart::first_failure` meets its contract: the cells before this one have nothing. Assumes nothing.
use Rattle.offsets.specs.Table.{units_in}
use Rattle.offsets.specs.Landings.{is_inner, fail_cell}
use Rattle.offsets.proofs.FailLaws.{Missed}
use Rattle.offsets.proofs.chart.Chart.first_failure.Given as goal

abbrev pub invariant-loop-cell : goal.invariant-loop-cell
invariant-loop-cell l =
    let b = l.self.borders in
    Missed (fail_cell b.grid l.shift b.states.now (units_in b.grid l.self.table.now) (is_inner l.kind)) l.cells l.cell-index
