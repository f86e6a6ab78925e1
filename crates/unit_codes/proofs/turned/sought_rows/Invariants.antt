-- `unit_codes::turned::sought_rows` meets its contract: the first and the last row of the cells so far. Assumes nothing.
use Rattle.unit_codes.proofs.SpanLaws.{Widens}
use Rattle.unit_codes.proofs.turned.sought_rows.Given as goal

abbrev pub invariant-loop-cell : goal.invariant-loop-cell
invariant-loop-cell l = Widens l.image l.unit.chart.borders.grid l.unit.cells.now l.top l.from l.last l.cell-index
