-- `unit_check::soon::fits_soon` meets its contract: the loop's invariant is `Tried`. Assumes nothing.
use Rattle.unit_check.proofs.SoonLaws.{Tried}
use Rattle.unit_check.proofs.soon.fits_soon.Given as goal

abbrev pub invariant-loop-i : goal.invariant-loop-i
invariant-loop-i l = let u = l.trial.unit in Tried u.chart.borders.grid u.chart.borders.states.now u.chart.table.now u.cells.now l.beside l.i-end l.i
