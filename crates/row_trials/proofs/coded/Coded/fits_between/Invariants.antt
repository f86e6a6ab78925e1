-- `row_trials::coded::Coded::fits_between` meets its contract: no row so far has a good offset, and the stamps hold. Assumes nothing.
use Rattle.row_trials.proofs.RowsLaws.{RowsWalk}
use Rattle.row_trials.proofs.coded.Coded.fits_between.Given as goal

abbrev pub invariant-loop-t : goal.invariant-loop-t
invariant-loop-t l =
    let t = l.self in
    let u = t.trial.unit in
    RowsWalk t.image u.chart.borders.grid u.chart.borders.states.now u.chart.table.now u.cells.now t.rows.top l.from l.to l.initial.near l.near l.t
