-- `row_trials::coded::Coded::fits_between` meets its contract: no row so far has a good offset, and the stamps hold. Assumes nothing.
use Rattle.row_trials.proofs.RowLaws.{reads_near, reads_inside, reads_words, row_is}
use Rattle.row_trials.proofs.RowsLaws.{rows_start, rows_end, rows_found, rows_turn, stamping, near_rows}
use Rattle.row_trials.proofs.coded.Coded.fits_between.Goals as goal

pub loop-t-init : goal.loop-t-init
loop-t-init c = rows_start c.requires.stamped

pub invariant_of-marked : goal.invariant_of-marked
invariant_of-marked c =
    let s = c.args.self.now in
    record { limits = s.trial.placed.limits; table_of = s.trial.placed.table_of; stamping = stamping c.first.ensures s.trial.placed }

pub row_fits-requires : goal.row_fits-requires
row_fits-requires c =
    let s = c.args.self.now in
    let n = near_rows c.first.ensures c.loop-t-test.true c.requires.from_le_to.1 c.stamp_rows.ensures in
    record { readable = reads_near s.trial.placed s.coded n; readable_2 = reads_inside s.trial.placed s.coded n; readable_3 = reads_words s.trial.placed s.coded n }

pub returns-then-row_fits-clause-value : goal.returns-then-row_fits-clause-value
returns-then-row_fits-clause-value c =
    let s = c.args.self.now in
    let n = near_rows c.first.ensures c.loop-t-test.true c.requires.from_le_to.1 c.stamp_rows.ensures in
    rows_found c.loop-t.invariant c.loop-t-test.true (row_is s.trial.placed s.coded n c.row_fits.ensures) c.if-row_fits.true

pub loop-t-preserved : goal.loop-t-preserved
loop-t-preserved c =
    let s = c.args.self.now in
    let n = near_rows c.first.ensures c.loop-t-test.true c.requires.from_le_to.1 c.stamp_rows.ensures in
    rows_turn c.loop-t.invariant c.loop-t-test.true c.stamp_rows.ensures (row_is s.trial.placed s.coded n c.row_fits.ensures) c.if-row_fits.false

pub returns-clause-value : goal.returns-clause-value
returns-clause-value c = rows_end c.loop-t.invariant c.loop-t-test.false
