-- `ledger::all_fit` meets its contract: the loop's invariant says what is left to test, beside what was found so far. Assumes nothing.
use lib.ListN.{length}
use Rattle.ledger.proofs.Loops.{fits_start, fits_end}
use Rattle.ledger.proofs.Turns.{fits_on}
use Rattle.ledger.proofs.all_fit.Goals as goal

pub loop-e-init : goal.loop-e-init
loop-e-init c = fits_start (length c.args.states.now) c.args.states.now c.args.marks.now

pub loop-e-preserved : goal.loop-e-preserved
loop-e-preserved c = fits_on (length c.args.states.now) c.args.states.now c.args.marks.now c.loop-e.good c.loop-e.e c.fits-good.result c.loop-e-test.true c.fits-good.ensures c.loop-e.invariant

pub returns : goal.returns
returns c = fits_end (length c.args.states.now) c.args.states.now c.args.marks.now c.loop-e.good c.loop-e.e c.loop-e-test.false c.loop-e.invariant
