-- `unit_check::by_words::fits` meets its contract: as no image so far does the unit fit, and the words are as the next trial asks. Assumes nothing.
use mathlib.Core.Path.{refl}
use Rattle.row_trials.proofs.RoomLaws.{asking, left_prepared}
use Rattle.unit_check.proofs.ImageLaws.{untold_first, untold_fits, untold_on, untold_end}
use Rattle.unit_check.proofs.by_words.fits.Goals as goal

pub loop-image-init : goal.loop-image-init
loop-image-init c = record { untold = untold_first _ _ _ _ _; prepared = c.requires }

pub fits-requires : goal.fits-requires
fits-requires c = let p = c.loop-image.invariant.prepared in record { asking = asking p c.args.trial.unit.unit; stamped = p.stamped }

pub returns-then-fits-clause-value : goal.returns-then-fits-clause-value
returns-then-fits-clause-value c = untold_fits _ _ _ _ _ c.loop-image.invariant.untold c.loop-image-test.true _ refl c.fits.ensures.value c.if-fits.true

pub returns-then-fits-clause-prepared : goal.returns-then-fits-clause-prepared
returns-then-fits-clause-prepared c = left_prepared c.loop-image.invariant.prepared c.fits.ensures.left

pub loop-image-preserved : goal.loop-image-preserved
loop-image-preserved c =
    record {
      untold = untold_on _ _ _ _ _ c.loop-image.invariant.untold c.loop-image-test.true _ refl c.fits.ensures.value c.if-fits.false;
      prepared = left_prepared c.loop-image.invariant.prepared c.fits.ensures.left;
    }

pub returns-clause-value : goal.returns-clause-value
returns-clause-value c = untold_end _ _ _ _ _ c.loop-image.invariant.untold c.loop-image-test.false

pub returns-clause-prepared : goal.returns-clause-prepared
returns-clause-prepared c = c.loop-image.invariant.prepared
