-- `row_trials::coded::Coded::fits_somewhere` meets its contract: both halves of the rows are all offsets. Assumes nothing.
use mathlib.Core.Path.{◌∙◌}
use native.Mathlib.Omega.{arith}
use Rattle.row_trials.proofs.FitsLaws.{fits_later, fits_sooner, tall_low}
use Rattle.row_trials.proofs.coded.Coded.fits_somewhere.Goals as goal

pub overflow_add-tall : goal.overflow_add-tall
overflow_add-tall c = let s = c.args.self.now in omega (arith, tall_low s.trial.placed s.coded.span)

pub returns-then-fits_between-clause-value : goal.returns-then-fits_between-clause-value
returns-then-fits_between-clause-value c =
    let s = c.args.self.now in
    c.if-fits_between.true ∙ fits_later s.trial.placed s.coded.span c.saturating_sub-low.result (omega (arith, c.saturating_sub-low.ensures, c.requires.row_in)) (rw c.saturating_sub-end.ensures at c.fits_between.ensures.value) c.if-fits_between.true

pub returns-else-fits_between-clause-value : goal.returns-else-fits_between-clause-value
returns-else-fits_between-clause-value c =
    let s = c.args.self.now in
    fits_sooner s.trial.placed s.coded.span c.saturating_sub-low.result (omega (arith, c.saturating_sub-low.ensures, c.requires.row_in)) (rw c.saturating_sub-end.ensures at c.fits_between.ensures.value) c.if-fits_between.false c.fits_between-else-fits_between.ensures.value
