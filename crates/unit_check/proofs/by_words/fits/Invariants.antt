-- `unit_check::by_words::fits` meets its contract: as no image so far does the unit fit, and the words are as the next trial asks. Assumes nothing.
use Rattle.row_trials.specs.Words.{Prepared}
use Rattle.unit_check.proofs.ImageLaws.{Untold}
use Rattle.unit_check.proofs.by_words.fits.Given as goal

abbrev pub invariant-loop-image : goal.invariant-loop-image
invariant-loop-image l =
    let u = l.trial.unit in
    let b = u.chart.borders in record {
      untold : Untold l.images b.grid b.states.now u.chart.table.now u.cells.now l.image-index;
      prepared : Prepared b.grid b.states.now u.chart.table.now l.words;
    }
