-- `unit_check::write::write_images` meets its contract: the loop's invariant is what is left to write. Assumes nothing.
use Rattle.unit_check.proofs.WriteLaws.{Imaged}
use Rattle.unit_check.proofs.write.write_images.Given as goal

abbrev pub invariant-loop-image : goal.invariant-loop-image
invariant-loop-image l =
    let u = l.trial.unit in
    Imaged l.images u.chart.borders.grid u.chart.borders.states.now u.chart.table.now u.cells.now l.initial.list l.list l.image-index
