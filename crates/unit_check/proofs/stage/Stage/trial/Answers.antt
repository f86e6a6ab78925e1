-- `unit_check::stage::Stage::trial` meets its contract: the marks are those of the unit. Assumes nothing.
use Rattle.unit_check.proofs.HeldLaws.{placed_held}
use Rattle.unit_check.proofs.stage.Stage.trial.Goals as goal

pub invariant_of-result : goal.invariant_of-result
invariant_of-result c =
    let u = c.unit.ensures in
    record { placed = rw (u.chart_is, u.cells_are) (placed_held c.args.self c.requires.unit_exists c.requires.marked c.requires.marks_long) }
