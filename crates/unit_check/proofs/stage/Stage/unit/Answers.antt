-- `unit_check::stage::Stage::unit` meets its contract: the cells are those of the unit. Assumes nothing.
use Rattle.unit_check.proofs.FindLaws.{its_cells}
use Rattle.unit_check.proofs.HeldLaws.{unit_held}
use Rattle.unit_check.proofs.stage.Stage.unit.Goals as goal

pub invariant_of-result : goal.invariant_of-result
invariant_of-result c =
    let s = c.args.self in
    record { unit = rw (its_cells s.finding c.args.unit c.cells.ensures.cells_are) (unit_held s c.requires) }

pub returns-clause-cells_are : goal.returns-clause-cells_are
returns-clause-cells_are c = its_cells c.args.self.finding c.args.unit c.cells.ensures.cells_are
