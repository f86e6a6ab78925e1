-- `unit_check::stage::Stage::own` meets its contract: the table tells it of the unit's first cell. Assumes nothing.
use mathlib.Core.Path.{ap, ◌∙◌}
use Rattle.offsets.specs.declared.table.CellInfo.{CellInfo}
use Rattle.unit_check.proofs.stage.Stage.own.Goals as goal

pub returns : goal.returns
returns c =
    let u = c.unit.ensures in
    c.from.ensures ∙ ap (λ (i : CellInfo). i.potential) (rw (u.chart_is, u.cells_are) at c.first.ensures)
