-- `unit_check::stage::Stage::list_first` meets its contract: the list is that of the first unit that fits nowhere. Assumes nothing.
use Rattle.unit_check.proofs.HeldLaws.{units_held}
use Rattle.unit_check.proofs.StageLaws.{finds_nothing, finds_list}
use Rattle.unit_check.proofs.stage.Stage.list_first.Goals as goal

pub returns-in_err-unit : goal.returns-in_err-unit
returns-in_err-unit g c = rw c.from_residual.ensures (finds_nothing _ _ _ _ _ (c.find.ensures.unfit.none c.in_err-unit.was) _)

pub returns : goal.returns
returns g c =
    let s = c.args.self in
    let u = c.find.ensures.unfit in
    finds_list _ _ _ _ _ s.chart.borders.fits.limits s.chart.table_of (units_held s) (u.some _ c.in_ok-unit.was) (u.first _ c.in_ok-unit.was) (rw c.find.ensures.kept.stage at c.write_list.ensures)
