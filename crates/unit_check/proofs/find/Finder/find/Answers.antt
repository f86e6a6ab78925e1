-- `unit_check::find::Finder::find` meets its contract: one unit is the whole board; else those that fit nowhere soon are tried by words. Assumes nothing.
use mathlib.Core.Path.{sym, ◌∙◌}
use native.Mathlib.Omega.{arith}
use Rattle.unit_check.proofs.FindLaws.{units_turn, only_unit, fit_there, unfit_some}
use Rattle.unit_check.proofs.HeldLaws.{alone_held}
use Rattle.unit_check.proofs.find.Finder.find.Goals as goal

pub returns-then-len-eq1-clause-unfit : goal.returns-then-len-eq1-clause-unfit
returns-then-len-eq1-clause-unfit g c =
    let s = c.args.self.now.stage in
    unfit_some (omega (arith, c.if-len-eq1.true, c.len.ensures)) (only_unit s.images.now s.chart.borders.states.now s.chart.table.now (units_turn s.finding s.units.turns) (sym c.len.ensures ∙ c.if-len-eq1.true)) c.mark.ensures.marked

pub returns-then-is_told_soon-clause-unfit : goal.returns-then-is_told_soon-clause-unfit
returns-then-is_told_soon-clause-unfit g c =
    let s = c.args.self.now.stage in
    let o = c.find_soon.ensures.sought in
    let e = c.in_ok-unit.was in
    let h = (o.some _ e).1 in
    let told = rw c.find_soon.ensures.kept.stage at c.is_told_soon.ensures in
    unfit_some h (fit_there (o.before _ e) (λ l. alone_held s h told c.if-is_told_soon.true (λ t. o.there t _ e))) (o.marked _ e)
