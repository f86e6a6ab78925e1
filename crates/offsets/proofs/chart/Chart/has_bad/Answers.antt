-- `offsets::chart::Chart::has_bad` meets its contract: the directions before this one land well. Assumes nothing.
use mathlib.Core.Path.{refl, sym, ◌∙◌}
use Rattle.lists.specs.Lists.{any}
use Rattle.lists.proofs.ChoiceLaws.{either_false}
use Rattle.offsets.specs.Table.{units_in}
use Rattle.offsets.specs.Landings.{has_bad}
use Rattle.offsets.proofs.SideLaws.{open_lands}
use Rattle.offsets.proofs.chart.Chart.has_bad.Goals as goal

pub returns-then-lands_badly : goal.returns-then-lands_badly
unfolding has_bad any
returns-then-lands_badly c = rw (← c.if-lands_badly.ensures) refl

pub returns-then-lands_badly-2 : goal.returns-then-lands_badly-2
unfolding has_bad any
returns-then-lands_badly-2 c = rw (← c.if-lands_badly.ensures, ← c.if-lands_badly-2.ensures) refl

pub returns-then-not-is_shut : goal.returns-then-not-is_shut
unfolding has_bad any
returns-then-not-is_shut c =
    rw (← c.if-lands_badly.ensures, ← c.if-lands_badly-2.ensures)
    (let a = c.args in sym (open_lands _ a.shift _ (units_in a.self.borders.grid a.self.table.now) a.cell a.fallen (c.is_shut.ensures c.if-not-is_shut.true)))

pub returns-then-lands_badly-3 : goal.returns-then-lands_badly-3
unfolding has_bad any
returns-then-lands_badly-3 c = rw (← c.if-lands_badly.ensures, ← c.if-lands_badly-2.ensures, ← c.if-lands_badly-3.ensures) refl

pub returns-then-lands_badly-4 : goal.returns-then-lands_badly-4
unfolding has_bad any
returns-then-lands_badly-4 c = rw (← c.if-lands_badly.ensures, ← c.if-lands_badly-2.ensures, ← c.if-lands_badly-3.ensures, ← c.if-lands_badly-4.ensures) refl

pub returns-then-lands_badly-5 : goal.returns-then-lands_badly-5
unfolding has_bad any
returns-then-lands_badly-5 c = rw (← c.if-lands_badly.ensures, ← c.if-lands_badly-2.ensures, ← c.if-lands_badly-3.ensures, ← c.if-lands_badly-4.ensures, ← c.if-lands_badly-5.ensures) refl

pub returns : goal.returns
unfolding has_bad any
returns c = rw (← c.if-lands_badly.ensures, ← c.if-lands_badly-2.ensures, ← c.if-lands_badly-3.ensures, ← c.if-lands_badly-4.ensures, ← c.if-lands_badly-5.ensures) (c.lands_badly-6.ensures ∙ sym (either_false _))
