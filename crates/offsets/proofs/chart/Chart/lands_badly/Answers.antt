-- `offsets::chart::Chart::lands_badly` meets its contract: a border that must land well, and the state where it lands. Assumes nothing.
use mathlib.Core.Path.{sym, ◌∙◌}
use Rattle.grid.proofs.Told.{some_told, none_told}
use Rattle.offsets.proofs.LandingLaws.{bad_unkept, bad_end, bad_there, seen_border}
use Rattle.offsets.proofs.chart.Chart.lands_badly.Goals as goal

pub returns-then-not-keeps : goal.returns-then-not-keeps
returns-then-not-keeps c = bad_unkept _ _ _ _ _ _ _ _ (sym c.keeps.ensures ∙ c.if-not-keeps.true)

pub bounds-self-beyond : goal.bounds-self-beyond
bounds-self-beyond c = seen_border _ _ _ c.requires.1 (some_told _ _ _ c.step_at.ensures c.in-Some.is) c.args.self.borders.fits

pub returns-in-Some : goal.returns-in-Some
returns-in-Some c =
    c.is_bad.ensures ∙ bad_there _ _ _ _ _ _ _ _ c.direction-lands.ensures (sym c.keeps.ensures ∙ c.if-not-keeps.false) (some_told _ _ _ c.step_at.ensures c.in-Some.is)

pub returns-in-None : goal.returns-in-None
returns-in-None c = bad_end _ _ _ _ _ _ _ _ (rw (← c.direction-lands.ensures) (none_told _ _ _ c.step_at.ensures c.in-None.is))
