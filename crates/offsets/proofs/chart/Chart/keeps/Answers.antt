-- `offsets::chart::Chart::keeps` meets its contract: what lies beyond the cell decides. Assumes nothing.
use mathlib.Core.Path.{ap, ◌∙◌}
use mathlib.Core.Bool.{not}
use native.Mathlib.Omega.{arith}
use Rattle.grid.proofs.Geometry.{cells_le}
use Rattle.grid.proofs.Told.{some_told, none_told}
use Rattle.offsets.specs.Landings.{is_inner}
use Rattle.offsets.proofs.LandingLaws.{kept_end, seen_cell, seen_border, kept_inner, kept_shut}
use Rattle.offsets.proofs.chart.Chart.keeps.Goals as goal

pub returns-in_default : goal.returns-in_default
returns-in_default c = ap not c.is_inner.ensures ∙ kept_end _ _ _ _ _ _ _ (none_told _ _ _ c.step_at-beyond.ensures c.in_default.is)

pub offset_bounds-self-neighbour : goal.offset_bounds-self-neighbour
offset_bounds-self-neighbour c =
    let b = c.args.self.borders in
    omega (arith, seen_cell _ _ _ c.requires (some_told _ _ _ c.step_at-beyond.ensures c.in-Some.is), cells_le b.grid b.fits.limits)

pub bounds-self-neighbour : goal.bounds-self-neighbour
bounds-self-neighbour c =
    omega (arith, seen_cell _ _ _ c.requires (some_told _ _ _ c.step_at-beyond.ensures c.in-Some.is), c.args.self.table_of.long)

pub bounds-self-neighbour-in-Outer : goal.bounds-self-neighbour-in-Outer
bounds-self-neighbour-in-Outer c =
    seen_border _ _ _ c.requires (some_told _ _ _ c.step_at-beyond.ensures c.in-Some.is) c.args.self.borders.fits

pub returns-in-Inner : goal.returns-in-Inner
returns-in-Inner c =
    kept_inner _ _ _ _ _ _ _ c.requires (some_told _ _ _ c.step_at-beyond.ensures c.in-Some.is) (ap is_inner c.in-Inner.is)

pub returns-in-Outer : goal.returns-in-Outer
returns-in-Outer c =
    kept_shut _ _ _ _ _ _ _ c.requires (some_told _ _ _ c.step_at-beyond.ensures c.in-Some.is) (ap is_inner c.in-Outer.is)
