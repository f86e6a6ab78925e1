-- `adjacency::Potentials::look` meets its contract: one law of `LookLaws` for each way out. Assumes nothing.
use Prim.Native.Nat.{◌<◌}
use native.Mathlib.Omega.{arith}
use lib.ListN.{length}
use Rattle.adjacency.proofs.LookLaws.{at_end, border_fits, cell_fits, no_wall, unit_small, marked_before, found}
use Rattle.adjacency.proofs.Potentials.look.Goals as goal

pub returns-in_default-clause-looked : goal.returns-in_default-clause-looked
returns-in_default-clause-looked c = at_end c.args.self.chart.borders.fits c.requires.looks c.requires.cell _ c.step_at.ensures c.in_default.not-Some

pub bounds-states-border : goal.bounds-states-border
bounds-states-border c =
    border_fits c.args.self.chart.borders.fits c.requires.looks c.requires.cell _ c.step_at.ensures c.in-Some.is

pub returns-then-states-border-ne2-clause-looked : goal.returns-then-states-border-ne2-clause-looked
returns-then-states-border-ne2-clause-looked c =
    no_wall c.args.self.chart.borders.fits c.requires.looks c.requires.cell _ c.step_at.ensures c.in-Some.is c.if-states-border-ne2.true

pub offset_bounds-self-next : goal.offset_bounds-self-next
offset_bounds-self-next c =
    let next_fits : (c.in-Some.field-0.cell < length c.args.self.groups.ids.now) = cell_fits c.args.self.chart.borders.fits c.requires.looks c.requires.cell _ c.step_at.ensures c.in-Some.is in
    omega (arith, next_fits)

pub bounds-self-next : goal.bounds-self-next
bounds-self-next c =
    let next_fits : (c.in-Some.field-0.cell < length c.args.self.groups.ids.now) = cell_fits c.args.self.chart.borders.fits c.requires.looks c.requires.cell _ c.step_at.ensures c.in-Some.is in
    next_fits

pub bounds-notes-at : goal.bounds-notes-at
bounds-notes-at c =
    let unit-fits : c.from-at.result < length c.args.notes.now.marks.now = unit_small c.args.self.chart.borders.fits c.requires.looks c.requires.cell _ c.step_at.ensures c.in-Some.is c.from-at.ensures in
    unit-fits

pub returns-then-notes-at-ne0-clause-looked : goal.returns-then-notes-at-ne0-clause-looked
returns-then-notes-at-ne0-clause-looked c =
    marked_before c.args.self.chart.borders.fits c.requires.looks c.requires.cell _ c.step_at.ensures c.in-Some.is c.from-at.ensures c.if-states-border-ne2.false c.if-notes-at-ne0.true

pub bounds-notes-at-2 : goal.bounds-notes-at-2
bounds-notes-at-2 c =
    let unit-fits : c.from-at.result < length c.args.notes.now.marks.now = unit_small c.args.self.chart.borders.fits c.requires.looks c.requires.cell _ c.step_at.ensures c.in-Some.is c.from-at.ensures in
    unit-fits

pub returns-clause-looked : goal.returns-clause-looked
returns-clause-looked c =
    found c.args.self.chart.borders.fits c.requires.looks c.requires.cell _ c.step_at.ensures c.in-Some.is c.from-at.ensures c.if-states-border-ne2.false
