-- `inner_walls::Units::inner_at` meets its contract: one law of `InnerLaws` for each way out. Assumes nothing.
use mathlib.Core.Path.{refl, sym}
use native.Mathlib.Omega.{arith}
use Rattle.grid.proofs.Geometry.{cells_le, coords}
use Rattle.inner_walls.proofs.InnerLaws.{here, asked, at_end, border_fits, border_small, next_fits, two_cells, no_wall, two_units, short, wall_found}
use Rattle.inner_walls.proofs.Units.inner_at.Goals as goal

pub step_at-requires : goal.step_at-requires
step_at-requires c =
    let at = coords _ _ _ _ c.requires.cell.1 refl in (record { limits = c.args.self.borders.fits.limits; cell = here c.requires.cell }, sym at.0, sym at.1)

pub returns-in_err-next : goal.returns-in_err-next
returns-in_err-next c = rw c.from_residual.ensures (at_end c.args.self.borders.fits (asked c.args.self.ids_long c.requires.room) (here c.requires.cell) _ c.step_at.ensures c.in_err-next.was)

pub bounds-states-border : goal.bounds-states-border
bounds-states-border c =
    border_fits c.args.self.borders.fits (asked c.args.self.ids_long c.requires.room) (here c.requires.cell) _ c.step_at.ensures c.in_ok-next.was

pub returns-then-states-border-ne2 : goal.returns-then-states-border-ne2
returns-then-states-border-ne2 c =
    no_wall c.args.self.borders.fits (asked c.args.self.ids_long c.requires.room) (here c.requires.cell) _ c.step_at.ensures c.in_ok-next.was c.if-states-border-ne2.true

pub offset_bounds-self-next : goal.offset_bounds-self-next
offset_bounds-self-next c =
    omega (arith, next_fits c.args.self.borders.fits (asked c.args.self.ids_long c.requires.room) (here c.requires.cell) _ c.step_at.ensures c.in_ok-next.was)

pub bounds-self-next : goal.bounds-self-next
bounds-self-next c =
    next_fits c.args.self.borders.fits (asked c.args.self.ids_long c.requires.room) (here c.requires.cell) _ c.step_at.ensures c.in_ok-next.was

pub returns-then-self-cell : goal.returns-then-self-cell
returns-then-self-cell c =
    two_units c.args.self.borders.fits (asked c.args.self.ids_long c.requires.room) (here c.requires.cell) _ c.step_at.ensures c.in_ok-next.was c.if-states-border-ne2.false c.if-self-cell.true

pub list_joined-n-requires : goal.list_joined-n-requires
list_joined-n-requires c =
    record { cells = two_cells c.args.self.borders.fits (asked c.args.self.ids_long c.requires.room) (here c.requires.cell) _ c.step_at.ensures c.in_ok-next.was; width_in_bounds = omega (arith, c.requires.room) }

pub entry-requires : goal.entry-requires
entry-requires c =
    border_small c.args.self.borders.fits (asked c.args.self.ids_long c.requires.room) (here c.requires.cell) _ c.step_at.ensures c.in_ok-next.was

pub offset_bounds-buffer-n : goal.offset_bounds-buffer-n
offset_bounds-buffer-n c =
    omega (arith, short c.args.self.borders.fits (asked c.args.self.ids_long c.requires.room) (here c.requires.cell) _ c.step_at.ensures c.in_ok-next.was c.if-states-border-ne2.false c.list_joined-n.ensures.value, cells_le _ c.args.self.borders.fits.limits)

pub bounds-buffer-n : goal.bounds-buffer-n
bounds-buffer-n c =
    omega (arith, short c.args.self.borders.fits (asked c.args.self.ids_long c.requires.room) (here c.requires.cell) _ c.step_at.ensures c.in_ok-next.was c.if-states-border-ne2.false c.list_joined-n.ensures.value, c.requires.room, c.list_joined-n.auto)

pub overflow_add-result : goal.overflow_add-result
overflow_add-result c =
    omega (arith, short c.args.self.borders.fits (asked c.args.self.ids_long c.requires.room) (here c.requires.cell) _ c.step_at.ensures c.in_ok-next.was c.if-states-border-ne2.false c.list_joined-n.ensures.value, cells_le _ c.args.self.borders.fits.limits)

pub returns : goal.returns
returns c =
    rw c.entry.ensures
    (wall_found c.args.self.borders.fits (asked c.args.self.ids_long c.requires.room) (here c.requires.cell) _ c.step_at.ensures c.in_ok-next.was c.if-states-border-ne2.false c.list_joined-n.ensures.value c.if-self-cell.false c.list_joined-n.ensures.buffer_after)
