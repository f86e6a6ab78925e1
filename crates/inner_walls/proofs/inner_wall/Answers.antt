-- `inner_walls::inner_wall` meets its contract: the cells passed found nothing. Assumes nothing.
use Prim.Native.Nat.{◌+◌, ◌*◌, ◌≤◌}
use mathlib.Core.Path.{◌≡◌}
use native.Mathlib.Omega.{arith}
use Rattle.grid.specs.Grid.{cells}
use Rattle.shape.specs.Shape.{inner_wall}
use Rattle.inner_walls.proofs.FindLaws.{range_fault, range_on, range_over}
use Rattle.inner_walls.proofs.InnerLaws.{here}
use Rattle.inner_walls.proofs.NoneLaws.{row_passed}
use Rattle.inner_walls.proofs.inner_wall.Goals as goal

pub returns-in-Some : goal.returns-in-Some
unfolding inner_wall
returns-in-Some c =
    range_fault _ _ c.loop-col.invariant (here (c.loop-row-test.true, c.loop-col-test.true)) c.inner_cell.ensures c.in-Some.is

pub loop-col-preserved : goal.loop-col-preserved
loop-col-preserved c =
    let n = c.loop-row.row * c.args.b.grid.width in
    let e : n + (c.loop-col.col + 1) ≡ n + c.loop-col.col + 1 = omega arith in
    rw e (range_on _ _ c.loop-col.invariant (here (c.loop-row-test.true, c.loop-col-test.true)) c.inner_cell.ensures c.in_default.is)

pub loop-row-preserved-then-row_has_none : goal.loop-row-preserved-then-row_has_none
loop-row-preserved-then-row_has_none c =
    row_passed c.args.b.fits c.loop-row.row c.loop-row-test.true (c.row_has_none.ensures c.if-row_has_none.true) c.loop-row.invariant

pub returns : goal.returns
unfolding inner_wall
returns c =
    let e : c.loop-row.row ≡ c.args.b.grid.height = omega arith in
    range_over _ _ c.loop-row.invariant (rw e (let k : cells c.args.b.grid ≤ c.args.b.grid.height * c.args.b.grid.width = omega arith in k))
