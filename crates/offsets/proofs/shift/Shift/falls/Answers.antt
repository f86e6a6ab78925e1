-- `offsets::shift::Shift::falls` meets its contract: the row and then the column are moved. Assumes nothing.
use mathlib.Core.Path.{◌∙◌}
use native.Mathlib.Omega.{arith}
use Rattle.std.proofs.lemmas.Nat.{mul-add-lt}
use Rattle.grid.proofs.Geometry.{cells_le}
use Rattle.offsets.proofs.ReachLaws.{image_bounded, along_below, off_row, off_col, on_cell}
use Rattle.offsets.proofs.shift.Shift.falls.Goals as goal

pub along-requires : goal.along-requires
along-requires c =
    let k = c.requires.0 in
    let b = image_bounded k.limits c.args.self.image c.args.spot c.requires.1 in
    (k.from.0, k.to.0, rw c.spot-at.ensures b.0)

pub along-requires-2 : goal.along-requires-2
along-requires-2 c =
    let k = c.requires.0 in
    let b = image_bounded k.limits c.args.self.image c.args.spot c.requires.1 in
    (k.from.1, k.to.1, rw c.spot-at.ensures b.1)

pub returns-in_err-y : goal.returns-in_err-y
returns-in_err-y c =
    let a = c.args in c.from_residual.ensures ∙ off_row a.grid a.self a.spot c.spot-at.ensures c.along.ensures c.in_err-y.was

pub returns-in_err-x : goal.returns-in_err-x
returns-in_err-x c =
    let a = c.args in
    c.from_residual-in_err-x.ensures ∙ off_col a.grid a.self a.spot c.spot-at.ensures c.along.ensures c.in_ok-y.was c.along-2.ensures c.in_err-x.was

pub overflow_add-result : goal.overflow_add-result
overflow_add-result c =
    let g = c.args.grid in
    omega (arith, mul-add-lt c.in_ok-y.y g.width c.in_ok-x.x g.height (along_below _ _ _ c.along.ensures c.in_ok-y.was) (along_below _ _ _ c.along-2.ensures c.in_ok-x.was), cells_le g c.requires.0.limits)

pub overflow_mul-result : goal.overflow_mul-result
overflow_mul-result c =
    let g = c.args.grid in
    omega (arith, mul-add-lt c.in_ok-y.y g.width c.in_ok-x.x g.height (along_below _ _ _ c.along.ensures c.in_ok-y.was) (along_below _ _ _ c.along-2.ensures c.in_ok-x.was), cells_le g c.requires.0.limits)

pub returns : goal.returns
returns c =
    let a = c.args in
    on_cell a.grid a.self a.spot c.spot-at.ensures c.along.ensures c.in_ok-y.was c.along-2.ensures c.in_ok-x.was
