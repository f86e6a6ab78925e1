-- `Grid::step_at` meets its contract: one law of `Codes` for each arm. Assumes nothing.
use Rattle.grid.proofs.Codes.{up_end, up_at, down_end, down_at, left_end, left_at, right_end, right_at}
use Rattle.grid.proofs.Grid.step_at.Goals as goal

pub returns-then-cell-width : goal.returns-then-cell-width
returns-then-cell-width c = rw c.in-Up.is (up_end _ _ c.requires.0 c.if-cell-width.true)

pub returns-then-height-width : goal.returns-then-height-width
returns-then-height-width c = rw c.in-Down.is (down_end _ _ c.requires.0 c.if-height-width.true)

pub returns-then-col-eq0 : goal.returns-then-col-eq0
returns-then-col-eq0 c = let p = c.requires in rw c.in-Left.is (left_end _ _ p.0 p.1 p.2 c.if-col-eq0.true)

pub returns-then-width-col : goal.returns-then-width-col
returns-then-width-col c = let p = c.requires in rw c.in-Right.is (right_end _ _ p.0 p.1 p.2 c.if-width-col.true)

pub returns-else-cell-width : goal.returns-else-cell-width
returns-else-cell-width c = rw c.in-Up.is (up_at _ _ c.requires.0 c.if-cell-width.false)

pub returns-else-height-width : goal.returns-else-height-width
returns-else-height-width c = rw c.in-Down.is (down_at _ _ c.requires.0 c.if-height-width.false)

pub returns-else-col-eq0 : goal.returns-else-col-eq0
returns-else-col-eq0 c = let p = c.requires in rw c.in-Left.is (left_at _ _ p.0 p.1 p.2 c.if-col-eq0.false)

pub returns-else-width-col : goal.returns-else-width-col
returns-else-width-col c = let p = c.requires in rw c.in-Right.is (right_at _ _ p.0 p.1 p.2 c.if-width-col.false)
