-- `cell_words::add_cells` meets its contract: the loop's invariant is `AddWalk`. Assumes nothing.
use native.Mathlib.Omega.{arith}
use Rattle.cell_words.proofs.OwnLaws.{add_start, add_turn, add_end, own_cell, own_row, own_col}
use Rattle.cell_words.proofs.add_cells.Goals as goal

pub loop-cell-init : goal.loop-cell-init
loop-cell-init c = add_start c.requires.unit c.requires.blank

pub bounds-table-from : goal.bounds-table-from
bounds-table-from c = omega (arith, own_cell c.requires.unit c.loop-cell-test.true c.from.ensures, c.requires.unit.table_of.long)

pub offset_bounds-inside-y : goal.offset_bounds-inside-y
offset_bounds-inside-y c = omega (arith, (own_row c.requires.unit c.loop-cell-test.true c.from.ensures c.from-y.ensures c.requires.blank.long c.loop-cell.invariant.long).0)

pub bounds-inside-y : goal.bounds-inside-y
bounds-inside-y c = (own_row c.requires.unit c.loop-cell-test.true c.from.ensures c.from-y.ensures c.requires.blank.long c.loop-cell.invariant.long).1

pub overflow_add-from : goal.overflow_add-from
overflow_add-from c = omega (arith, own_col c.requires.unit c.loop-cell-test.true c.from.ensures c.from-in-loop-cell.ensures)

pub with_bit-requires : goal.with_bit-requires
with_bit-requires c = omega (arith, own_col c.requires.unit c.loop-cell-test.true c.from.ensures c.from-in-loop-cell.ensures)

pub offset_bounds-inside-y-in-loop-cell : goal.offset_bounds-inside-y-in-loop-cell
offset_bounds-inside-y-in-loop-cell c = omega (arith, (own_row c.requires.unit c.loop-cell-test.true c.from.ensures c.from-y.ensures c.requires.blank.long c.loop-cell.invariant.long).0)

pub bounds-inside-y-in-loop-cell : goal.bounds-inside-y-in-loop-cell
bounds-inside-y-in-loop-cell c = (own_row c.requires.unit c.loop-cell-test.true c.from.ensures c.from-y.ensures c.requires.blank.long c.loop-cell.invariant.long).1

pub loop-cell-preserved : goal.loop-cell-preserved
loop-cell-preserved c =
    let u = c.requires.unit in
    add_turn u c.loop-cell-test.true c.from.ensures c.from-y.ensures (own_row u c.loop-cell-test.true c.from.ensures c.from-y.ensures c.requires.blank.long c.loop-cell.invariant.long).1
    c.with_bit.result c.loop-cell.invariant c.from-in-loop-cell.ensures c.with_bit.ensures

pub returns : goal.returns
returns c = add_end c.requires.unit c.requires.blank c.loop-cell-test.false c.loop-cell.invariant
