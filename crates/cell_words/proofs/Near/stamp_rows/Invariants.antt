-- `cell_words::Near::stamp_rows` meets its contract: the loop's invariant is that the rows so far are made. Assumes nothing.
use Rattle.offsets.specs.Table.{potentials_in}
use Rattle.cell_words.specs.Cells.{Restamped}
use Rattle.cell_words.proofs.Near.stamp_rows.Given as goal

abbrev pub invariant-loop-y : goal.invariant-loop-y
invariant-loop-y l =
    let m = l.marked in Restamped m.grid m.states.now (potentials_in m.grid m.table.now) m.own l.from l.y l.initial.self l.self
