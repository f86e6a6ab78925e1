-- `cell_words::add_cells` meets its contract: the loop's invariant is `AddWalk`. Assumes nothing.
use Rattle.cell_words.proofs.OwnLaws.{AddWalk}
use Rattle.cell_words.proofs.add_cells.Given as goal

abbrev pub invariant-loop-cell : goal.invariant-loop-cell
invariant-loop-cell l = AddWalk l.table l.cells l.initial.inside l.inside l.cell-index
