-- `boundary::Outline::append` meets its contract: at each turn the lists of the cells that are left are still to append. Assumes nothing.
use Rattle.boundary.proofs.ListingLaws.{Going}
use Rattle.boundary.proofs.Outline.append.Given as goal

abbrev pub invariant-loop-cell : goal.invariant-loop-cell
invariant-loop-cell l = let o = l.self in Going o.borders.grid o.borders.states.now o.ids.now o.cells.now o.potential o.number l.initial.list l.list l.cell-index
