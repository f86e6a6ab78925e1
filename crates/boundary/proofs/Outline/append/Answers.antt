-- `boundary::Outline::append` meets its contract: at each turn the lists of the cells that are left are still to append. Assumes nothing.
use Rattle.boundary.proofs.ListingLaws.{listable, cell_ready, cell_written, cells_written}
use Rattle.boundary.proofs.Outline.append.Goals as goal

pub append_cell-requires : goal.append_cell-requires
append_cell-requires c =
    let o = c.args.self in
    cell_ready (listable o.borders.fits o.ids_long o.cells_are c.requires) c.loop-cell.cell-index c.loop-cell.invariant c.loop-cell-test.true c.from.ensures

pub loop-cell-preserved : goal.loop-cell-preserved
loop-cell-preserved c =
    let o = c.args.self in
    cell_written (listable o.borders.fits o.ids_long o.cells_are c.requires) c.loop-cell.cell-index c.loop-cell.invariant c.loop-cell-test.true c.from.ensures c.append_cell.ensures

pub returns : goal.returns
returns c =
    let o = c.args.self in
    cells_written (listable o.borders.fits o.ids_long o.cells_are c.requires) c.loop-cell.cell-index c.loop-cell.invariant c.loop-cell-test.false
