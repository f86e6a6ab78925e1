-- `unit_codes::note_cells` meets its contract: at each turn the codes of the cells that are left are still to write. Assumes nothing.
use Rattle.boundary.proofs.AppendLaws.{turn_fits, turn_written, turns_written}
use Rattle.offsets.proofs.TrialLaws.{cell_of}
use Rattle.unit_codes.proofs.SpanLaws.{has_at}
use Rattle.unit_codes.proofs.note_cells.Goals as goal

pub place-requires : goal.place-requires
place-requires c = cell_of c.args.turned.unit.unit c.loop-cell-test.true c.from-cell.ensures

pub invariant_of-member : goal.invariant_of-member
invariant_of-member c = record { member = record { member = has_at _ c.loop-cell.cell-index c.loop-cell-test.true c.from-cell.ensures; stands = c.place.ensures } }

pub note_all-requires : goal.note_all-requires
note_all-requires c = rw c.from-cell.ensures (turn_fits _ _ 0 c.loop-cell.cell-index c.loop-cell.invariant c.loop-cell-test.true c.requires)

pub loop-cell-preserved : goal.loop-cell-preserved
loop-cell-preserved c = turn_written _ _ 0 c.loop-cell.cell-index c.loop-cell.invariant c.loop-cell-test.true (rw c.from-cell.ensures at c.note_all.ensures)

pub returns : goal.returns
returns c = turns_written _ _ 0 c.loop-cell.cell-index c.loop-cell.invariant c.loop-cell-test.false
