-- `unit_codes::note_cells` meets its contract: at each turn the codes of the cells that are left are still to write. Assumes nothing.
use lib.ListN.{drop}
use Rattle.lists.specs.Lists.{gather}
use Rattle.boundary.proofs.AppendLaws.{Leaves}
use Rattle.offsets.specs.Landings.{is_inner}
use Rattle.unit_codes.specs.Codes.{codes_of}
use Rattle.unit_codes.proofs.note_cells.Given as goal

abbrev pub invariant-loop-cell : goal.invariant-loop-cell
invariant-loop-cell l =
    let t = l.turned in
    let h = t.unit.chart in
    let of = codes_of t.image h.borders.grid h.borders.states.now h.table.now l.cell-items t.rows.top (is_inner l.kind) in
    Leaves l.initial.list (gather of l.cell-items) l.list (gather of (drop l.cell-index l.cell-items))
