-- `unit_codes::member::Member::note_all` meets its contract: the directions that are left are still to write. Assumes nothing.
use lib.ListN.{drop}
use Rattle.lists.specs.Lists.{gather}
use Rattle.boundary.proofs.AppendLaws.{Leaves}
use Rattle.offsets.specs.Landings.{is_inner}
use Rattle.unit_codes.specs.Codes.{code_at}
use Rattle.unit_codes.proofs.member.Member.note_all.Given as goal

abbrev pub invariant-loop-direction : goal.invariant-loop-direction
invariant-loop-direction l =
    let t = l.self.turned in
    let h = t.unit.chart in
    let of = code_at t.image h.borders.grid h.borders.states.now h.table.now t.unit.cells.now t.rows.top (is_inner l.self.kind) l.self.cell in
    Leaves l.initial.list (gather of l.direction-items) l.list (gather of (drop l.direction-index l.direction-items))
