-- `unit_codes::member::Member::note_all` meets its contract: the directions that are left are still to write. Assumes nothing.
use mathlib.Core.Path.{◌≡◌}
use Rattle.grid.specs.declared.Direction.TheVariants.{Up}
use Rattle.boundary.proofs.AppendLaws.{turn_fits, turn_written, turns_written}
use Rattle.offsets.specs.Landings.{is_inner, directions_of}
use Rattle.unit_codes.proofs.WriteLaws.{codes_in_turn}
use Rattle.unit_codes.proofs.member.Member.note_all.Goals as goal

pub note-requires : goal.note-requires
note-requires c =
    let s = c.args.self in
    let t = s.turned in
    let h = t.unit.chart in
    let e : c.directions-direction-items.result.now ≡ directions_of (is_inner s.kind) = c.directions-direction-items.ensures in
    turn_fits _ _ Up c.loop-direction.direction-index c.loop-direction.invariant c.loop-direction-test.true
    (rw (e, codes_in_turn t.image h.borders.grid h.borders.states.now h.table.now t.unit.cells.now t.rows.top (is_inner s.kind) s.cell) c.requires)

pub loop-direction-preserved : goal.loop-direction-preserved
loop-direction-preserved c = turn_written _ _ Up c.loop-direction.direction-index c.loop-direction.invariant c.loop-direction-test.true c.note.ensures

pub returns : goal.returns
returns c =
    let s = c.args.self in
    let t = s.turned in
    let h = t.unit.chart in
    let e : c.directions-direction-items.result.now ≡ directions_of (is_inner s.kind) = c.directions-direction-items.ensures in
    rw (e, codes_in_turn t.image h.borders.grid h.borders.states.now h.table.now t.unit.cells.now t.rows.top (is_inner s.kind) s.cell)
    at (turns_written _ _ Up c.loop-direction.direction-index c.loop-direction.invariant c.loop-direction-test.false)
