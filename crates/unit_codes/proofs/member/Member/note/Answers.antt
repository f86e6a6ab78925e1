-- `unit_codes::member::Member::note` meets its contract: a border that must land well adds one code. Assumes nothing.
use Rattle.offsets.specs.Landings.{is_inner}
use Rattle.offsets.proofs.TrialLaws.{unit_cell}
use Rattle.unit_codes.proofs.CodeLaws.{border_coded}
use Rattle.unit_codes.proofs.SpanLaws.{has_in, spaced}
use Rattle.unit_codes.proofs.WriteLaws.{not_noted, note_room, noted}
use Rattle.unit_codes.proofs.member.Member.note.Goals as goal

pub keeps-requires : goal.keeps-requires
keeps-requires c = let s = c.args.self in unit_cell s.turned.unit.unit s.cell (has_in _ _ s.member.member)

pub border_code-requires : goal.border_code-requires
border_code-requires c = let s = c.args.self in spaced s.turned.unit.unit s.turned.spans (has_in _ _ s.member.member) s.member.stands

pub push-requires : goal.push-requires
push-requires c = let t = c.args.self.turned in note_room t.image _ _ _ _ t.rows.top _ _ _ c.first-number.ensures c.keeps.ensures c.if-keeps.true c.requires

pub returns-then-keeps : goal.returns-then-keeps
returns-then-keeps c =
    let s = c.args.self in
    noted s.turned.image _ _ _ _ s.turned.rows.top _ _ _ c.first-number.ensures c.keeps.ensures c.if-keeps.true
    (rw c.direction-lands.ensures at (border_coded s.turned.spans.top_at s.member.stands (is_inner s.kind) c.direction-lands.result c.border_code.ensures)) c.push.ensures

pub returns-else-keeps : goal.returns-else-keeps
returns-else-keeps c = let t = c.args.self.turned in not_noted t.image _ _ _ _ t.rows.top _ _ _ c.first-number.ensures c.keeps.ensures c.if-keeps.false
