-- `unit_check::write::note` meets its contract: a failed landing adds one entry. Assumes nothing.
use Rattle.boundary.proofs.AppendLaws.{writes_none}
use Rattle.unit_check.proofs.WriteLaws.{note_room, noted, not_noted}
use Rattle.unit_check.proofs.write.note.Goals as goal

pub push-requires : goal.push-requires
push-requires c = note_room c.in-Failed.is c.requires

pub returns-in-Failed : goal.returns-in-Failed
returns-in-Failed c = rw (noted c.in-Failed.is) at c.push.ensures

pub returns-in_default : goal.returns-in_default
returns-in_default c = writes_none (not_noted c.args.t c.in_default.not-Failed)
