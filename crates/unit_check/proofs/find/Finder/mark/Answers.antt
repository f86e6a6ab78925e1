-- `unit_check::find::Finder::mark` meets its contract: exactly the potential units adjacent to the unit's own are marked. Assumes nothing.
use Rattle.unit_check.proofs.HeldLaws.{marking_held, marked_held}
use Rattle.unit_check.proofs.find.Finder.mark.Goals as goal

pub mark-requires-clause-marking : goal.mark-requires-clause-marking
mark-requires-clause-marking c = marking_held c.args.self.now.stage c.requires.unit_exists c.own-own.ensures _ c.args.self.now.marks_long

pub returns-clause-marked : goal.returns-clause-marked
returns-clause-marked c = marked_held c.args.self.now.stage c.requires.unit_exists c.own-own.ensures c.mark.ensures
