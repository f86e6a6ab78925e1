-- `unit_check::find::Finder::unmark` meets its contract: what was marked for the unit is taken away. Assumes nothing.
use Rattle.unit_check.proofs.HeldLaws.{marking_held, unmarked_held}
use Rattle.unit_check.proofs.find.Finder.unmark.Goals as goal

pub unmark-requires : goal.unmark-requires
unmark-requires c = marking_held c.args.self.now.stage c.requires.unit_exists c.own-own.ensures _ c.args.self.now.marks_long

pub returns-clause-unmarked : goal.returns-clause-unmarked
returns-clause-unmarked c = unmarked_held c.args.self.now.stage c.requires.unit_exists c.own-own.ensures _ c.requires.marked c.unmark.ensures
