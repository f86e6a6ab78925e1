-- `puzzle::Puzzle::decide` meets its contract: a stroke of one. Assumes nothing.
use mathlib.Core.Path.{◌∙◌}
use Rattle.puzzle.proofs.Answers.{one_entry}
use Rattle.puzzle.proofs.Puzzle.decide.Goals as goal

pub returns : goal.returns
returns c = c.stroke.ensures ∙ one_entry c.args.self.now c.args.border c.args.wall c.entry_of.result c.entry_of.ensures
