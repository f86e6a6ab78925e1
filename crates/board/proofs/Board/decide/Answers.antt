-- `board::Board::decide` meets its contract: a stroke of one. Assumes nothing.
use mathlib.Core.Path.{◌∙◌}
use Rattle.board.proofs.Laws.{one_entry}
use Rattle.board.proofs.Board.decide.Goals as goal

pub returns : goal.returns
returns c = c.stroke.ensures ∙ one_entry c.args.self.now c.args.border c.args.wall c.entry_of.result c.entry_of.ensures
