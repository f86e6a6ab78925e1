-- `Search::keep` meets its contract: the board has its places, or the cap is met. Assumes nothing.
use mathlib.Core.Path.{ap, sym, ◌∙◌}
use lib.ListN.{length}
use Rattle.enumerate.specs.Search.{written, written_in}
use Rattle.enumerate.proofs.Writing.{place, add_below, add_met}
use Rattle.enumerate.proofs.search.Search.keep.Goals as goal

pub write_board-requires : goal.write_board-requires
write_board-requires c = place (length c.args.board.now) (written_in c.args.self.now) c.requires c.if-self.true

pub returns-then-self-clause-boards_after : goal.returns-then-self-clause-boards_after
returns-then-self-clause-boards_after c = ap (written _ _) c.write_board.ensures ∙ sym (add_below (written_in c.args.self.now) c.args.board.now c.if-self.true)

pub returns-clause-boards_after : goal.returns-clause-boards_after
returns-clause-boards_after c = sym (add_met (written_in c.args.self.now) c.args.board.now c.if-self.false)
