-- `puzzle::Puzzle::holds_together` meets its contract: accepted lists have given walls of the board. Assumes nothing.
use Rattle.std.proofs.Common.{rules, ◌≡◌}
use Rattle.clues.specs.Clues.{lists_code}
use Rattle.puzzle.specs.Puzzle.{grid_of, given_of, clues_of}
use Rattle.puzzle.proofs.Ready.{lists_given}
use Rattle.puzzle.proofs.Puzzle.holds_together.Goals as goal

pub ledger_holds-requires-clause-given : goal.ledger_holds-requires-clause-given
ledger_holds-requires-clause-given c =
    let p = c.args.self.now in
    let accepted : lists_code (grid_of p) (given_of p) (clues_of p) ≡ 0 = search rules in
    lists_given (grid_of p) (given_of p) (clues_of p) c.requires accepted
