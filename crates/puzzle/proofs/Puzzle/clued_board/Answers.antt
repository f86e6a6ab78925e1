-- `Puzzle::clued_board` meets its contract: an accepted puzzle has its lists. Assumes nothing.
use Rattle.puzzle.proofs.Ready.{ready, ready_walls, ready_clues}
use Rattle.puzzle.proofs.Puzzle.clued_board.Goals as goal

pub given-requires : goal.given-requires
given-requires c = (ready c.args.self.now c.requires).given_fits

pub clues-requires : goal.clues-requires
clues-requires c = (ready c.args.self.now c.requires).clues_fit

pub invariant_of-result : goal.invariant_of-result
invariant_of-result c =
    let p = c.args.self.now in
    let r = ready p c.requires in
    record {
      walls = ready_walls p r c.borders.ensures.grid c.given.ensures;
      one_each = ready_clues p r c.borders.ensures.grid c.given.ensures c.clues.ensures;
    }
