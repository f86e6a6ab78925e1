-- `puzzle::Puzzle::start` meets its contract: the lists stand at the fronts of their arrays, and 2 at each given wall. Assumes nothing.
use mathlib.Core.Path.{ap}
use native.Mathlib.Omega.{arith}
use borrow.Author.Rules.{rules}
use lib.ListN.{length}
use Rattle.ledger.proofs.BookLaws.{zeros_length}
use Rattle.puzzle.specs.declared.Puzzle.{Puzzle}
use Rattle.puzzle.proofs.Making.{started}
use Rattle.puzzle.proofs.Puzzle.start.Goals as goal

pub write_at-requires : goal.write_at-requires
write_at-requires c = λ e m. omega (arith, c.requires.below e m, ap (λ (p : Puzzle). length p.board.book.states) c.requires.zeros, zeros_length)

pub returns : goal.returns
returns c =
    let a = c.args in
    started a.kind a.grid a.given.now a.clues.now c.requires.below c.requires.given_len_bound.0 c.requires.given_len_bound.1 a.self.now c.requires.zeros c.write_at.new.xs c.write_at.ensures _ _ (search rules) (search rules) _ c.number-self.ensures
