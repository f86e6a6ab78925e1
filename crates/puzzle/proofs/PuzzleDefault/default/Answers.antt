-- A puzzle of zeros: its lists are zeros. Assumes nothing.
use mathlib.Core.Path.{refl}
use Rattle.ledger.specs.Books.{zeros}
use Rattle.puzzle.specs.Puzzle.{no_clues}
use Rattle.puzzle.proofs.PuzzleDefault.default.Goals as goal

pub returns : goal.returns
unfolding zeros no_clues
returns c = rw c.default.ensures refl
