-- `puzzle::Puzzle::undo` meets its contract: a puzzle that questions 1 and 2 accept holds a book over its borders. Assumes nothing.
use mathlib.Core.Path.{sym}
use Rattle.puzzle.specs.Puzzle.{borders_of}
use Rattle.puzzle.proofs.Ready.{ready, held}
use Rattle.puzzle.proofs.Puzzle.undo.Goals as goal

pub undo-requires : goal.undo-requires
undo-requires c = let p = c.args.self.now in record { n = borders_of p; held = held p (ready p (sym c.in_ok-check.ensures)) }
