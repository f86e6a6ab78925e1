-- `puzzle::Puzzle::stroke` meets its contract: a puzzle that questions 1 and 2 accept holds a book over its borders. Assumes nothing.
use mathlib.Core.Path.{sym}
use Rattle.puzzle.proofs.Ready.{ready, held}
use Rattle.puzzle.proofs.Puzzle.stroke.Goals as goal

pub stroke-requires : goal.stroke-requires
stroke-requires c = rw c.border_count-n.ensures (held c.args.self.now (ready c.args.self.now (sym c.in_ok-check.ensures)))
