-- `write_board` meets its contract: what is left to write, written from i on, gives the whole. Assumes nothing.
use Rattle.std.proofs.Common.{arith, refl, sym, ◌∙◌}
use native.Mathlib.Nat.{add-zero}
use lib.ListN.{length-set}
use Rattle.enumerate.proofs.Writing.{write_turn, write_end}
use Rattle.enumerate.proofs.search.write_board.Goals as goal

pub loop-i-init : goal.loop-i-init
loop-i-init c = record { long = refl; written = simp add-zero }

pub bounds-boards-at : goal.bounds-boards-at
bounds-boards-at c = omega (arith, c.requires, c.loop-i-test.true, c.loop-i.invariant.long)

pub loop-i-preserved : goal.loop-i-preserved
loop-i-preserved c = record {
  long = simp length-set c.loop-i.invariant.long;
  written = sym (write_turn c.args.board.now c.loop-i.boards c.args.at c.loop-i.i c.loop-i-test.true) ∙ c.loop-i.invariant.written;
}

pub returns : goal.returns
returns c = sym (write_end c.args.board.now c.loop-i.boards c.args.at c.loop-i.i c.loop-i-test.false) ∙ c.loop-i.invariant.written
