-- `write_board` meets its contract: what is left to write, written from i on, gives the whole.
use Rattle.std.proofs.Common.{◌≡◌, ◌+◌, length, drop}
use lib.Seq.{sets}
use Rattle.enumerate.proofs.search.write_board.Given as goal

abbrev pub invariant-loop-i : goal.invariant-loop-i
invariant-loop-i l = record {
  long : length l.boards ≡ length l.initial.boards;
  written : sets l.boards (l.at + l.i) (drop l.i l.board) ≡ sets l.initial.boards l.at l.board;
}
