-- `exports::groupings::copy` meets its contract: what is left to copy, written from i on, gives the whole.
use Rattle.std.proofs.Common.{◌≡◌, length, drop}
use lib.Seq.{sets}
use Rattle.exports.proofs.groupings.copy.Given as goal

abbrev pub invariant-loop-i : goal.invariant-loop-i
invariant-loop-i l = record {
  long : length l.out ≡ length l.initial.out;
  written : sets l.out l.i (drop l.i l.part) ≡ sets l.initial.out 0 l.part;
}
