-- `UnionFind::separate` meets its contract: what is left to store is the numbers from i on.
use Rattle.std.proofs.Common.{◌≡◌}
use Rattle.union_find.proofs.AloneLaws.{left}
use Rattle.union_find.proofs.UnionFind.separate.Given as goal

abbrev pub invariant-loop-i : goal.invariant-loop-i
invariant-loop-i l = left l.own-items l.i l.n ≡ left l.initial.own-items 0 l.n
