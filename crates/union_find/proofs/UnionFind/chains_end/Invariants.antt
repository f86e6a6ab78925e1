-- `UnionFind::chains_end` meets its contract: `found` keeps the roots while each vertex is found in it (`Looked`).
use Rattle.std.proofs.Common.{◌≡◌}
use Rattle.union_find.proofs.HoldLaws.{Looked}
use Rattle.union_find.proofs.UnionFind.chains_end.Given as goal

abbrev pub invariant-loop-i : goal.invariant-loop-i
invariant-loop-i l = record {
  same_n : l.found.n ≡ l.self.n;
  looked : Looked l.self.n l.self.parent l.found.parent l.i;
}
