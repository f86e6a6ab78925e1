-- `UnionFind::unite` meets its contract: the questions in their order, and then `join`. Assumes nothing.
use Rattle.union_find.proofs.HoldLaws.{check_parents}
use Rattle.union_find.proofs.UnionFind.unite.Goals as goal

pub join-requires-clause-parents : goal.join-requires-clause-parents
join-requires-clause-parents c = check_parents c.args.self.now c.in_ok-check.ensures
