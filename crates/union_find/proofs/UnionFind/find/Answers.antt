-- `UnionFind::find` meets its contract: the questions in their order, and then `climb`. Assumes nothing.
use Rattle.union_find.proofs.ChainLaws.{parents_stay}
use Rattle.union_find.proofs.HoldLaws.{check_parents, vertex_on}
use Rattle.union_find.proofs.UnionFind.find.Goals as goal

pub climb-requires : goal.climb-requires
climb-requires c =
    let u = c.args.self.now in
    parents_stay u.n u.parent (check_parents u c.in_ok-check.ensures) c.args.x (vertex_on u c.args.x c.in_ok-check_vertex.ensures)
