-- `UnionFind::check` meets its contract: the questions in their order. Assumes nothing.
use Rattle.std.proofs.Common.{sym, ◌∙◌}
use Rattle.union_find.proofs.RootLaws.{exist_below}
use Rattle.union_find.proofs.UnionFind.check.Goals as goal

pub chains_end-requires : goal.chains_end-requires
chains_end-requires c = record {
  bound = c.if-self-gt-CELLS.false;
  below = exist_below _ _ (sym c.parents_exist.ensures ∙ c.if-parents_exist.true);
}
