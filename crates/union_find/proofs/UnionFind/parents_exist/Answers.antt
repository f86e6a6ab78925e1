-- `UnionFind::parents_exist` meets its contract: the test of all parents in their order. Assumes nothing.
use Rattle.std.proofs.Common.{◌≡◌, ◌∙◌, length, arith, rules}
use Rattle.union_find.proofs.HoldLaws.{exist_taken}
use Rattle.union_find.proofs.UnionFind.parents_exist.Goals as goal

pub returns : goal.returns
returns c =
    let p = c.args.self.now.parent in
    c.all_below.ensures ∙ exist_taken c.args.self.now.n p (let h : length p ≡ 1024 = search rules in omega arith)
