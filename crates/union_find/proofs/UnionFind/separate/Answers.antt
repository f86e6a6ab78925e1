-- `UnionFind::separate` meets its contract: what is left to store is the numbers from i on. Assumes nothing.
use Rattle.std.proofs.Common.{◌≡◌, rules, arith, sym, ap, ◌∙◌, length, take}
use Rattle.limits.specs.Limits.{most_cells}
use Rattle.std.proofs.lemmas.List.{length-take-le}
use Rattle.union_find.specs.UnionFind.{union_of}
use Rattle.union_find.proofs.AloneLaws.{left_step, left_none, left_whole}
use Rattle.union_find.proofs.UnionFind.separate.Goals as goal

pub loop-i-preserved : goal.loop-i-preserved
loop-i-preserved c =
    let u = c.args.self.now in
    let long : length u.parent ≡ most_cells = search rules in
    sym (left_step c.loop-i.own-items c.loop-i.i u.n (omega (arith, c.loop-i-test.true, length-take-le u.n u.parent (omega (arith, long, c.requires))))) ∙ c.loop-i.invariant

pub returns : goal.returns
returns c =
    let u = c.args.self.now in
    let long : length u.parent ≡ most_cells = search rules in
    let size : length (take u.n u.parent) ≡ u.n = length-take-le u.n u.parent (omega (arith, long, c.requires)) in
    ap (λ p. union_of p u.n)
    (left_whole u.parent c.loop-i.own-items u.n (omega (arith, long, c.requires)) (sym (left_none c.loop-i.own-items c.loop-i.i u.n (omega (arith, c.loop-i-test.false, size))) ∙ c.loop-i.invariant))
