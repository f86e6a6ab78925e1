-- `UnionFind::chains_end` meets its contract: `found` keeps the roots while each vertex is found in it (`Looked`). Assumes nothing.
use Rattle.std.proofs.Common.{refl, sym, ap, ◌∙◌, arith}
use Rattle.union_find.specs.declared.UnionFind.{UnionFind}
use Rattle.union_find.proofs.HoldLaws.{look_none, look_stays, look_on, look_more, look_not, look_all_lem}
use Rattle.union_find.proofs.UnionFind.chains_end.Goals as goal

pub loop-i-init : goal.loop-i-init
loop-i-init c = record { same_n = refl; looked = look_none _ _ c.requires _ refl }

pub climb-root-requires : goal.climb-root-requires
climb-root-requires c = look_stays _ _ c.requires _ _ c.loop-i.invariant.looked c.loop-i-test.true

pub offset_bounds-self-root : goal.offset_bounds-self-root
offset_bounds-self-root c =
    omega (arith, look_on _ _ c.requires _ _ _ c.loop-i.invariant.looked c.loop-i-test.true c.climb-root.ensures.value)

pub bounds-self-root : goal.bounds-self-root
bounds-self-root c = look_on _ _ c.requires _ _ _ c.loop-i.invariant.looked c.loop-i-test.true c.climb-root.ensures.value

pub returns-then-from-root : goal.returns-then-from-root
returns-then-from-root c =
    look_not _ _ c.requires _ _ _ c.loop-i.invariant.looked c.loop-i-test.true c.climb-root.ensures.value (λ e. c.if-from-root.true (c.from.ensures ∙ e))

pub loop-i-preserved : goal.loop-i-preserved
loop-i-preserved c =
    let f = c.climb-root.ensures in
    record {
      same_n = ap (λ (u : UnionFind). u.n) f.after ∙ c.loop-i.invariant.same_n;
      looked = look_more _ _ c.requires _ _ _ c.loop-i.invariant.looked c.loop-i-test.true f.value _
          (sym c.from.ensures ∙ c.if-from-root.false)
          (ap (λ (u : UnionFind). u.parent) f.after);
    }

pub returns : goal.returns
returns c = look_all_lem _ _ c.requires _ _ c.loop-i.invariant.looked c.loop-i-test.false
