-- `UnionFind::climb` meets its contract: one law of `climb` and one of `shortened` for each return. The measure is the depth. Assumes nothing.
use Rattle.std.proofs.Common.{◌≡◌, ◌<◌, ◌-◌, sym, ap, ◌∙◌, arith}
use Rattle.limits.specs.Limits.{most_cells}
use Rattle.union_find.specs.Chains.{up, climb, shortened}
use Rattle.union_find.specs.UnionFind.{union_of}
use Rattle.union_find.proofs.ChainLaws.{climb_none, shortened_none, climb_root, shortened_root, climb_up, shortened_up, stays_here, stays_up}
use Rattle.union_find.proofs.UnionFind.+climb.Goals as goal

pub returns-then-depth-eq0 : goal.returns-then-depth-eq0
returns-then-depth-eq0 t c =
    let p = c.args.self.now.parent in
    record {
      value = sym (climb_none c.args.depth p c.args.x c.if-depth-eq0.true);
      after = ap (λ q. union_of q c.args.self.now.n) (sym (shortened_none c.args.depth p c.args.x c.if-depth-eq0.true));
    }

pub offset_bounds-self-x : goal.offset_bounds-self-x
offset_bounds-self-x t c = omega (arith, stays_here c.args.self.now.parent c.args.x c.requires)

pub bounds-self-x : goal.bounds-self-x
bounds-self-x t c = stays_here c.args.self.now.parent c.args.x c.requires

pub returns-then-up-x : goal.returns-then-up-x
returns-then-up-x t c =
    let p = c.args.self.now.parent in
    let e : up p c.args.x ≡ c.args.x = sym c.from-up.ensures ∙ c.if-up-x.true in
    record {
      value = sym (climb_root c.args.depth p c.args.x e);
      after = ap (λ q. union_of q c.args.self.now.n) (sym (shortened_root c.args.depth p c.args.x e));
    }

pub climb-root-requires : goal.climb-root-requires
climb-root-requires t c =
    (omega arith, rw c.from-up.ensures (stays_up c.args.self.now.parent c.args.x c.requires))

pub overflow_cast-self : goal.overflow_cast-self
overflow_cast-self t c =
    let h : c.climb-root.result < most_cells =
    rw (c.climb-root.ensures.value, c.from-up.ensures) (stays_up c.args.self.now.parent c.args.x c.requires (c.args.depth - 1)) in
    omega arith

pub offset_bounds-self-x-2 : goal.offset_bounds-self-x-2
offset_bounds-self-x-2 t c = omega (arith, stays_here c.args.self.now.parent c.args.x c.requires)

pub bounds-self-x-2 : goal.bounds-self-x-2
bounds-self-x-2 t c = stays_here c.args.self.now.parent c.args.x c.requires

pub returns : goal.returns
returns t c =
    let a = c.args in
    let p = a.self.now.parent in
    let e = c.climb-root.ensures in
    let root : c.climb-root.result ≡ climb (a.depth - 1) p (up p a.x) = rw c.from-up.ensures at e.value in
    let list : c.climb-root.new.self.parent ≡ shortened (a.depth - 1) p (up p a.x) = rw c.from-up.ensures at (ap (λ u. u.parent) e.after) in
    record {
      value = root ∙ climb_up a.depth p a.x c.if-depth-eq0.false;
      after = simp (ap (λ u. u.n) e.after, shortened_up a.depth p a.x c.if-depth-eq0.false list root);
    }
