-- `UnionFind::join` meets its contract: the roots are found one after the other, and differ or not. Assumes nothing.
use Rattle.std.proofs.Common.{arith}
use Rattle.union_find.proofs.ChainLaws.{parents_stay}
use Rattle.union_find.proofs.UniteLaws.{other_stays, one_on, other_on, unite_none, unite_some}
use Rattle.union_find.proofs.UnionFind.join.Goals as goal

pub climb-one-requires : goal.climb-one-requires
climb-one-requires c =
    parents_stay c.args.self.now.n c.args.self.now.parent c.requires.parents c.args.x c.requires.x_lt_n.0

pub climb-other-requires : goal.climb-other-requires
climb-other-requires c =
    other_stays c.args.self.now c.climb-one.new.self c.requires.parents c.args.x c.args.y c.requires.x_lt_n.0 c.requires.x_lt_n.1 c.climb-one.ensures.after

pub returns-then-one-other : goal.returns-then-one-other
returns-then-one-other c =
    let f = c.climb-one.ensures in
    let g = c.climb-other.ensures in
    let o = unite_none _ _ _ c.requires.parents _ _ _ _ c.requires.x_lt_n.0 c.requires.x_lt_n.1 f.value f.after g.value g.after c.if-one-other.true in
    record { value = o.0; after = o.1 }

pub overflow_cast-self : goal.overflow_cast-self
overflow_cast-self c =
    let f = c.climb-one.ensures in
    let g = c.climb-other.ensures in
    omega (arith, other_on _ _ _ c.requires.parents _ _ _ _ c.requires.x_lt_n.0 c.requires.x_lt_n.1 f.value f.after g.value g.after)

pub offset_bounds-self-one : goal.offset_bounds-self-one
offset_bounds-self-one c =
    let f = c.climb-one.ensures in
    let g = c.climb-other.ensures in
    omega (arith, one_on _ _ _ c.requires.parents _ _ _ _ c.requires.x_lt_n.0 c.requires.x_lt_n.1 f.value f.after g.value g.after)

pub bounds-self-one : goal.bounds-self-one
bounds-self-one c =
    let f = c.climb-one.ensures in
    let g = c.climb-other.ensures in
    one_on _ _ _ c.requires.parents _ _ _ _ c.requires.x_lt_n.0 c.requires.x_lt_n.1 f.value f.after g.value g.after

pub returns : goal.returns
returns c =
    let f = c.climb-one.ensures in
    let g = c.climb-other.ensures in
    let o = unite_some _ _ _ c.requires.parents _ _ _ _ c.requires.x_lt_n.0 c.requires.x_lt_n.1 f.value f.after g.value g.after c.if-one-other.false in
    record { value = o.0; after = o.1 }
