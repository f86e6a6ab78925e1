-- `adjacency::Potentials::list_adjacent` meets its contract: the lists of the first p are made. Assumes nothing.
use mathlib.Core.Path.{◌≡◌, refl, sym, ◌∙◌}
use native.Mathlib.Omega.{arith}
use borrow.Author.Rules.{rules}
use lib.ListN.{length}
use Rattle.adjacency.proofs.ListingLaws.{listed_alone, listed_at, marked_at, listing_none, asked, listing_turn}
use Rattle.adjacency.proofs.Potentials.list_adjacent.Goals as goal

pub bounds-starts-0 : goal.bounds-starts-0
bounds-starts-0 c = omega (arith, c.requires.room.starts_long)

pub returns-then-len-eq1-clause-adjacency : goal.returns-then-len-eq1-clause-adjacency
returns-then-len-eq1-clause-adjacency c =
    let s = c.args.self in
    let alone : length s.groups.starts.now ≡ 1 = sym c.len.ensures ∙ c.if-len-eq1.true in
    listed_alone s.chart.borders.states.now (rw s.one_board at s.groups.turns) alone c.requires.room

pub loop-p-init : goal.loop-p-init
loop-p-init c =
    let s = c.args.self in listing_none s.chart.borders.states.now (rw s.one_board at s.groups.turns) c.requires.room c.requires.unmarked refl

pub list_one-requires : goal.list_one-requires
list_one-requires c =
    let s = c.args.self in
    let i = c.loop-p.invariant in
    let o = asked s.chart.borders.states.now (rw s.one_board at s.groups.turns) c.requires.room i (omega (arith, c.len-p-end.ensures)) (rw s.one_board at c.cells.ensures.cells_are) in
    record { looks = o.0; by_index = o.1; unmarked = i.clear }

pub loop-p-preserved : goal.loop-p-preserved
loop-p-preserved c =
    let s = c.args.self in
    listing_turn s.chart.borders.states.now (rw s.one_board at s.groups.turns) c.requires.room c.loop-p.invariant (omega (arith, c.len-p-end.ensures)) (rw s.one_board at c.cells.ensures.cells_are)
    c.list_one.ensures.kept c.list_one.ensures.listed

pub returns : goal.returns
returns c =
    let i = c.loop-p.invariant in
    let e : c.loop-p.p ≡ length c.args.self.groups.starts.now = omega (arith, i.within, c.loop-p-test.false, c.len-p-end.ensures) in
    record { adjacency = listed_at (rw e at i.lists) (search rules); unmarked_2 = marked_at i.clear (search rules) }
