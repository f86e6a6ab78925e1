-- `lists::write_at` meets its contract: what is left to write, written from here on, gives the whole. Assumes nothing.
use Rattle.std.proofs.Common.{◌≡◌, length, sym, ◌∙◌, rules}
use Rattle.lists.proofs.WritesLaws.{puts_turn, puts_end, below_at}
use Rattle.lists.proofs.write_at.Goals as goal

pub bounds-xs-from : goal.bounds-xs-from
bounds-xs-from c =
    let long : length c.loop-place.xs ≡ length c.args.xs.now = search rules in
    rw (c.from.ensures, long) (below_at (length c.args.xs.now) c.args.places.now c.requires c.loop-place.place-index c.loop-place-test.true)

pub loop-place-preserved : goal.loop-place-preserved
loop-place-preserved c =
    rw c.from.ensures (sym (puts_turn c.args.places.now c.args.v c.loop-place.place-index c.loop-place.xs c.loop-place-test.true) ∙ c.loop-place.invariant)

pub returns : goal.returns
returns c =
    sym (puts_end c.args.places.now c.args.v c.loop-place.place-index c.loop-place.xs c.loop-place-test.false) ∙ c.loop-place.invariant
