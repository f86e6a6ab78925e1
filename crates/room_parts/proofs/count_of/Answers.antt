-- `room_parts::count_of` meets its contract: `found` counts the numbers so far that are k. Assumes nothing.
use Rattle.std.proofs.Common.{◌≡◌, refl, ap, ◌∙◌, length, arith}
use borrow.Author.Tests.{eq-eqb, ne_eqb}
use Rattle.room_parts.specs.Graph.{states_in, is_state, passing}
use Rattle.room_parts.proofs.BoundLaws.{passing_le, passing_one, passing_same}
use Rattle.room_parts.proofs.count_of.Goals.{then-x-k, else-x-k}
use Rattle.room_parts.proofs.count_of.Goals as goal

pub loop-x-init : goal.loop-x-init
unfolding passing
loop-x-init c = refl

pub overflow_add-found : goal.overflow_add-found
overflow_add-found c =
    omega (arith, passing_le (is_state c.args.k) (states_in c.args.xs.now) c.loop-x.x-index, c.requires)

pub loop-x-preserved : goal.loop-x-preserved
loop-x-preserved c =
    elim c.if-x-k.branch [
      | then-x-k w ↦ rw w.found-is (passing_one _ _ _ _ c.loop-x.invariant (eq-eqb _ _ w.if-x-k.true))
      | else-x-k w ↦ rw w.found-is (passing_same _ _ _ _ c.loop-x.invariant (ne_eqb _ _ w.if-x-k.false))
    ]

pub returns : goal.returns
returns c =
    let q : c.loop-x.x-index ≡ length c.args.xs.now = omega arith in
    c.from.ensures ∙ c.loop-x.invariant ∙ ap (λ i. passing (is_state c.args.k) (states_in c.args.xs.now) i) q
