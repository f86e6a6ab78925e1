-- `path::Trace::look_round` meets its contract: at each turn the arrays have followed the looks in the directions before. Assumes nothing.
use mathlib.Core.Path.{refl, ◌∙◌}
use native.Mathlib.Omega.{arith}
use Rattle.path.specs.Path.{look_all}
use Rattle.path.proofs.Looks.{looks_on, round_start, round_on, round_end}
use Rattle.path.proofs.Trace.look_round.Goals as goal

pub loop-direction-init : goal.loop-direction-init
loop-direction-init c = (refl, round_start)

pub look-requires : goal.look-requires
look-requires c = rw c.loop-direction.invariant.0 (looks_on c.requires c.loop-direction.invariant.1.follows)

pub loop-direction-preserved : goal.loop-direction-preserved
loop-direction-preserved c = (c.look.ensures.same ∙ c.loop-direction.invariant.0, round_on c.loop-direction.invariant.1 (omega arith) (rw c.loop-direction.invariant.0 at c.look.ensures.follows))

pub returns : goal.returns
unfolding look_all
returns c = record { same = c.loop-direction.invariant.0; follows = round_end c.loop-direction.invariant.1 (omega arith) }
