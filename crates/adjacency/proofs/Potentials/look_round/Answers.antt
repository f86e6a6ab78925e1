-- `adjacency::Potentials::look_round` meets its contract: the directions before are done. Assumes nothing.
use mathlib.Core.Path.{refl}
use native.Mathlib.Omega.{arith}
use Rattle.grid.specs.declared.Direction.TheVariants.{Up}
use Rattle.grid.specs.Orders.{around}
use Rattle.shape.specs.Shape.{behind}
use Rattle.adjacency.proofs.LookLaws.{looks_on, looked_none, looked_turn, looked_all}
use Rattle.adjacency.proofs.Potentials.look_round.Goals as goal

pub loop-direction-init : goal.loop-direction-init
loop-direction-init c = looked_none _ 1 around _

pub look-requires : goal.look-requires
look-requires c =
    record { looks = looks_on c.requires.looks c.loop-direction.invariant.looked 1 (omega arith); cell = c.requires.cell }

pub loop-direction-preserved : goal.loop-direction-preserved
loop-direction-preserved c =
    looked_turn _ 1 around _ c.loop-direction.invariant Up (omega arith) refl c.look.ensures.kept c.look.ensures.looked

pub returns : goal.returns
unfolding behind
returns c =
    let i = c.loop-direction.invariant in record { kept = i.kept; looked = looked_all _ 1 around _ i (omega arith) }
