-- `inner_walls::Units::inner_cell` meets its contract: the directions passed found nothing. Assumes nothing.
use mathlib.Core.Path.{ap}
use native.Mathlib.Omega.{arith}
use lib.ListN.{length}
use Rattle.inner_walls.proofs.FindLaws.{searched_none, search_fault, search_on, search_over}
use Rattle.inner_walls.proofs.Units.inner_cell.Goals as goal

pub loop-direction-init : goal.loop-direction-init
loop-direction-init c = searched_none _ _ _ _

pub inner_at-requires : goal.inner_at-requires
inner_at-requires c =
    let e = ap length c.loop-direction.invariant.same in
    record { room = omega (arith, c.requires.room); cell = c.requires.cell }

pub returns-in-Some : goal.returns-in-Some
returns-in-Some c =
    search_fault _ _ _ c.loop-direction.invariant (omega arith) c.inner_at.ensures c.in-Some.is

pub loop-direction-preserved : goal.loop-direction-preserved
loop-direction-preserved c =
    search_on _ _ _ c.loop-direction.invariant (omega arith) c.inner_at.ensures c.in_default.is

pub returns : goal.returns
returns c = search_over _ _ _ c.loop-direction.invariant (omega arith)
