-- `boundary::Outline::append_around` meets its contract: at each turn the lists of the directions that are left are still to append. Assumes nothing.
use native.Mathlib.Omega.{arith}
use Rattle.grid.specs.declared.Direction.TheVariants.{Up}
use Rattle.boundary.proofs.AppendLaws.{turn_fits, turn_written, turns_written}
use Rattle.boundary.proofs.Outline.append_around.Goals as goal

pub append_entry-requires : goal.append_entry-requires
append_entry-requires c =
    record { cell = c.requires.cell; room = turn_fits _ _ Up c.loop-direction.direction-index c.loop-direction.invariant (omega arith) c.requires.room }

pub loop-direction-preserved : goal.loop-direction-preserved
loop-direction-preserved c =
    turn_written _ _ Up c.loop-direction.direction-index c.loop-direction.invariant (omega arith) c.append_entry.ensures

pub returns : goal.returns
returns c =
    turns_written _ _ Up c.loop-direction.direction-index c.loop-direction.invariant (omega arith)
