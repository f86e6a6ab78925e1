-- `unit_check::write::write_landings` meets its contract: the loop's invariant is what is left to write. Assumes nothing.
use native.Mathlib.Omega.{arith}
use Rattle.unit_check.proofs.WriteLaws.{landing_first, landing_room, landing_on, landing_end}
use Rattle.unit_check.proofs.write.write_landings.Goals as goal

pub loop-to-init : goal.loop-to-init
loop-to-init c = landing_first _ _ _ _ _ _

pub note-requires : goal.note-requires
note-requires c = landing_room _ _ _ _ _ c.loop-to.invariant (omega (arith, c.loop-to-test.true, c.cell_count-to-end.ensures)) c.at.ensures c.requires

pub loop-to-preserved : goal.loop-to-preserved
loop-to-preserved c = landing_on _ _ _ _ _ c.loop-to.invariant (omega (arith, c.loop-to-test.true, c.cell_count-to-end.ensures)) c.at.ensures c.note.ensures

pub returns : goal.returns
returns c = landing_end _ _ _ _ _ c.loop-to.invariant (omega (arith, c.loop-to-test.false, c.cell_count-to-end.ensures))
