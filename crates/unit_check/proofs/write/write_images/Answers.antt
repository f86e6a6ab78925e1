-- `unit_check::write::write_images` meets its contract: the loop's invariant is what is left to write. Assumes nothing.
use mathlib.Core.Path.{refl}
use Rattle.unit_check.proofs.WriteLaws.{imaged_first, imaged_room, imaged_on, imaged_end}
use Rattle.unit_check.proofs.write.write_images.Goals as goal

pub loop-image-init : goal.loop-image-init
loop-image-init c = imaged_first _ _ _ _ _ _

pub write_landings-requires : goal.write_landings-requires
write_landings-requires c = imaged_room _ _ _ _ _ c.loop-image.invariant _ c.loop-image-test.true refl c.requires

pub loop-image-preserved : goal.loop-image-preserved
loop-image-preserved c = imaged_on _ _ _ _ _ c.loop-image.invariant _ c.loop-image-test.true refl c.write_landings.ensures

pub returns : goal.returns
returns c = imaged_end _ _ _ _ _ c.loop-image.invariant (record { number = 0 }) c.loop-image-test.false
