-- `offsets::sides::has_wall` meets its contract: its four sides. Assumes nothing.
use Rattle.offsets.proofs.SideLaws.{sides_are}
use Rattle.offsets.proofs.sides.has_wall.Goals as goal

pub returns : goal.returns
returns c = sides_are c.args.b.fits c.requires
