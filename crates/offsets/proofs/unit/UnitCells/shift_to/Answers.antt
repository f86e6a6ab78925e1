-- `offsets::unit::UnitCells::shift_to` meets its contract: the shift's numbers are the table's. Assumes nothing.
use Rattle.offsets.proofs.ReachLaws.{in_grid}
use Rattle.offsets.proofs.TrialLaws.{head_cell, head_spot, shift_is}
use Rattle.offsets.proofs.unit.UnitCells.shift_to.Goals as goal

pub returns : goal.returns
returns c = shift_is c.args.self.unit c.args.image c.first-first.ensures c.requires c.spot.ensures c.spot-2.ensures c.spot-3.ensures

pub spot-requires-2 : goal.spot-requires-2
spot-requires-2 c = let u = c.args.self.unit in rw (head_spot u c.first-first.ensures c.spot.ensures) (in_grid _ (head_cell u))
