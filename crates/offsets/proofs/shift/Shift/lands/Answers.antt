-- `offsets::shift::Shift::lands` meets its contract: each number is small. Assumes nothing.
use Rattle.offsets.proofs.Signed.{ahead_small}
use Rattle.offsets.proofs.ReachLaws.{image_bounded}
use Rattle.offsets.proofs.shift.Shift.lands.Goals as goal

pub coordinate-y-requires : goal.coordinate-y-requires
coordinate-y-requires c =
    let k = c.requires.0 in
    let b = image_bounded k.limits c.args.self.image c.args.spot c.requires.1 in
    (rw c.spot-at.ensures b.0, rw c.ahead-ahead.ensures (ahead_small c.direction.result).0, k.from.0, k.to.0)

pub coordinate-x-requires : goal.coordinate-x-requires
coordinate-x-requires c =
    let k = c.requires.0 in
    let b = image_bounded k.limits c.args.self.image c.args.spot c.requires.1 in
    (rw c.spot-at.ensures b.1, rw c.ahead-ahead.ensures (ahead_small c.direction.result).1, k.from.1, k.to.1)
