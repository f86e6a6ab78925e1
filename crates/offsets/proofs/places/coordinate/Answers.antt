-- `offsets::places::coordinate` meets its contract: no step leaves 32 bits. Assumes nothing.
use Rattle.offsets.proofs.Signed.{place_fits, offset_fits, sum_fits, coordinate_is}
use Rattle.offsets.proofs.places.coordinate.Goals as goal

pub overflow_add-place : goal.overflow_add-place
overflow_add-place c = place_fits c.args.at c.args.ahead c.args.from c.args.to c.requires.0 c.requires.1 c.requires.2 c.requires.3

pub overflow_sub-offset : goal.overflow_sub-offset
overflow_sub-offset c = offset_fits c.args.at c.args.ahead c.args.from c.args.to c.requires.0 c.requires.1 c.requires.2 c.requires.3

pub overflow_add-result : goal.overflow_add-result
overflow_add-result c = sum_fits c.args.at c.args.ahead c.args.from c.args.to c.requires.0 c.requires.1 c.requires.2 c.requires.3

pub returns : goal.returns
returns c = coordinate_is c.args.at c.args.ahead c.args.from c.args.to c.requires.0 c.requires.1 c.requires.2 c.requires.3
