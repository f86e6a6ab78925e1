-- `unit_check::soon::longest_run` meets its contract: no run is longer than the cells that it has gone by. Assumes nothing.
use Rattle.std.proofs.Common.{rules}
use Rattle.unit_check.proofs.SoonLaws.{some_few}
use Rattle.unit_check.proofs.soon.longest_run.Goals as goal

pub loop-before-init : goal.loop-before-init
loop-before-init c = let few = some_few c.args.unit.unit in search rules
