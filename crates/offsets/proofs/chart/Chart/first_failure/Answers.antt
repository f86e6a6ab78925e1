-- `offsets::chart::Chart::first_failure` meets its contract: the cells before this one have nothing. Assumes nothing.
use lib.ListN.{get_or}
use Rattle.lists.specs.Lists.{In}
use Rattle.lists.proofs.ListLaws.{get_d_in}
use Rattle.offsets.specs.Landings.{first_fail}
use Rattle.offsets.proofs.FailLaws.{missed_none, missed_all, missed_hit, missed_more}
use Rattle.offsets.proofs.chart.Chart.first_failure.Goals as goal

pub loop-cell-init : goal.loop-cell-init
loop-cell-init c = missed_none _ _

pub cell_failure-requires : goal.cell_failure-requires
cell_failure-requires c =
    let r = c.requires in
    let m : In (get_or c.args.cells.now c.loop-cell.cell-index 0) c.args.cells.now = get_d_in 0 _ _ c.loop-cell-test.true in
    rw c.from.ensures (record { cell = r.on_board _ m; small = r.small; falls = r.falls _ m })

pub returns-in-Some : goal.returns-in-Some
unfolding first_fail
returns-in-Some c = missed_hit _ _ c.loop-cell.invariant c.loop-cell-test.true 0 (rw c.from.ensures at c.cell_failure.ensures) c.in-Some.is

pub loop-cell-preserved : goal.loop-cell-preserved
loop-cell-preserved c = missed_more _ _ c.loop-cell.invariant c.loop-cell-test.true 0 (rw c.from.ensures at c.cell_failure.ensures) c.in_default.is

pub returns : goal.returns
unfolding first_fail
returns c = missed_all _ _ c.loop-cell.invariant c.loop-cell-test.false
