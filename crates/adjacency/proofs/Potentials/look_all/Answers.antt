-- `adjacency::Potentials::look_all` meets its contract: the cells before are done. Assumes nothing.
use mathlib.Core.Path.{refl}
use native.Mathlib.Omega.{arith}
use Rattle.shape.specs.Shape.{parted}
use Rattle.adjacency.proofs.LookLaws.{open_looked, looks_on, looked_none, looked_turn, looked_all}
use Rattle.adjacency.proofs.Potentials.look_all.Goals as goal

pub loop-cell-init : goal.loop-cell-init
loop-cell-init c = looked_none _ 4 c.args.cells.now _

pub look_round-requires : goal.look_round-requires
look_round-requires c =
    record { looks = looks_on c.requires.looks c.loop-cell.invariant.looked 4 (omega (arith, c.loop-cell-test.true)); cell = rw c.from-cell.ensures (c.requires.by_index _ c.loop-cell-test.true) }

pub loop-cell-preserved : goal.loop-cell-preserved
loop-cell-preserved c =
    looked_turn _ 4 _ _ c.loop-cell.invariant 0 c.loop-cell-test.true c.from-cell.ensures c.look_round.ensures.kept c.look_round.ensures.looked

pub loop-cell-preserved-then-not-is_shut : goal.loop-cell-preserved-then-not-is_shut
loop-cell-preserved-then-not-is_shut c =
    let s = c.args.self in
    looked_turn _ 4 _ _ c.loop-cell.invariant 0 c.loop-cell-test.true c.from-cell.ensures (record { marks = refl; list = refl })
    (open_looked s.chart.borders.grid s.chart.borders.states.now s.groups.ids.now c.from-cell.result (c.is_shut.ensures c.if-not-is_shut.true))

pub returns : goal.returns
unfolding parted
returns c =
    let i = c.loop-cell.invariant in record { kept = i.kept; looked = looked_all _ 4 _ _ i c.loop-cell-test.false }
