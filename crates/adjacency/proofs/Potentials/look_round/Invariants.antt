-- `adjacency::Potentials::look_round` meets its contract: the directions before are done. Assumes nothing.
use Rattle.grid.specs.Orders.{around}
use Rattle.shape.specs.Shape.{wall_to}
use Rattle.adjacency.proofs.LookLaws.{SoFar}
use Rattle.adjacency.proofs.Potentials.look_round.Given as goal

abbrev pub invariant-loop-direction : goal.invariant-loop-direction
invariant-loop-direction l =
    let s = l.self in SoFar (λ d q. wall_to s.chart.borders.grid s.chart.borders.states.now s.groups.ids.now q l.cell d) 1 around l.initial.notes l.direction-index l.notes
