-- `adjacency::Potentials::look_all` meets its contract: the cells before are done. Assumes nothing.
use Rattle.shape.specs.Shape.{behind}
use Rattle.adjacency.proofs.LookLaws.{SoFar}
use Rattle.adjacency.proofs.Potentials.look_all.Given as goal

abbrev pub invariant-loop-cell : goal.invariant-loop-cell
invariant-loop-cell l =
    let s = l.self in SoFar (behind s.chart.borders.grid s.chart.borders.states.now s.groups.ids.now) 4 l.cells l.initial.notes l.cell-index l.notes
