-- `path::Trace::look_round` meets its contract: at each turn the arrays have followed the looks in the directions before. Assumes nothing.
use mathlib.Core.Path.{◌≡◌}
use Rattle.grid.specs.Orders.{around}
use Rattle.path.proofs.Looks.{Round}
use Rattle.path.proofs.Trace.look_round.Given as goal

abbrev pub invariant-loop-direction : goal.invariant-loop-direction
invariant-loop-direction l =
    let s = l.initial.self in
    (l.self.borders ≡ s.borders) × Round s.borders.grid s.borders.states.now l.cell around s.found.now s.queue.now s.tail l.direction-index l.self.found.now l.self.queue.now l.self.tail
