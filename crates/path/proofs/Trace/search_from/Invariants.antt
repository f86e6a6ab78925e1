-- `path::Trace::search_from` meets its contract: the invariant `Going`, one law of `Loop` for the start, a turn and each of the two ends. Assumes nothing.
use mathlib.Core.Path.{◌≡◌}
use Prim.Native.Nat.{◌-◌}
use Rattle.grid.specs.Grid.{cells}
use Rattle.path.proofs.Loop.{Going}
use Rattle.path.proofs.Trace.search_from.Given as goal

abbrev pub invariant-loop-head : goal.invariant-loop-head
invariant-loop-head l = (l.self.borders ≡ l.initial.self.borders) × Going l.initial.self.borders.grid l.initial.self.borders.states.now l.start l.target l.self.found.now l.self.queue.now l.head l.self.tail

abbrev pub decreases-loop-head : goal.decreases-loop-head
decreases-loop-head l = cells l.initial.self.borders.grid - l.head
