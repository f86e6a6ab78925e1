-- `Arcs::sweep` meets its contract: `Sweeping` of the vertices so far; a seed without a mark begins a part.
use Rattle.arcs.proofs.WalkLaws.{Sweeping}
use Rattle.arcs.proofs.Arcs.sweep.Given as goal

abbrev pub invariant-loop-s : goal.invariant-loop-s
invariant-loop-s l = Sweeping l.n l.self.head l.self.next l.self.to l.seen l.parts l.s
