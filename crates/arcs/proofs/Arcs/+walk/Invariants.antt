-- `Arcs::walk` meets its contract: `Trying` of the part of u's list that was tried. The measure of the calls is the depth that is
-- left, that of the loop the arc's number.
use Rattle.arcs.proofs.WalkLaws.{Trying}
use Rattle.arcs.proofs.Arcs.+walk.Given as goal

abbrev pub decreases-walk : goal.decreases-walk
decreases-walk l = l.left

abbrev pub invariant-loop-at : goal.invariant-loop-at
invariant-loop-at l = Trying l.self.head l.self.next l.self.to l.u l.initial.seen l.seen l.at

abbrev pub decreases-loop-at : goal.decreases-loop-at
decreases-loop-at l = l.at
