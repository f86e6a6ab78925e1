-- `RoomGraph::outnumbers` meets its contract: the parts are above the lower bound, below the upper one, or counted. Assumes nothing.
use Rattle.std.proofs.Common.{length, arith}
use Rattle.room_parts.specs.Graph.{states_in, is_state}
use Rattle.room_parts.proofs.BoundLaws.{passing_le, joined_least, above_least}
use Rattle.room_parts.proofs.RoomGraph.outnumbers.Goals as goal

pub overflow_sub-open : goal.overflow_sub-open
overflow_sub-open c = omega (arith, passing_le (is_state 2) (states_in c.args.self.states.now) (length c.args.self.states.now), c.count_of.ensures)

pub returns-then-count-saturating_sub : goal.returns-then-count-saturating_sub
returns-then-count-saturating_sub c =
    above_least _ _ c.if-count-saturating_sub.true (joined_least c.args.self.lent c.saturating_sub.ensures c.count_of.ensures)
