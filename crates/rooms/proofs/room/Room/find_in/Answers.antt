-- `Room::find_in` meets its contract: the room's graph stands at the front of the arrays. Assumes nothing.
use Rattle.std.proofs.Common.{◌∙◌}
use Rattle.rooms.proofs.FindLaws.{array_lent, sided}
use Rattle.rooms.proofs.room.Room.find_in.Goals as goal

pub invariant_of-graph : goal.invariant_of-graph
invariant_of-graph g c = record { lent = array_lent g.row.N _ _ _ _ c.args.self.housed c.requires.room _ _ _ _ c.edges-m.ensures }

pub returns : goal.returns
returns g c = c.failing.ensures ∙ sided g.row.N _ _ _ _ c.args.self.housed c.requires.room _ _ _ _ c.edges-m.ensures _
