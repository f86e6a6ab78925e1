-- `RoomGraph::tipped` meets its contract: where all Connected edges could not go below the count they do not, and else the union counts. Assumes nothing.
use Rattle.std.proofs.Common.{◌∙◌, arith}
use borrow.Author.Tests.{le-ltb}
use Rattle.room_parts.proofs.BoundLaws.{connected_least}
use Rattle.room_parts.proofs.CountLaws.{not_tipped}
use Rattle.room_parts.proofs.RoomGraph.tipped.Goals as goal

pub returns-else-saturating_sub-count : goal.returns-else-saturating_sub-count
returns-else-saturating_sub-count c =
    let b = connected_least c.args.self.lent c.saturating_sub.ensures c.count_of.ensures in
    le-ltb _ _ c.if-saturating_sub-count.false ∙ not_tipped _ _ _ (omega (arith, b))
