-- `RoomGraph::most_parts` meets its contract: no marked vertex begins a part, so that the unmarked ones bound the parts. Assumes nothing.
use Rattle.std.proofs.Common.{◌∙◌, arith}
use Rattle.arcs.proofs.LinkLaws.{zeros}
use Rattle.room_parts.proofs.BoundLaws.{marks_none, marks_more, marks_bound, passing_blank, blank_taken}
use Rattle.room_parts.proofs.RoomGraph.most_parts.Goals as goal

pub loop-i-init : goal.loop-i-init
unfolding zeros
loop-i-init c = marks_none _ _

pub loop-i-preserved : goal.loop-i-preserved
loop-i-preserved c =
    rw c.mark_later.ensures
    (marks_more _ _ _ _ _ _ c.loop-i-test.true c.ends-u.ensures.first c.ends-u.ensures.second c.loop-i.invariant)

pub returns : goal.returns
returns c =
    marks_bound _ _ _ _ c.loop-i.invariant
    (c.count_of.ensures ∙ passing_blank _ _ ∙ blank_taken _ _ (omega (arith, c.args.self.lent.few_vertices)))
