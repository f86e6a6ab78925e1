-- `RoomGraph::failing` meets its contract: the two counts in turn. Assumes nothing.
use Rattle.std.proofs.Common.{Bool, true, false, Some, None, ◌≡◌, refl, sym, ◌∙◌}
use Rattle.std.specs.Bool.{then_some}
use Rattle.lists.specs.Choice.{pick}
use Rattle.room_parts.specs.Graph.{failing_of}
use Rattle.room_parts.proofs.RoomGraph.failing.Goals as goal

as_pick : (t : Bool) → then_some t true ≡ pick t (Some true) None
as_pick true = refl
as_pick false = refl

pub returns-then-tipped : goal.returns-then-tipped
unfolding failing_of
returns-then-tipped c = rw (sym c.tipped.ensures ∙ c.if-tipped.true) refl

pub returns : goal.returns
unfolding failing_of
returns c = rw (sym c.tipped.ensures ∙ c.if-tipped.false, sym c.outnumbers.ensures) (c.then_some.ensures ∙ as_pick _)
