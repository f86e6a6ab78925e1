-- `boundary::Outline::append_around` meets its contract: at each turn the lists of the directions that are left are still to append. Assumes nothing.
use lib.ListN.{drop}
use Rattle.lists.specs.Lists.{gather}
use Rattle.boundary.specs.Listing.{listed_at}
use Rattle.boundary.proofs.AppendLaws.{Leaves}
use Rattle.boundary.proofs.Outline.append_around.Given as goal

abbrev pub invariant-loop-direction : goal.invariant-loop-direction
invariant-loop-direction l =
    let f = listed_at l.self.borders.grid l.self.borders.states.now l.self.ids.now l.self.number l.cell l.kind in
    Leaves l.initial.list (gather f l.fn.order) l.list (gather f (drop l.direction-index l.fn.order))
