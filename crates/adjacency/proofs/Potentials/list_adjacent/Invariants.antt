-- `adjacency::Potentials::list_adjacent` meets its contract: the lists of the first p are made. Assumes nothing.
use lib.ListN.{length}
use Rattle.adjacency.proofs.ListingLaws.{Progress}
use Rattle.adjacency.proofs.Potentials.list_adjacent.Given as goal

abbrev pub invariant-loop-p : goal.invariant-loop-p
invariant-loop-p l =
    let s = l.self in
    Progress s.chart.borders.grid s.chart.borders.states.now s.groups.ids.now (length s.groups.starts.now) s.groups.starts.now l.fn.starts l.initial.notes l.starts l.notes l.p
