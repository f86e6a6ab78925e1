-- `unit_check::find::Finder::append_near` meets its contract: the loop's invariant is what is left to append. Assumes nothing.
use lib.ListN.{length}
use Rattle.unit_check.specs.Write.{marked_boundary}
use Rattle.unit_check.proofs.RestLaws.{Left}
use Rattle.unit_check.proofs.find.Finder.append_near.Given as goal

abbrev pub invariant-loop-number : goal.invariant-loop-number
invariant-loop-number l =
    let b = l.chart.borders in
    Left (marked_boundary b.grid b.states.now l.potentials.ids.now l.self.marks.now) (length l.potentials.starts.now) l.initial.list l.list l.number
