-- `unit_check::find::Finder::find_by_words` meets its contract: each unit so far fits somewhere, the next one has its marks, and the stamps hold. Assumes nothing.
use lib.ListN.{length}
use Rattle.row_trials.specs.Words.{Prepared}
use Rattle.unit_check.specs.Finder.{Kept}
use Rattle.unit_check.proofs.FindLaws.{Pending, still}
use Rattle.unit_check.proofs.find.Finder.find_by_words.Given as goal

abbrev pub invariant-loop-next : goal.invariant-loop-next
invariant-loop-next g l =
    let s = l.initial.self.stage in
    let h = s.chart in record {
      kept : Kept l.initial.self l.self;
      pending : Pending s.images.now h.borders.grid h.borders.states.now h.table.now (length s.units.starts.now) l.self.marks.now l.next;
      prepared : Prepared h.borders.grid h.borders.states.now h.table.now l.words;
    }

abbrev pub decreases-loop-next : goal.decreases-loop-next
decreases-loop-next g l = still (length l.initial.self.stage.units.starts.now) l.next
