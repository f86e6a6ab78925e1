-- `unit_check::find::Finder::find_soon` meets its contract: each unit so far fits somewhere, and nothing is marked. Assumes nothing.
use lib.ListN.{length}
use Rattle.adjacency.specs.Adjacency.{Unmarked}
use Rattle.unit_check.specs.Find.{fits_in, AllFit}
use Rattle.unit_check.specs.Finder.{Kept}
use Rattle.unit_check.proofs.find.Finder.find_soon.Given as goal

abbrev pub invariant-loop-unit : goal.invariant-loop-unit
invariant-loop-unit l =
    let s = l.initial.self.stage in
    let h = s.chart in record {
      kept : Kept l.initial.self l.self;
      all_fit : AllFit (fits_in s.images.now h.borders.grid h.borders.states.now h.table.now) (length s.units.starts.now) l.unit;
      unmarked : Unmarked l.self.marks.now;
    }
