-- `adjacency::Notes::unmark` meets its contract: the marks of those before are away. Assumes nothing.
use mathlib.Core.Path.{◌≡◌}
use Rattle.adjacency.specs.Adjacency.{Kept, Written}
use Rattle.adjacency.proofs.Notes.unmark.Given as goal

abbrev pub invariant-loop-i : goal.invariant-loop-i
invariant-loop-i l =
    record {
      kept : Kept l.initial.self l.self;
      list_is : l.self.list.now ≡ l.initial.self.list.now;
      len_is : l.self.len ≡ l.initial.self.len;
      done : Written l.initial.self.list.now l.from l.i 0 l.initial.self.marks.now l.self.marks.now;
    }
