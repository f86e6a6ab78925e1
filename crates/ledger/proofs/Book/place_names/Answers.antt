-- `ledger::Book::place_names` meets its contract: the names of the entries from i on are still to be written. Assumes nothing.
use Rattle.ledger.proofs.StrokeLoops.{names_turn}
use Rattle.ledger.proofs.Turns.{named_end}
use Rattle.ledger.proofs.Book.place_names.Goals as goal

pub loop-i-preserved : goal.loop-i-preserved
loop-i-preserved c =
    let w = c.loop-i.invariant in
    record {
      names =
          rw (c.name_of.ensures, w.same_len)
          (names_turn c.args.entries.now c.loop-i.i c.loop-i.self.names _ c.args.self.now.len c.loop-i-test.true w.names);
      same_states = w.same_states;
      same_len = w.same_len;
    }

pub returns : goal.returns
returns c = named_end c.args.self.now c.args.entries.now c.loop-i.self c.loop-i.i c.loop-i-test.false c.loop-i.invariant
