-- `ledger::Book::place_states` meets its contract: the states of the entries from here on are still to be written. Assumes nothing.
use Rattle.limits.specs.Limits.{most_borders}
use Rattle.ledger.proofs.StrokeLoops.{entry_below, states_turn}
use Rattle.ledger.proofs.Turns.{placed_end}
use Rattle.ledger.proofs.Book.place_states.Goals as goal

pub bounds-self-border_of : goal.bounds-self-border_of
bounds-self-border_of c = rw c.border_of.ensures (entry_below c.args.entries.now c.loop-entry.entry-index most_borders c.requires c.loop-entry-test.true)

pub loop-entry-preserved : goal.loop-entry-preserved
loop-entry-preserved c =
    let w = c.loop-entry.invariant in
    record {
      states =
          rw (c.border_of.ensures, c.state_of.ensures)
          (states_turn c.args.entries.now c.loop-entry.entry-index c.loop-entry.self.states _ c.loop-entry-test.true w.states);
      same_names = w.same_names;
      same_len = w.same_len;
    }

pub returns : goal.returns
returns c = placed_end c.args.self.now c.args.entries.now c.loop-entry.self c.loop-entry.entry-index c.loop-entry-test.false c.loop-entry.invariant
