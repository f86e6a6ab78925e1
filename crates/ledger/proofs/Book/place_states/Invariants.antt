-- `ledger::Book::place_states` meets its contract: the states of the entries from here on are still to be written. Assumes nothing.
use Rattle.ledger.proofs.Turns.{Placing}
use Rattle.ledger.proofs.Book.place_states.Given as goal

abbrev pub invariant-loop-entry : goal.invariant-loop-entry
invariant-loop-entry l = Placing l.initial.self l.entries l.self l.entry-index
