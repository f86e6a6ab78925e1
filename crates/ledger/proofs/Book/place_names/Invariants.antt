-- `ledger::Book::place_names` meets its contract: the names of the entries from i on are still to be written. Assumes nothing.
use Rattle.ledger.proofs.Turns.{Naming}
use Rattle.ledger.proofs.Book.place_names.Given as goal

abbrev pub invariant-loop-i : goal.invariant-loop-i
invariant-loop-i l = Naming l.initial.self l.entries l.self l.i
