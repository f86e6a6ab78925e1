-- `ledger::clear_states` meets its contract: the borders of the names from here on are still to be cleared. Assumes nothing.
use Rattle.std.proofs.Common.{◌≡◌, drop, map}
use Rattle.ledger.specs.Books.{half, clear_all}
use Rattle.ledger.proofs.clear_states.Given as goal

abbrev pub invariant-loop-name : goal.invariant-loop-name
invariant-loop-name l = clear_all l.states (drop l.name-index (map half l.names)) ≡ clear_all l.initial.states (map half l.names)
