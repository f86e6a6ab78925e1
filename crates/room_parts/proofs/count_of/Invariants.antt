-- `room_parts::count_of` meets its contract: `found` counts the numbers so far that are k.
use Rattle.std.proofs.Common.{◌≡◌}
use Rattle.room_parts.specs.Graph.{states_in, is_state, passing}
use Rattle.room_parts.proofs.count_of.Given as goal

abbrev pub invariant-loop-x : goal.invariant-loop-x
invariant-loop-x l = l.found ≡ passing (is_state l.k) (states_in l.xs) l.x-index
