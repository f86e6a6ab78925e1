-- `city_count::list` meets its contract: `Listing` of the edges so far.
use Rattle.std.proofs.Common.{length}
use Rattle.ledger.specs.Ledger.{state_for}
use Rattle.room_parts.specs.Graph.{states_in}
use Rattle.borders.specs.Entry.{entry_of}
use Rattle.city_count.proofs.EntryLaws.{Listing}
use Rattle.city_count.proofs.list.Given as goal

abbrev pub invariant-loop-i : goal.invariant-loop-i
invariant-loop-i l = Listing (entry_of l.wall) (state_for l.wall) (length l.states) (states_in l.states) l.initial.buffer l.buffer l.n l.i
