-- A room graph after a list of calls, each on the graph that the one before returned. Assumes nothing.
use Rattle.std.specs.Prelude.{ℕ, List, [], ◌∷◌, length}
use Rattle.ledger.specs.Ledger.{Call, stroke, undo, ask, ledger_of, standing, whole}
use Rattle.ledger.specs.Books.{none_given}
use Rattle.room_parts.specs.Graph.{Graph, graph}
use Rattle.city_count.specs.declared.CityCountConstraint.{CityCountConstraint}
use Rattle.city_count.specs.Room.{make_of, stroke_of, undo_of}

-- an ask returns no graph and changes none
unfoldable pub room_after : CityCountConstraint → Call → CityCountConstraint
room_after r (stroke ds) = (stroke_of r ds).room
room_after r undo = (undo_of r).room
room_after r ask = r

unfoldable pub run : CityCountConstraint → List Call → CityCountConstraint
unfolding room_after
run r [] = r
run r (c ∷ cs) = run (room_after r c) cs

-- what a making's arguments and a list of calls leave: the record, and by the ledger the state of each edge
abbrev pub after_calls : ℕ → List ℕ → List ℕ → ℕ → List Call → CityCountConstraint
after_calls n us vs count cs = run (make_of n us vs count).room cs

abbrev pub state_after : List ℕ → List Call → ℕ → ℕ
state_after us cs = standing none_given (whole (ledger_of (length us) none_given [] cs))

-- the graph of a making's arguments
abbrev pub graph_from : ℕ → List ℕ → List ℕ → Graph
graph_from n us vs = graph n (length us) us vs
