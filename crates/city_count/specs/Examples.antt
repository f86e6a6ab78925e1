-- Examples of room graphs (SPEC 7.6, 7.7, 15.1, and others). Assumes nothing.
use Rattle.std.specs.Prelude.{◌≡◌, refl, false, [], ◌∷◌}
use Rattle.std.proofs.Math.Option.{none, some}
use Rattle.answers.specs.Answers.{refused, listed}
use Rattle.ledger.specs.Ledger.{none_twice, stroke_code}
use Rattle.ledger.specs.Books.{zeros, names_from, state_all, book_holds}
use Rattle.room_parts.specs.Graph.{Graph, graph, states_in}
use Rattle.city_count.specs.Fault.{room_fault, lone_fault}
use Rattle.city_count.specs.declared.CityCountConstraint.{CityCountConstraint}
use Rattle.city_count.specs.Room.{make_of, decide_of, ask_of, ends_exist}

-- edges 0–1 and 1–2, count 3: undecided, clear; both Connected, list 0, 2; count 1, the first Wall: list 1
path : Graph
path = graph 3 2 (0 ∷ 1 ∷ []) (1 ∷ 2 ∷ [])

undecided : room_fault path 3 (states_in (0 ∷ 0 ∷ [])) ≡ none
unfolding path room_fault
undecided = refl

connected : room_fault path 3 (states_in (1 ∷ 1 ∷ [])) ≡ some (0 ∷ 2 ∷ [])
unfolding path room_fault
connected = refl

first_wall : room_fault path 1 (states_in (2 ∷ 0 ∷ [])) ≡ some (1 ∷ [])
unfolding path room_fault
first_wall = refl

-- one vertex, count 0: a fault with the empty list
one_alone : room_fault (graph 1 0 [] []) 0 (states_in []) ≡ some []
unfolding room_fault
one_alone = refl

-- the list is every Connected edge, also those behind the edge that tipped the count
all_connected : room_fault (graph 2 3 (0 ∷ 0 ∷ 1 ∷ []) (1 ∷ 1 ∷ 1 ∷ [])) 2 (states_in (1 ∷ 1 ∷ 1 ∷ [])) ≡ some (0 ∷ 2 ∷ 4 ∷ [])
unfolding room_fault
all_connected = refl

-- THE LONE ROOM CHECK. Two vertices, count 3: a fault with the empty list, without an edge and with a Connected one, which the room count
-- would list
abbrev pair : Graph
pair = graph 2 1 (0 ∷ []) (1 ∷ [])

two_alone : lone_fault (graph 2 0 [] []) 3 (states_in []) ≡ some []
unfolding lone_fault
two_alone = refl

two_joined : lone_fault pair 3 (states_in (1 ∷ [])) ≡ some []
unfolding lone_fault
two_joined = refl

counted : room_fault pair 3 (states_in (1 ∷ [])) ≡ some (0 ∷ [])
unfolding room_fault
counted = refl

-- a count that is the vertices is not above them: the room count decides
as_many : (lone_fault pair 2 (states_in (0 ∷ [])) ≡ none) × (lone_fault pair 2 (states_in (1 ∷ [])) ≡ some (0 ∷ []))
unfolding lone_fault
as_many = (refl, refl)

-- no vertices: count 0 clear, 5 a fault
none_at_all : (lone_fault (graph 0 0 [] []) 0 (states_in []) ≡ none) × (lone_fault (graph 0 0 [] []) 5 (states_in []) ≡ some [])
unfolding lone_fault
none_at_all = (refl, refl)

-- all 32 bits of the count are looked at: the lower 16 of this one are 1
wide_count : lone_fault (graph 1 0 [] []) 65537 (states_in []) ≡ some []
unfolding lone_fault
wide_count = refl

-- the questions come first: without a place for the edge the ask is refused 6, and with one the list is empty
abbrev drawn : CityCountConstraint
drawn = (decide_of (make_of 2 (0 ∷ []) (1 ∷ []) 3).room 0 false).room

short_buffer : (ask_of drawn 0 ≡ refused 6) × (ask_of drawn 1 ≡ listed [])
unfolding zeros ends_exist book_holds stroke_code none_twice state_all names_from lone_fault
short_buffer = (refl, refl)
