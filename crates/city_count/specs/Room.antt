-- What a room graph's calls answer (SPEC 1.8, 3.1 to 3.6, 4.14, 12, 15): the ledger's answers, around a graph and a count. Assumes nothing.
use Rattle.std.specs.Prelude.{ℕ, Bool, List, eqb, ltb, leb, length, get_or, Result, Ok, Err}
use Rattle.std.proofs.Math.Option.{Option}
use Rattle.std.proofs.lemmas.List.Edits.{sets}
use Rattle.limits.specs.Limits.{most_cells, most_borders}
use Rattle.lists.specs.Choice.{both, pick}
use Rattle.lists.specs.Lists.{range, all}
use Rattle.answers.specs.declared.Refusal.{Refusal}
use Rattle.answers.specs.Refusals.{number_of}
use Rattle.answers.specs.Answers.{Outcome, refused, found}
use Rattle.ledger.specs.declared.Book.{Book}
use Rattle.ledger.specs.Ledger.{Decision, single, stroke_code, undo_code, first_code}
use Rattle.ledger.specs.Books.{zeros, fresh_book, none_given, state_at, book_holds, placed, taken}
use Rattle.room_parts.specs.Graph.{Graph, graph, states_in}
use Rattle.city_count.specs.Fault.{lone_fault}
use Rattle.city_count.specs.declared.CityCountConstraint.{CityCountConstraint}
use Rattle.city_count.specs.declared.Decided.{Decided}

-- a graph with this book
abbrev pub room_of : ℕ → ℕ → List ℕ → List ℕ → ℕ → Book → CityCountConstraint
room_of n m us vs count b = record { vertices = n; edges = m; us = us; vs = vs; count = count; book = b }

-- a graph whose edges are all undecided
abbrev pub fresh_room : ℕ → ℕ → List ℕ → List ℕ → ℕ → CityCountConstraint
fresh_room n m us vs count = room_of n m us vs count (fresh_book zeros)

-- a record in which every number is 0
abbrev pub zero_room : CityCountConstraint
zero_room = fresh_room 0 0 zeros zeros 0

abbrev pub answer : ℕ → CityCountConstraint → Decided
answer k r = record { code = k; room = r }

-- number i of a list is below n
abbrev pub below : ℕ → List ℕ → ℕ → Bool
below n xs i = ltb (get_or xs i 0) n

-- each vertex that an edge names exists
unfoldable pub ends_exist : ℕ → ℕ → List ℕ → List ℕ → Bool
ends_exist n m us vs = all (λ i. both (below n us i) (below n vs i)) (range m)

-- the number of the question, 1 or 2, that refuses a graph of these parts, or 0
abbrev pub check_of : ℕ → ℕ → List ℕ → List ℕ → Book → ℕ
check_of n m us vs b = pick (both (leb n most_cells) (leb m most_borders)) (pick (both (ends_exist n m us vs) (book_holds m none_given b)) 0 2) 1

abbrev pub room_code : CityCountConstraint → ℕ
room_code r = check_of r.vertices r.edges r.us r.vs r.book

-- the sizes are within the limits, and two edge slices equally long
abbrev pub sizes_ok : ℕ → List ℕ → List ℕ → Bool
sizes_ok n us vs = both (leb n most_cells) (both (leb (length us) most_borders) (eqb (length us) (length vs)))

-- a refused making returns zeros
abbrev pub make_of : ℕ → List ℕ → List ℕ → ℕ → Decided
make_of n us vs count =
    pick (sizes_ok n us vs)
    (pick (ends_exist n (length us) us vs) (answer 0 (fresh_room n (length us) (sets zeros 0 us) (sets zeros 0 vs) count)) (answer 3 zero_room))
    (answer 1 zero_room)

-- what a making answers, as a record: a refused one returns zeros
abbrev pub made : Result CityCountConstraint Refusal → Decided
made (Ok r) = answer 0 r
made (Err refusal) = answer (number_of refusal) zero_room

-- the graph with another book
abbrev pub onto : CityCountConstraint → Book → CityCountConstraint
onto r b = room_of r.vertices r.edges r.us r.vs r.count b

-- a number refuses, and the graph is as it came in; or its book is changed
abbrev pub answered : ℕ → CityCountConstraint → Book → Decided
answered k r b = pick (eqb k 0) (answer 0 (onto r b)) (answer k r)

abbrev pub stroke_of : CityCountConstraint → List Decision → Decided
stroke_of r ds = answered (first_code (room_code r) (stroke_code r.edges (state_at r.book.states) ds)) r (placed r.book ds)

-- a single decide is a stroke of one (SPEC 12.1)
abbrev pub decide_of : CityCountConstraint → ℕ → Bool → Decided
decide_of r e wall = stroke_of r (single e wall)

abbrev pub undo_of : CityCountConstraint → Decided
undo_of r = answered (first_code (room_code r) (undo_code r.book.len)) r (taken r.book)

abbrev pub graph_of : CityCountConstraint → Graph
graph_of r = graph r.vertices r.edges r.us r.vs

-- what an ask finds on the record
abbrev pub fault_of : CityCountConstraint → Option (List ℕ)
fault_of r = lone_fault (graph_of r) r.count (states_in r.book.states)

-- the number of the question that refuses an ask with a buffer of so many places, or 0: as many as there are edges (SPEC 3.6)
abbrev pub ask_code : CityCountConstraint → ℕ → ℕ
ask_code r places = first_code (room_code r) (pick (leb r.edges places) 0 6)

-- what an ask comes to
abbrev pub ask_of : CityCountConstraint → ℕ → Outcome
ask_of r places = pick (eqb (ask_code r places) 0) (found (fault_of r)) (refused (ask_code r places))
