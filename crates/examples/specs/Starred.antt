-- The starred examples (SPEC 7.1 to 7.7), of boards, room graphs, puzzles and hand-over: a table, and one computed check of it. Each board is also a
-- puzzle without given walls and with one unclued room, on which the borders are decided in turn. Assumes nothing.
use Rattle.std.specs.Prelude.{ℕ, ◌*◌, ◌≡◌, refl, true, false, List, [], ◌∷◌, map, length, replicate}
use Rattle.std.proofs.Math.Option.{Option, none, some}
use Rattle.limits.specs.Limits.{no_clue}
use Rattle.lists.specs.Lists.{count}
use Rattle.grid.specs.Grid.{grid}
use Rattle.images.specs.Images.{translates}
use Rattle.shape.specs.Shape.{shape_fault}
use Rattle.ledger.specs.Ledger.{none_twice, stroke_code}
use Rattle.ledger.specs.Books.{zeros, names_from, state_all, clear_all, start_of, book_holds}
use Rattle.puzzle.specs.declared.kind.Kind.TheVariants.{Translates}
use Rattle.puzzle.specs.declared.Check.{Check}
use Rattle.puzzle.specs.declared.Check.TheVariants.{Shape, Room}
use Rattle.puzzle.specs.Answer.{Answer}
use Rattle.puzzle.specs.Answer.{Clear, Fault, Refused}
use Rattle.room_parts.specs.Graph.{graph, states_in}
use Rattle.city_count.specs.Fault.{lone_fault}
use Rattle.hand_over.specs.Sorted.{sorted_once}
use Rattle.puzzle.specs.Fault.{fault_of}
use Rattle.clues.specs.Clues.{lists_code}
use Rattle.puzzle.specs.Puzzle.{together, no_clues, states_of, ask_of}
use Rattle.demand_3.specs.Run.{Call, decide, stroke, undo, ask, coded, asked, run, replies}
use Rattle.demand_3.specs.Demand3.{list_of, fresh_of, after}

pub data Question : Type 0 where
  -- height, width and the borders' states, to the shape check
  board : ℕ → ℕ → List ℕ → Question
  -- vertices, the edges' ends, count and the edges' states, to the lone room check
  room : ℕ → List ℕ → List ℕ → ℕ → List ℕ → Question
  -- height, width, given walls and clues, and calls, to the next ask
  puzzle : ℕ → ℕ → List ℕ → List ℕ → List Call → Question
  -- entries, to hand-over
  entries : List ℕ → Question

-- what an example says: clear; a fault's check and list; a list alone, that of a lone room graph or of hand-over; the number of a refusal
pub data Told : Type 0 where
  clear : Told
  fault : Check → List ℕ → Told
  list : List ℕ → Told
  refused : ℕ → Told

abbrev pub found_by : (List ℕ → Told) → Option (List ℕ) → Told
found_by kind none = clear
found_by kind (some l) = kind l

-- an ask's answer, and its list
abbrev pub tells : Answer → List ℕ → Told
tells Clear l = clear
tells (Fault k n) l = fault k l
tells (Refused n) l = refused n

abbrev pub told : Question → Told
told (board h w states) = found_by (fault Shape) (shape_fault translates (grid h w) states)
told (room n us vs k states) = found_by list (lone_fault (graph n (length us) us vs) k (states_in states))
told (puzzle h w given clues calls) =
    let a = ask_of (after Translates h w given clues calls) (replicate (9 * (h * w)) 0) in tells a.answer (list_of a)
told (entries l) = list (sorted_once l)

pub record Example : Type 0 where
  pub question : Question
  pub answer : Told

infix 10 ◌gives◌
abbrev ◌gives◌ : Question → Told → Example
q gives a = record { question = q; answer = a }

-- one room, no clue
abbrev free : ℕ → ℕ → List Call → Question
free h w calls = puzzle h w [] (no_clue ∷ []) calls

-- 2 by 2, with given walls that part a room above and a room below, each cut in two by a Wall
abbrev halves : List ℕ → Question
halves clues = puzzle 2 2 (2 ∷ 3 ∷ []) clues (decide 1 true ∷ decide 0 true ∷ [])

pub table : List Example
table =
    -- 7.1
    (board 1 1 [] gives fault Shape []) ∷ (free 1 1 [] gives fault Shape [])
    -- 7.2
    ∷ (board 1 2 (0 ∷ []) gives clear) ∷ (free 1 2 [] gives clear)
    ∷ (board 1 2 (1 ∷ []) gives fault Shape (0 ∷ [])) ∷ (free 1 2 (decide 0 false ∷ []) gives fault Shape (0 ∷ []))
    ∷ (board 1 2 (2 ∷ []) gives clear) ∷ (free 1 2 (decide 0 true ∷ []) gives clear)
    -- 7.3
    ∷ (board 1 3 (2 ∷ 1 ∷ []) gives fault Shape (2 ∷ 2 ∷ 1 ∷ 1 ∷ 1 ∷ []))
    ∷ (free 1 3 (decide 0 true ∷ decide 1 false ∷ []) gives fault Shape (2 ∷ 2 ∷ 1 ∷ 1 ∷ 1 ∷ []))
    ∷ (entries (2 ∷ 2 ∷ 1 ∷ 1 ∷ 1 ∷ []) gives list (1 ∷ 2 ∷ []))
    -- 7.4
    ∷ (board 2 2 (1 ∷ 1 ∷ 1 ∷ 2 ∷ []) gives fault Shape (2 ∷ 4 ∷ 0 ∷ 7 ∷ []))
    ∷ (free 2 2 (decide 3 true ∷ decide 2 false ∷ decide 1 false ∷ decide 0 false ∷ []) gives fault Shape (2 ∷ 4 ∷ 0 ∷ 7 ∷ []))
    -- 7.5
    ∷ (board 2 2 (1 ∷ 1 ∷ 2 ∷ 2 ∷ []) gives clear) ∷ (free 2 2 (decide 0 false ∷ decide 1 false ∷ decide 2 true ∷ decide 3 true ∷ []) gives clear)
    -- 7.6
    ∷ (room 3 (0 ∷ 1 ∷ []) (1 ∷ 2 ∷ []) 3 (0 ∷ 0 ∷ []) gives clear)
    ∷ (room 3 (0 ∷ 1 ∷ []) (1 ∷ 2 ∷ []) 3 (1 ∷ 1 ∷ []) gives list (0 ∷ 2 ∷ []))
    ∷ (room 3 (0 ∷ 1 ∷ []) (1 ∷ 2 ∷ []) 1 (2 ∷ 0 ∷ []) gives list (1 ∷ []))
    -- 7.7
    ∷ (room 2 [] [] 3 [] gives list []) ∷ (room 1 [] [] 0 [] gives list [])
    -- more than the starred ones: a clued room's fault has the room's number and the board's borders, and shape comes before rooms
    ∷ (halves (no_clue ∷ 1 ∷ []) gives fault (Room 1) (3 ∷ [])) ∷ (halves (1 ∷ 1 ∷ []) gives fault (Room 0) (1 ∷ []))
    ∷ (halves (no_clue ∷ 2 ∷ []) gives clear)
    ∷ (puzzle 1 2 [] (2 ∷ []) (decide 0 false ∷ []) gives fault Shape (0 ∷ []))
    -- a count above the vertices lists nothing, though the edge is Connected; a count that is the vertices lists it (SPEC 15.1)
    ∷ (room 2 (0 ∷ []) (1 ∷ []) 3 (1 ∷ []) gives list []) ∷ (room 2 (0 ∷ []) (1 ∷ []) 2 (1 ∷ []) gives list (0 ∷ []))
    -- without vertices count 0 is clear, and another a fault
    ∷ (room 0 [] [] 0 [] gives clear) ∷ (room 0 [] [] 5 [] gives list [])
    ∷ []

-- THE CHECK
pub starred : map (λ (x : Example). told x.question) table ≡ map (λ (x : Example). x.answer) table
unfolding table run stroke_code none_twice state_all names_from shape_fault lone_fault lists_code together book_holds zeros no_clues states_of fault_of count sorted_once
starred = refl

-- the calls of the file of SPEC 7.9 (decided, decided, a fault of five entries, undone), with refused calls among them that change nothing
file : replies (fresh_of Translates 1 3 [] (no_clue ∷ []))
    (undo ∷ decide 0 true ∷ decide 2 true ∷ ask [] ∷ decide 0 false ∷ decide 1 false ∷ ask (replicate 28 9) ∷ undo ∷ [])
    ≡ coded 5 ∷ coded 0 ∷ coded 3 ∷ asked (record { answer = Refused 6; buffer = [] }) ∷ coded 4 ∷ coded 0
    ∷ asked (record { answer = Fault Shape 5; buffer = 2 ∷ 2 ∷ 1 ∷ 1 ∷ 1 ∷ replicate 23 9 }) ∷ coded 0 ∷ []
unfolding replies stroke_code none_twice state_all names_from clear_all start_of lists_code together book_holds zeros no_clues states_of fault_of count
file = refl

-- the same two borders as one stroke (SPEC 12): refused are then a missing border beside a drawn one (3), a drawn one twice (14) and a drawn one (4);
-- an empty stroke is accepted and not kept, so that one undo takes both borders back and a second finds nothing (5)
strokes : replies (fresh_of Translates 1 3 [] (no_clue ∷ []))
    (stroke (1 ∷ 2 ∷ []) ∷ ask (replicate 28 9) ∷ stroke (0 ∷ 4 ∷ []) ∷ stroke (0 ∷ 1 ∷ []) ∷ stroke (0 ∷ []) ∷ stroke [] ∷ undo ∷ undo ∷ [])
    ≡ coded 0 ∷ asked (record { answer = Fault Shape 5; buffer = 2 ∷ 2 ∷ 1 ∷ 1 ∷ 1 ∷ replicate 23 9 }) ∷ coded 3 ∷ coded 14 ∷ coded 4 ∷ coded 0 ∷ coded 0 ∷ coded 5 ∷ []
unfolding replies stroke_code none_twice state_all names_from clear_all start_of lists_code together book_holds zeros no_clues states_of fault_of count
strokes = refl
