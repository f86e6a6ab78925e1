-- A room's graph (SPEC 1.8). `cs` are the room's cells in row order; `given e` says whether border e is a given wall. Assumes nothing.
use Rattle.std.specs.Prelude.{ℕ, suc, ◌+◌, ◌*◌, ◌/◌, ◌%◌, Bool, true, false, not, List, [], ◌∷◌, map, eqb, ltb, get_or, length}
use Rattle.std.proofs.Math.Option.{Option, none, some}
use Rattle.lists.specs.Choice.{both, when, pick, through}
use Rattle.lists.specs.Lists.{any, gather}
use Rattle.grid.specs.declared.Direction.{Direction}
use Rattle.grid.specs.declared.Grid.{Grid}
use Rattle.grid.specs.Grid.{goes_on, next, border}
use Rattle.grid.specs.Orders.{forward}
use Rattle.borders.specs.Entry.{entry_of}
use Rattle.room_parts.specs.Graph.{Graph, graph, tipped_of, joined_parts, parts_if}
use Rattle.city_count.specs.Fault.{room_fault}
use Rattle.std.specs.Prelude as std
use Rattle.std.specs.Prelude.{Some, None}

-- a border, told from its upper or left cell
pub record Spot : Type 0 where
  pub cell : ℕ
  pub direction : Direction

-- c is one of the cells
unfoldable pub is_in : List ℕ → ℕ → Bool
unfolding any
is_in cs c = any (eqb c) cs

-- there is an edge: that other cell is in the room too, and the border between is no given wall (SPEC 1.8)
unfoldable pub in_room : Grid → (ℕ → Bool) → (ℕ → Bool) → ℕ → Direction → Bool
unfolding goes_on next border
in_room g given room c d = both (goes_on g d c) (both (room (next g d c)) (not (given (border g d c))))

-- the edge from c in that direction, if there is one
unfoldable pub spots_at : Grid → (ℕ → Bool) → List ℕ → ℕ → Direction → List Spot
unfolding when in_room is_in
spots_at g given cs c d = when (in_room g given (is_in cs) c d) (record { cell = c; direction = d })

-- the edges of the cells in row order: for each the one down, then the one right
unfoldable pub spots : Grid → (ℕ → Bool) → List ℕ → List Spot
unfolding gather spots_at
spots g given cs = gather (λ c. gather (spots_at g given cs c) forward) cs

-- the place of a cell among those of its room: its vertex
unfoldable pub place : List ℕ → ℕ → ℕ
place [] c = 0
place (x ∷ xs) c = pick (eqb x c) 0 (suc (place xs c))

-- an edge's two vertices, and its border
abbrev pub from_of : List ℕ → Spot → ℕ
from_of cs s = place cs s.cell

abbrev pub into_of : Grid → List ℕ → Spot → ℕ
into_of g cs s = place cs (next g s.direction s.cell)

abbrev pub border_of : Grid → Spot → ℕ
border_of g s = border g s.direction s.cell

-- the graph of the room
unfoldable pub room_graph : Grid → (ℕ → Bool) → List ℕ → Graph
unfolding spots place next
room_graph g given cs = let ss = spots g given cs in graph (length cs) (length ss) (map (from_of cs) ss) (map (into_of g cs) ss)

-- the board's border of each edge
unfoldable pub room_borders : Grid → (ℕ → Bool) → List ℕ → List ℕ
unfolding spots border
room_borders g given cs = map (border_of g) (spots g given cs)

-- the state of each edge, where border e has the state s e
abbrev pub edge_state : List ℕ → (ℕ → ℕ) → ℕ → ℕ
edge_state borders s i = s (get_or borders i 0)

-- an entry of the graph, as that of the board's border (SPEC 4.15)
abbrev pub on_board : List ℕ → ℕ → ℕ
on_board borders l = 2 * get_or borders (l / 2) 0 + l % 2

-- what the count of the room finds, in board border numbers
unfoldable pub room_list : Grid → (ℕ → Bool) → List ℕ → ℕ → (ℕ → ℕ) → Option (List ℕ)
unfolding through room_fault room_graph room_borders
room_list g given cs count s =
    let borders = room_borders g given cs in
    through (room_fault (room_graph g given cs) count (edge_state borders s)) (λ l. some (map (on_board borders) l))

-- FIND, THEN WRITE: which side of the count fails (SPEC 4.14), Walls or Connected edges, and the entries that are listed then
unfoldable pub side_of : Graph → ℕ → (ℕ → ℕ) → std.Option Bool
unfolding tipped_of parts_if
side_of graph count s = pick (tipped_of graph count s) (Some false) (pick (ltb count (joined_parts graph s)) (Some true) None)

-- Wall or Connected, as a state
abbrev pub kind_of : Bool → ℕ
kind_of wall = pick wall 2 1

-- the entries of the room's Walls, or of its Connected edges, where border e has the state s e
unfoldable pub room_entries : Grid → (ℕ → Bool) → List ℕ → Bool → (ℕ → ℕ) → List ℕ
unfolding gather when
room_entries g given cs wall s = gather (λ x. when (eqb (s (border_of g x)) (kind_of wall)) (entry_of wall (border_of g x))) (spots g given cs)

abbrev pub side_list : Grid → (ℕ → Bool) → List ℕ → (ℕ → ℕ) → std.Option Bool → Option (List ℕ)
side_list g given cs s None = none
side_list g given cs s (Some wall) = some (room_entries g given cs wall s)
