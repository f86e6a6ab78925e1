-- Room graphs (SPEC 1.8) and the two numbers of the room count (SPEC 4.14). Assumes nothing.
use Rattle.std.specs.Prelude.{ℕ, zero, suc, ◌+◌, ◌≤◌, ◌<◌, ◌≡◌, ◌⊎◌, Bool, true, false, not, Option, Some, None, List, [], ◌∷◌, eqb, ltb, get_or, length, set}
use Rattle.limits.specs.Limits.{most_cells, most_borders}
use Rattle.lists.specs.Choice.{both, pick}
use Rattle.parts.specs.Parts.{Edge, edge, begun, root, merge}

-- `edges` edges, each between the two vertices that `us` and `vs` name at its number
pub record Graph : Type 0 where
  pub vertices : ℕ
  pub edges : ℕ
  pub us : List ℕ
  pub vs : List ℕ

abbrev pub graph : ℕ → ℕ → List ℕ → List ℕ → Graph
graph n m us vs = record { vertices = n; edges = m; us = us; vs = vs }

-- the graph whose edges are those that have a state
abbrev pub graph_of : ℕ → List ℕ → List ℕ → List ℕ → Graph
graph_of n us vs states = graph n (length states) us vs

abbrev pub edge_at : Graph → ℕ → Edge
edge_at g i = edge (get_or g.us i 0) (get_or g.vs i 0)

-- a list of states, as the state of each edge
abbrev pub states_in : List ℕ → ℕ → ℕ
states_in l i = get_or l i 0

-- every edge is decided
abbrev pub Full : Graph → (ℕ → ℕ) → Type 0
Full g s = (i : ℕ) → i < g.edges → (s i ≡ 1) ⊎ (s i ≡ 2)

abbrev pub is_state : ℕ → ℕ → Bool
is_state k x = eqb x k

abbrev pub is_connected : ℕ → Bool
is_connected k = eqb k 1

abbrev pub not_wall : ℕ → Bool
not_wall k = not (eqb k 2)

-- of the first m edges those whose state passes, the last first
unfoldable pub edges_if : (ℕ → Bool) → Graph → (ℕ → ℕ) → ℕ → List Edge
edges_if p g s zero = []
edges_if p g s (suc m) = pick (p (s m)) (edge_at g m ∷ edges_if p g s m) (edges_if p g s m)

-- how many they are
unfoldable pub passing : (ℕ → Bool) → (ℕ → ℕ) → ℕ → ℕ
passing p s zero = 0
passing p s (suc m) = passing p s m + pick (p (s m)) 1 0

-- how many parts the edges whose state passes make of the vertices
unfoldable pub parts_if : (ℕ → Bool) → Graph → (ℕ → ℕ) → ℕ
unfolding edges_if begun root merge
parts_if p g s = begun (edges_if p g s g.edges) g.vertices

-- the vertex count less one for each Connected edge that unites (SPEC 4.14): what is left is the number of parts
abbrev pub connected_parts : Graph → (ℕ → ℕ) → ℕ
connected_parts g s = parts_if is_connected g s

-- a uniting edge left the number below the count (SPEC 4.14): some edge united, and what is left in the end is below the count
unfoldable pub tipped_of : Graph → ℕ → (ℕ → ℕ) → Bool
unfolding parts_if
tipped_of g count s = both (ltb (connected_parts g s) count) (ltb (connected_parts g s) g.vertices)

-- the parts that the edges without the Walls make (SPEC 4.14)
abbrev pub joined_parts : Graph → (ℕ → ℕ) → ℕ
joined_parts g s = parts_if not_wall g s

-- which side of the count fails (SPEC 4.14), Walls (true) or Connected edges: the Connected edges are looked at first
unfoldable pub failing_of : Graph → ℕ → (ℕ → ℕ) → Option Bool
unfolding tipped_of parts_if
failing_of g count s = pick (tipped_of g count s) (Some false) (pick (ltb count (joined_parts g s)) (Some true) None)

-- an edge of state k between u and v: where it is no Wall, its later end gets a mark
abbrev pub later_marked : ℕ → ℕ → ℕ → List ℕ → List ℕ
later_marked k u v marks = pick (not_wall k) (pick (ltb u v) (set marks v 1) (pick (ltb v u) (set marks u 1) marks)) marks

-- what the functions ask of n vertices and m edges that they are lent
pub record Lent (n m : ℕ) (us vs states : List ℕ) : Type 0 where
  pub few_vertices : n ≤ most_cells
  pub few_edges : m ≤ most_borders
  pub us_long : m ≤ length us
  pub vs_long : m ≤ length vs
  pub states_long : m ≤ length states
  pub us_exist : (i : ℕ) → i < m → get_or us i 0 < n
  pub vs_exist : (i : ℕ) → i < m → get_or vs i 0 < n
