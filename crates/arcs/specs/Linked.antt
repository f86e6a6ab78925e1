-- The lists of arcs that were put in, and the arcs of edges. Assumes nothing.
use Rattle.std.specs.Prelude.{ℕ, ◌≤◌, ◌<◌, ◌≡◌, List, [], ◌∷◌, get_or, length}
use Rattle.parts.specs.Parts.{Edge, edge, Has, Within}
use Rattle.arcs.specs.Walk.{OnList}

-- A's arcs, k of them, are on the lists of their first ends, and each list runs through falling numbers
pub record Linked (A : List Edge) (n k : ℕ) (head next to : List ℕ) : Type 0 where
  pub within : Within n A
  pub tops : (u : ℕ) → u < n → get_or head u 0 ≤ k
  pub falls : (j : ℕ) → j < k → get_or next j 0 ≤ j
  pub sound : (u j : ℕ) → u < n → OnList next (get_or head u 0) j → Has A u (get_or to j 0)
  pub whole : (c d : ℕ) → Has A c d → (j : ℕ) × OnList next (get_or head c 0) j × (get_or to j 0 ≡ d)
  pub head_long : n ≤ length head
  pub next_long : 3968 ≤ length next
  pub to_long : 3968 ≤ length to

-- the arcs of edges: each edge both ways
unfoldable pub arcs_of : List Edge → List Edge
arcs_of [] = []
arcs_of (e ∷ E) = edge e.other e.one ∷ e ∷ arcs_of E
