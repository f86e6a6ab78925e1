-- The lists of arcs that the walk follows, and what a walk does. An edge is two arcs, one each way. `head` holds, for each vertex, the first
-- arc of its list, and `next` the one after each arc, both one more than the arc's number, and 0 at the list's end; `to` is where an arc leads. Assumes nothing.
use Rattle.std.specs.Prelude.{ℕ, suc, ◌≤◌, ◌<◌, ◌≡◌, List, get_or, length}
use Rattle.limits.specs.Limits.{most_cells}
use Rattle.parts.specs.Parts.{Edge, Within, begun}
use Rattle.parts.specs.Flood.{Link, Flooded, blank}

-- arc j is on the list that begins at `at`
pub data OnList (next : List ℕ) : ℕ → ℕ → Type 0 where
  here : {at j : ℕ} → at ≡ suc j → OnList next at j
  later : {at k j : ℕ} → at ≡ suc k → OnList next (get_or next k 0) j → OnList next at j

-- the lists of n vertices have exactly the links of E, and each list runs through falling numbers
pub record Arcs (E : List Edge) (n : ℕ) (head next to : List ℕ) : Type 0 where
  pub few : n ≤ most_cells
  pub within : Within n E
  pub low : (u j : ℕ) → u < n → OnList next (get_or head u 0) j → (j < 3968) × (get_or next j 0 ≤ j)
  pub sound : (u j : ℕ) → u < n → OnList next (get_or head u 0) j → Link E u (get_or to j 0)
  pub whole : (c d : ℕ) → Link E c d → (j : ℕ) × OnList next (get_or head c 0) j × (get_or to j 0 ≡ d)

-- what a walk from u asks: u has no mark, and no more vertices are without one than the walk may be deep
pub record Walk (head next to seen : List ℕ) (u left : ℕ) : Type 0 where
  pub edges : List Edge
  pub size : ℕ
  pub arcs : Arcs edges size head next to
  pub from : u < size
  pub free : get_or seen u 0 ≡ 0
  pub long : size ≤ length seen
  pub deep : blank 0 size seen ≤ left

-- what it leaves: all that is joined to u is marked 1, and nothing else
abbrev pub Walked : List ℕ → List ℕ → List ℕ → List ℕ → ℕ → List ℕ → Type 0
Walked head next to seen u seen' =
    (E : List Edge) (n : ℕ) → Arcs E n head next to → u < n → n ≤ length seen → get_or seen u 0 ≡ 0 → Flooded E 0 n u 1 seen seen'

-- what a sweep over n vertices asks, and how many parts it counts
pub record Sweep (n : ℕ) (head next to : List ℕ) : Type 0 where
  pub edges : List Edge
  pub arcs : Arcs edges n head next to

abbrev pub Counted : ℕ → List ℕ → List ℕ → List ℕ → ℕ → Type 0
Counted n head next to r = (E : List Edge) → Arcs E n head next to → r ≡ begun E n
