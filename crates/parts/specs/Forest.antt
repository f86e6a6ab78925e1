-- A forest that tells parts apart: each vertex has a parent that is no greater, and a vertex that is its own parent is the first of its part. Assumes nothing.
use Rattle.std.specs.Prelude.{ℕ, ◌+◌, ◌≤◌, ◌<◌, ◌≡◌, List, get_or, length}
use Rattle.parts.specs.Parts.{Edge, root, begun, part}

-- each of the first n vertices has a parent, which is no greater
pub record Upward (n : ℕ) (up : List ℕ) : Type 0 where
  pub long : n ≤ length up
  pub below : (c : ℕ) → c < n → get_or up c 0 ≤ c

-- a parent is in its vertex's part
pub record Forest (E : List Edge) (n : ℕ) (up : List ℕ) : Type 0 where
  pub upward : Upward n up
  pub inside : (c : ℕ) → c < n → root E (get_or up c 0) ≡ root E c
  pub tops : (c : ℕ) → c < n → get_or up c 0 ≡ c → root E c ≡ c

-- r is the first vertex of c's part, whatever edges the forest stands for
abbrev pub FirstOf : List ℕ → ℕ → ℕ → Type 0
FirstOf up c r = (E : List Edge) → Forest E (c + 1) up → r ≡ root E c

-- the first c vertices have the numbers of their parts, of which `count` begin there
pub record Numbers (E : List Edge) (c : ℕ) (ids : List ℕ) (count : ℕ) : Type 0 where
  pub count_is : count ≡ begun E c
  pub are : (x : ℕ) → x < c → get_or ids x 0 ≡ part E x
