-- What marks keep while the parts of E are flooded one after the other, in the order of their first vertices.
-- `marks` has a number for each vertex, `free` where the vertex has no mark yet. The flood from s gives the mark k to all that is joined to s. Assumes nothing.
use Rattle.std.specs.Prelude.{ℕ, zero, suc, ◌+◌, ◌≤◌, ◌<◌, ◌≡◌, ◌⊎◌, ◌≢◌, List, get_or, length, eqb}
use Rattle.lists.specs.Choice.{pick}
use Rattle.parts.specs.Parts.{Edge, Has, Joined, root, begun}

abbrev pub HasMark : ℕ → List ℕ → ℕ → Type 0
HasMark free marks c = get_or marks c 0 ≢ free

-- an edge, either way
abbrev pub Link : List Edge → ℕ → ℕ → Type 0
Link E c d = Has E c d ⊎ Has E d c

-- how many of the first n vertices have no mark
unfoldable pub blank : ℕ → ℕ → List ℕ → ℕ
blank free zero marks = 0
blank free (suc n) marks = blank free n marks + pick (eqb (get_or marks n 0) free) 1 0

-- A flood from s has come from `marks` to `marks'`: what it marked is joined to s, and all neighbours of that are marked too, but for open vertices
pub record Grown (E : List Edge) (free n s k : ℕ) (Open : ℕ → Type 0) (marks marks' : List ℕ) : Type 0 where
  pub keeps : (c : ℕ) → HasMark free marks c → get_or marks' c 0 ≡ get_or marks c 0
  pub new : (c : ℕ) → c < n → HasMark free marks' c → HasMark free marks c ⊎ ((get_or marks' c 0 ≡ k) × Joined E s c)
  pub shut : (c d : ℕ) → Link E c d → HasMark free marks' c → HasMark free marks c ⊎ (HasMark free marks' d ⊎ Open c)
  pub here : HasMark free marks' s
  pub rest : (c : ℕ) → n ≤ c → get_or marks' c 0 ≡ get_or marks c 0
  pub size : length marks' ≡ length marks
  pub long : n ≤ length marks'

-- A flood that is over
abbrev pub Flooded : List Edge → ℕ → ℕ → ℕ → ℕ → List ℕ → List ℕ → Type 0
Flooded E free n s k marks marks' = Grown E free n s k (λ (c : ℕ). ⊥) marks marks'

-- All vertices below s have been seeds of floods: the parts that begin there, k of them, are marked, and nothing else
pub record Swept (E : List Edge) (free n s k : ℕ) (marks : List ℕ) : Type 0 where
  pub seen : (c : ℕ) → c < n → HasMark free marks c → root E c < s
  pub all : (c : ℕ) → c < s → HasMark free marks c
  pub shut : (c d : ℕ) → Link E c d → HasMark free marks c → HasMark free marks d
  pub count : k ≡ begun E s
  pub long : n ≤ length marks
