-- What the inner functions ask of the parents that they are lent. Assumes nothing.
use Rattle.std.specs.Prelude.{ℕ, ◌<◌, ◌≤◌, List}
use Rattle.limits.specs.Limits.{most_cells}
use Rattle.union_find.specs.Chains.{up, climb}

-- x's chain stays on the array
abbrev pub Stays : List ℕ → ℕ → Type 0
Stays p x = (d : ℕ) → climb d p x < most_cells

-- n vertices, and each one's parent is one of them
pub record Parents (n : ℕ) (p : List ℕ) : Type 0 where
  pub bound : n ≤ most_cells
  pub below : (x : ℕ) → x < n → up p x < n
