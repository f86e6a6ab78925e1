-- One number written at several places of a list. Assumes nothing.
use Rattle.std.specs.Prelude.{ℕ, ◌<◌, List, [], ◌∷◌, set}
use Rattle.lists.specs.Lists.{In}

-- v at each of the places
unfoldable pub puts : List ℕ → ℕ → List ℕ → List ℕ
puts [] v xs = xs
puts (e ∷ l) v xs = puts l v (set xs e v)

-- numbers below n
abbrev pub Below : ℕ → List ℕ → Type 0
Below n xs = (e : ℕ) → In e xs → e < n
