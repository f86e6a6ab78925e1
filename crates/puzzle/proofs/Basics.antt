-- Small laws: states by a function. Assumes nothing.
use Prim.Native.Nat.{ℕ, ◌<◌}
use mathlib.Core.Path.{◌≡◌, ◌∙◌}
use mathlib.Core.List.{List}
use lib.ListN.{length, get_or}
use Rattle.lists.proofs.ListLaws.{table_long, table_at, table_is}
use Rattle.puzzle.specs.Puzzle.{states_of}

pub states_length : (n : ℕ) (s : ℕ → ℕ) → length (states_of n s) ≡ n
unfolding states_of
states_length n s = table_long s n

pub states_at : (n : ℕ) (s : ℕ → ℕ) (e : ℕ) → e < n → get_or (states_of n s) e 0 ≡ s e
unfolding states_of
states_at n s e h = table_at s n e h

-- a list of n states is told by the state at each place
pub states_are : (n : ℕ) (s : ℕ → ℕ) (l : List ℕ) → length l ≡ n → ((e : ℕ) → e < n → get_or l e 0 ≡ s e) → l ≡ states_of n s
unfolding states_of
states_are n s l q h = table_is s n l q h

pub states_same : (n : ℕ) (s t : ℕ → ℕ) → ((e : ℕ) → e < n → s e ≡ t e) → states_of n s ≡ states_of n t
states_same n s t h = states_are n t (states_of n s) (states_length n s) (λ e k. states_at n s e k ∙ h e k)
