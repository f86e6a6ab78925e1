-- A list that is written to a lent buffer from a place on. Assumes nothing.
use Rattle.std.specs.Prelude.{ℕ, ◌+◌, ◌≡◌, List, length}
use Rattle.std.proofs.lemmas.List.Edits.{sets}

-- xs stands in the buffer from place `at` on, all else is as it was, and `at'` is the place behind xs
pub record Appended (buf : List ℕ) (at : ℕ) (xs buf' : List ℕ) (at' : ℕ) : Type 0 where
  pub place : at' ≡ at + length xs
  pub stored : buf' ≡ sets buf at xs
