-- The bits of a word, a row of a board in one word, and what codes read of a table of words (SPEC 13.3). Assumes nothing.
use Rattle.std.specs.Prelude.{ℕ, ◌+◌, ◌-◌, ◌/◌, ◌%◌, ◌^◌, ◌≤◌, ◌<◌, ◌≡◌, Bool, List, eqb, leb, ltb, get_or, length}
use Rattle.lists.specs.Choice.{both}
use Rattle.lists.specs.Lists.{In}

-- bit j of a word
unfoldable pub bit : ℕ → ℕ → Bool
bit word j = eqb (word / 2 ^ j % 2) 1

-- the word says of each of w columns x, by bit 32 + x, whether P holds there
abbrev pub Says : ℕ → (ℕ → Bool) → ℕ → Type 0
Says w P word = (x : ℕ) → x < w → bit word (32 + x) ≡ P x

-- and has no other bits
abbrev pub Only : ℕ → (ℕ → Bool) → ℕ → Type 0
Only w P word = (j : ℕ) → bit word j ≡ both (leb 32 j) (both (ltb j (32 + w)) (P (j - 32)))

-- bits 32 up to 32 + w, and no others
abbrev pub Full : ℕ → ℕ → Type 0
Full w word = (j : ℕ) → bit word j ≡ both (leb 32 j) (ltb j (32 + w))

-- a code of 64·r + s reads the word that stands r places further on, moved by s bits: so it says of bit x
abbrev pub reads : List ℕ → ℕ → ℕ → ℕ → Bool
reads table at x e = bit (get_or table (e / 64 + at) 0) (x + e % 64)

-- the codes read within the table, from place `at` on
pub record Readable (table codes : List ℕ) (at : ℕ) : Type 0 where
  pub small : at ≤ 1024
  pub within : (e : ℕ) → In e codes → e / 64 + at < length table
