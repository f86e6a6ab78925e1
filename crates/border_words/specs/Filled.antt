-- Row words of borders in one state, as they are filled. Assumes nothing.
use Rattle.std.specs.Prelude.{ℕ, ◌+◌, ◌≤◌, ◌<◌, ◌≡◌, List, eqb, get_or, length}
use Rattle.words.specs.Words.{Only}

-- bit 32 + x, for `count` borders from one on, says whether the state of border from + x is k; there is no other bit
abbrev pub SideWord : ℕ → ℕ → List ℕ → ℕ → ℕ → Type 0
SideWord from count states k word = Only count (λ x. eqb (get_or states (from + x) 0) k) word

-- these borders have states
pub record Run (from count : ℕ) (states : List ℕ) : Type 0 where
  pub narrow : count ≤ 32
  pub states_long : from + count ≤ length states

-- `rows` words from place `at` on are made, and no other has changed
pub record Filled (word : ℕ → ℕ → Type 0) (rows at : ℕ) (words words' : List ℕ) : Type 0 where
  pub made : (y : ℕ) → y < rows → word y (get_or words' (at + y) 0)
  pub before : (z : ℕ) → z < at → get_or words' z 0 ≡ get_or words z 0
  pub behind : (z : ℕ) → at + rows ≤ z → get_or words' z 0 ≡ get_or words z 0
  pub long : length words' ≡ length words

-- words without bits
abbrev pub Unfilled : List ℕ → Type 0
Unfilled words = (z : ℕ) → ◌≡◌ {A = ℕ} (get_or words z 0) 0
