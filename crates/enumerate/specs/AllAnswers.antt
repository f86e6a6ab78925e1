-- What is promised of the boards (SPEC 10.5 to 10.7, 14.8), in terms of the laws and the standing borders alone. Assumes nothing.
use Rattle.std.specs.Prelude.{ℕ, zero, suc, ◌*◌, ◌≤◌, ◌<◌, ◌≡◌, ◌⊎◌, ◌≢◌, ◌↔◌, Bool, true, List, [], ◌∷◌, length, take, drop}
use Rattle.lists.specs.Lists.{In}
use Rattle.frame.specs.Frame.{States}
use Rattle.grid.specs.declared.Grid.{Grid}
use Rattle.images.specs.declared.Image.{Image}
use Rattle.grid.specs.Grid.{border_count}
use Rattle.borders.specs.Border.{state_of}
use Rattle.shape.specs.Laws.{FullBoard}
use Rattle.demand_3.specs.Laws.{RightBoard}

-- a board is an answer of a grid on which s stands (SPEC 10.1): a state for each border, none undecided, what is decided stands, and all four laws hold,
-- the third by these images (SPEC 14.3)
pub record IsAnswer (ms : List Image) (g : Grid) (given clues : List ℕ) (s : States) (b : List ℕ) : Type 0 where
  pub each : length b ≡ border_count g
  pub full : FullBoard g (state_of b)
  pub extends : (e : ℕ) → e < border_count g → s e ≢ 0 → state_of b e ≡ s e
  pub right : RightBoard ms g given clues (state_of b)

-- there is an answer, and no other
pub record JustOne (ms : List Image) (g : Grid) (given clues : List ℕ) (s : States) : Type 0 where
  pub board : List ℕ
  pub answer : IsAnswer ms g given clues s board
  pub only : (b : List ℕ) → IsAnswer ms g given clues s b → b ≡ board

-- b comes before c (SPEC 10.3): in the first border in which they differ, border 0 compared first, b's state is the lower one
pub record Before (b c : List ℕ) : Type 0 where
  pub at : ℕ
  pub alike : (e : ℕ) → e < at → state_of b e ≡ state_of c e
  pub lower : state_of b at < state_of c at

-- each board comes before all behind it, so none stands twice
abbrev pub Rising : List (List ℕ) → Type 0
Rising [] = Unit {0}
Rising (b ∷ bs) = ((c : List ℕ) → In c bs → Before b c) × Rising bs

-- the first k boards of a buffer, each of n bytes
unfoldable pub boards_in : ℕ → ℕ → List ℕ → List (List ℕ)
boards_in n zero buf = []
boards_in n (suc k) buf = take n buf ∷ boards_in n k (drop n buf)

-- THE PROMISE, where `boards` are written and `more` is said
pub record AllAnswers (ms : List Image) (g : Grid) (given clues : List ℕ) (s : States) (cap : ℕ) (boards : List (List ℕ)) (more : Bool) : Type 0 where
  -- at most as many as the cap, all of them answers, rising and each once
  pub most : length boards ≤ cap
  pub only : (b : List ℕ) → In b boards → IsAnswer ms g given clues s b
  pub rising : Rising boards
  -- none is left out below the cap; where the cap is met, what is left out comes behind all that are written
  pub whole : (b : List ℕ) → IsAnswer ms g given clues s b → In b boards ⊎ ((length boards ≡ cap) × ((c : List ℕ) → In c boards → Before c b))
  -- more is said exactly when an answer is not written
  pub beyond : (more ≡ true) ↔ ((b : List ℕ) × IsAnswer ms g given clues s b × (In b boards → ⊥))

-- what an accepted call leaves in a buffer that had buf: the boards at its front, and all bytes behind them as they were
pub record Fulfilled (ms : List Image) (g : Grid) (given clues : List ℕ) (s : States) (cap : ℕ) (buf : List ℕ) (count : ℕ) (more : Bool) (buf' : List ℕ) : Type 0 where
  pub answers : AllAnswers ms g given clues s cap (boards_in (border_count g) count buf') more
  pub behind : drop (count * border_count g) buf' ≡ drop (count * border_count g) buf
