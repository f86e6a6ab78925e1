-- All right boards that extend a started puzzle (SPEC 10.1 to 10.4, 14.8): which they are, and what the call answers and writes. Assumes nothing.
use Rattle.std.specs.Prelude.{ℕ, ◌*◌, Bool, true, false, List, [], ◌∷◌, ◌++◌, map, eqb, ltb, leb, length, take, Result, Ok, Err}
use Rattle.std.proofs.Math.Option.{Option, none, some}
use Rattle.std.proofs.lemmas.List.Edits.{sets}
use Rattle.lists.specs.Choice.{pick}
use Rattle.lists.specs.Lists.{count, keep, gather}
use Rattle.grid.specs.declared.Grid.{Grid}
use Rattle.images.specs.declared.Image.{Image}
use Rattle.ledger.specs.Ledger.{first_code}
use Rattle.ledger.specs.Books.{state_at}
use Rattle.puzzle.specs.declared.Puzzle.{Puzzle}
use Rattle.puzzle.specs.Kind.{images_of}
use Rattle.puzzle.specs.Fault.{Found, fault_of}
use Rattle.puzzle.specs.Puzzle.{states_of, grid_of, book_of, borders_of, given_of, clues_of, puzzle_code}
use Rattle.answers.specs.declared.Refusal.{Refusal}
use Rattle.answers.specs.Refusals.{number_of}
use Rattle.enumerate.specs.declared.Listing.{Listing}

-- THE BOARDS, each a list of its borders' states
-- these boards with one border more in front
abbrev pub with_first : ℕ → List (List ℕ) → List (List ℕ)
with_first s boards = map (λ b. s ∷ b) boards

-- all full boards on which what is decided stands, rising, border 0 compared first (SPEC 10.3): an undecided border is Connected and then Wall
unfoldable pub extensions : List ℕ → List (List ℕ)
extensions [] = [] ∷ []
extensions (s ∷ states) = let rest = extensions states in pick (eqb s 0) (with_first 1 rest ++ with_first 2 rest) (with_first s rest)

-- a full board is right exactly if the checks over these images find nothing on it (SPEC 6.10)
abbrev pub is_nothing : Option Found → Bool
is_nothing none = true
is_nothing (some f) = false

unfoldable pub is_right : List Image → Grid → List ℕ → List ℕ → List ℕ → Bool
unfolding fault_of
is_right ms g given clues board = is_nothing (fault_of ms g given clues board)

-- the right ones of them: the answers (SPEC 10.1)
unfoldable pub rights : List Image → Grid → List ℕ → List ℕ → List ℕ → List (List ℕ)
unfolding keep is_right extensions
rights ms g given clues states = keep (is_right ms g given clues) (extensions states)

-- THE CALL
-- the states of a puzzle's borders
abbrev pub states_in : Puzzle → List ℕ
states_in p = states_of (borders_of p) (state_at (book_of p).states)

abbrev pub rights_of : Puzzle → List (List ℕ)
rights_of p = rights (images_of p.kind) (grid_of p) (given_of p) (clues_of p) (states_in p)

-- more undecided borders are refused (SPEC 10.4)
abbrev pub most_undecided : ℕ
most_undecided = 24

-- question 12, and then question 6, which wants a byte for each border of as many boards as the cap
abbrev pub places_code : List ℕ → ℕ → ℕ → ℕ
places_code states cap places = pick (leb (count 0 states) most_undecided) (pick (leb (cap * length states) places) 0 6) 12

-- questions 1, 2, 12 and 6: the number of the one that refuses the call, or 0
abbrev pub boards_code : Puzzle → ℕ → List ℕ → ℕ
boards_code p cap buf = first_code (puzzle_code p) (places_code (states_in p) cap (length buf))

-- what is answered: how many boards were written and whether there are more, or refused with the question's number
pub data Boards : Type 0 where
  Listed : ℕ → Bool → Boards
  Refused : ℕ → Boards

-- an answer, as the case that std's words come to
abbrev pub said : Listing → Boards
said l = Listed l.count l.more

abbrev pub answer_in : Result Listing Refusal → Boards
answer_in (Ok l) = said l
answer_in (Err refusal) = Refused (number_of refusal)

-- what is answered, and what the buffer that is lent holds then
pub record Enumerated : Type 0 where
  pub answer : Boards
  pub buffer : List ℕ

-- as many boards as the cap, one behind the other from the buffer's start on; what stands behind them stays (SPEC 10.2)
abbrev pub listing : List (List ℕ) → ℕ → List ℕ → Enumerated
listing boards cap buf =
    record { answer = Listed (length (take cap boards)) (ltb cap (length boards)); buffer = sets buf 0 (gather (λ b. b) (take cap boards)) }

-- a number refuses, and no byte changes; or the boards are listed
abbrev pub answered : ℕ → List (List ℕ) → ℕ → List ℕ → Enumerated
answered code boards cap buf = pick (eqb code 0) (listing boards cap buf) (record { answer = Refused code; buffer = buf })

abbrev pub boards_of : Puzzle → ℕ → List ℕ → Enumerated
boards_of p cap buf = answered (boards_code p cap buf) (rights_of p) cap buf
