-- The search's own terms: the next border, boards that are written one by one, and what the two functions ask and promise. Assumes nothing.
use Rattle.std.specs.Prelude.{ℕ, suc, ◌+◌, ◌*◌, ◌≤◌, ◌<◌, ◌≡◌, true, List, [], ◌∷◌, eqb, ltb, length, replicate}
use Rattle.std.proofs.lemmas.List.Edits.{sets}
use Rattle.lists.specs.Choice.{pick}
use Rattle.grid.specs.declared.Grid.{Grid}
use Rattle.images.specs.declared.Image.{Image}
use Rattle.grid.specs.Grid.{cells, border_count}
use Rattle.borders.specs.Border.{StatesOk}
use Rattle.enumerate.specs.declared.Listing.{Listing}
use Rattle.enumerate.specs.declared.search.Search.{Search}
use Rattle.enumerate.specs.Boards.{rights}

-- the first undecided border, or how many borders there are
unfoldable pub first_undecided : List ℕ → ℕ
first_undecided [] = 0
first_undecided (s ∷ states) = pick (eqb s 0) 0 (suc (first_undecided states))

-- what the search has written so far
pub record Written : Type 0 where
  pub cap : ℕ
  pub listing : Listing
  pub boards : List ℕ

abbrev pub written : ℕ → Listing → List ℕ → Written
written cap l boards = record { cap = cap; listing = l; boards = boards }

abbrev pub written_in : Search → Written
written_in s = written s.cap s.listing s.boards.now

-- a board more: behind those that are written; or, where the cap is met, there is one more
unfoldable pub add : Written → List ℕ → Written
add w b =
    let l = w.listing in
    pick (ltb l.count w.cap)
    (written w.cap (record { count = l.count + 1; more = l.more }) (sets w.boards (l.count * length b) b))
    (written w.cap (record { count = l.count; more = true }) w.boards)

unfoldable pub add_all : Written → List (List ℕ) → Written
unfolding add
add_all w [] = w
add_all w (b ∷ bs) = add_all (add w b) bs

-- boards of n borders, as many as the cap, have places; there is one more only where the cap is met
pub record Fits (n : ℕ) (w : Written) : Type 0 where
  pub few : w.listing.count ≤ w.cap
  pub long : w.cap * n ≤ length w.boards
  pub met : w.listing.more ≡ true → w.listing.count ≡ w.cap

-- a board's borders as they stand, a buffer for the lists of its asks over these images, and places for the boards
pub record Searching (ms : List Image) (g : Grid) (states list : List ℕ) (w : Written) : Type 0 where
  pub list_long : (length ms + 8) * cells g ≤ length list
  pub each : length states ≡ border_count g
  pub ok : StatesOk g states
  pub fits : Fits (border_count g) w

-- the border is the first undecided one
pub record Trying (border : ℕ) (states : List ℕ) : Type 0 where
  pub first : border ≡ first_undecided states
  pub exists : border < length states

-- what is written when all right boards over these states are
abbrev pub searched : List Image → Grid → List ℕ → List ℕ → List ℕ → Written → Written
searched ms g given clues states w = add_all w (rights ms g given clues states)

-- a step goes by the same rules, and writes to the same slices; the lists of its asks have as many places as before
pub record Kept (before after : Search) : Type 0 where
  pub rules : after.rules ≡ before.rules
  pub list : after.list.ghost_name ≡ before.list.ghost_name
  pub list_long : length after.list.now ≡ length before.list.now
  pub boards : after.boards.ghost_name ≡ before.boards.ghost_name

-- an array of n places for the asks' lists, with nothing written
unfoldable pub no_entries : ℕ → List ℕ
no_entries n = replicate n 0

-- a board's borders as they stand, and places for as many boards as the cap
pub record Started (g : Grid) (states : List ℕ) (cap : ℕ) (boards : List ℕ) : Type 0 where
  pub each : length states ≡ border_count g
  pub ok : StatesOk g states
  pub long : cap * border_count g ≤ length boards
