-- The questions that a puzzle's making puts to its given walls and clues (SPEC 3.3, 3.7, 3.8 and 3.9). Assumes nothing.
use Rattle.std.specs.Prelude.{ℕ, Bool, true, List, [], ◌∷◌, eqb, ltb, leb, length, get_or}
use Rattle.limits.specs.Limits.{no_clue}
use Rattle.lists.specs.Choice.{both, either, pick}
use Rattle.lists.specs.Lists.{range, all}
use Rattle.grid.specs.declared.Grid.{Grid}
use Rattle.grid.specs.Grid.{border_count}
use Rattle.rooms.specs.Rooms.{room_count, room_cells, clue_of}

-- question 3 (SPEC 3.3): every given wall exists
abbrev pub exist : Grid → List ℕ → Bool
exist g given = all (λ e. ltb e (border_count g)) given

-- question 7 (SPEC 3.7)
unfoldable pub rises : List ℕ → Bool
rises [] = true
rises (x ∷ []) = true
rises (x ∷ y ∷ l) = both (ltb x y) (rises (y ∷ l))

-- question 8 (SPEC 3.8)
abbrev pub one_each : Grid → List ℕ → List ℕ → Bool
one_each g given clues = eqb (length clues) (room_count g given)

-- question 9 (SPEC 3.9)
abbrev pub fits_room : Grid → List ℕ → List ℕ → ℕ → Bool
fits_room g given clues r = either (eqb (clue_of clues r) no_clue) (leb (clue_of clues r) (length (room_cells g given r)))

unfoldable pub clues_fit : Grid → List ℕ → List ℕ → Bool
unfolding all range
clues_fit g given clues = all (fits_room g given clues) (range (room_count g given))

-- the number of the question, 8 or 9, that refuses these lists, or 0
abbrev pub rooms_code : Grid → List ℕ → List ℕ → ℕ
rooms_code g given clues = pick (one_each g given clues) (pick (clues_fit g given clues) 0 9) 8

-- the number of the question, 3, 7, 8 or 9, that refuses these lists, or 0
unfoldable pub lists_code : Grid → List ℕ → List ℕ → ℕ
unfolding rises clues_fit all room_count
lists_code g given clues = pick (exist g given) (pick (rises given) (rooms_code g given clues) 7) 3

-- QUESTION 9 BY SIZES, as the code puts it
-- a clue is 65535 or at most its room's size
abbrev pub clue_fits : List ℕ → List ℕ → ℕ → Bool
clue_fits sizes clues r = either (eqb (get_or clues r 0) no_clue) (leb (get_or clues r 0) (get_or sizes r 0))

unfoldable pub all_fit : List ℕ → List ℕ → Bool
unfolding all range
all_fit sizes clues = all (clue_fits sizes clues) (range (length clues))
