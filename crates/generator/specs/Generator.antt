-- Case files drawn from a seed (SPEC 11.1 to 11.5): the state and its replacement, the calls, the file, and what the call answers. Assumes nothing.
use Rattle.std.specs.Prelude.{ℕ, zero, suc, ◌*◌, ◌/◌, ◌%◌, ◌^◌, ◌<◌, Bool, true, false, List, [], ◌∷◌, eqb, leb, length}
use Rattle.std.specs.Int.Bits.{bit_xor}
use Rattle.limits.specs.Limits.{no_clue}
use Rattle.lists.specs.Choice.{both, pick}
use Rattle.answers.specs.Answers.{Outcome, refused, listed}
use Rattle.grid.specs.declared.Grid.{Grid}
use Rattle.grid.specs.Grid.{grid, sizes_ok, border_count}
use Rattle.case_file.specs.declared.Call.{Call}
use Rattle.case_file.specs.declared.Call.TheVariants.{Undo, Decide, Ask}
use Rattle.case_file.specs.Sound.{Case}
use Rattle.case_file.specs.Encode.{rest, encode}

-- THE STATE, of 32 bits (SPEC 11.1)
-- s xor (s shifted left k), bits beyond 32 dropped
unfoldable pub xor_left : ℕ → ℕ → ℕ
xor_left k s = bit_xor s (s * 2 ^ k % 2 ^ 32)

-- s xor (s shifted right k)
unfoldable pub xor_right : ℕ → ℕ → ℕ
xor_right k s = bit_xor s (s / 2 ^ k)

-- what replaces it: left 13, right 17, left 5, each of the value just computed
unfoldable pub next_state : ℕ → ℕ
next_state s = xor_left 5 (xor_right 17 (xor_left 13 s))

-- THE CALLS: one that is drawn, and the state after it
pub record Drawn : Type 0 where
  pub call : Call
  pub state : ℕ

abbrev pub drawn : Call → ℕ → Drawn
drawn c s = record { call = c; state = s }

-- kinds 1 and 2 (SPEC 11.3): the state is replaced once more, and modulo the border count it is the border. With no borders they become asks,
-- with no second replacement
unfoldable pub decide_from : ℕ → Bool → ℕ → Drawn
decide_from borders wall s = pick (eqb borders 0) (drawn Ask s) (drawn (Decide (next_state s % borders) wall) (next_state s))

-- modulo 4 the state picks the kind (SPEC 11.2): 0 undo, 1 Connected, 2 Wall, 3 ask
unfoldable pub call_from : ℕ → ℕ → Drawn
call_from borders s =
    pick (eqb (s % 4) 0) (drawn Undo s)
    (pick (eqb (s % 4) 1) (decide_from borders false s)
    (pick (eqb (s % 4) 2) (decide_from borders true s)
    (drawn Ask s)))

-- for each call the state is replaced once (SPEC 11.2)
unfoldable pub draw_from : ℕ → ℕ → Drawn
draw_from borders s = call_from borders (next_state s)

-- so many calls, the state at first being the seed (SPEC 11.2)
unfoldable pub calls_from : ℕ → ℕ → ℕ → List Call
calls_from borders zero s = []
calls_from borders (suc n) s = let d = draw_from borders s in d.call ∷ calls_from borders n d.state

-- the border that a call names is one of the first n (SPEC 11.6)
abbrev pub BorderBelow : ℕ → Call → Type 0
BorderBelow n Undo = Unit {0}
BorderBelow n (Decide border wall) = border < n
BorderBelow n Ask = Unit {0}

-- THE FILE of a seed, a size and a count of calls (SPEC 11.4): no given walls, and one room without a clue
abbrev pub case_of : ℕ → Grid → ℕ → Case
case_of seed g n = record { height = g.height; width = g.width; walls = []; clues = no_clue ∷ []; calls = calls_from (border_count g) n seed }

-- question 6 (SPEC 11.5): what stands behind the length is within SPEC 5.1's limit, and the buffer has a place for each byte
abbrev pub fits : Case → ℕ → Bool
fits c places = both (leb (length (rest c)) 60000) (leb (length (encode c)) places)

-- THE CALL (SPEC 11.5): questions 1, 13 and 6, and then the file
abbrev pub generated : ℕ → ℕ → ℕ → ℕ → ℕ → Outcome
generated seed h w n places =
    let c = case_of seed (grid h w) n in
    pick (sizes_ok (grid h w)) (pick (eqb seed 0) (refused 13) (pick (fits c places) (listed (encode c)) (refused 6))) (refused 1)
