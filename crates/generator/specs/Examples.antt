-- Closed examples: the replacement, and the smallest files that tell readings of SPEC 11 apart. Assumes nothing.
use Rattle.std.specs.Prelude.{ℕ, ◌≡◌, refl, List, [], ◌∷◌}
use Rattle.lists.specs.Lists.{gather}
use Rattle.answers.specs.Answers.{Outcome, refused, listed}
use Rattle.case_file.specs.Encode.{counted, rest, encode}
use Rattle.generator.specs.Generator.{xor_left, xor_right, next_state, decide_from, call_from, draw_from, calls_from, generated}

-- each shift is of the value just computed. A state of 0 would stay 0
next_states : (next_state 0 ≡ 0) × (next_state 1 ≡ 270369) × (next_state 270369 ≡ 67634689) × (next_state 4294967295 ≡ 253983)
unfolding next_state xor_left xor_right
next_states = (refl, refl, refl, refl)

-- a head of 13 bytes and then these bytes; a board has one row
abbrev file : ℕ → ℕ → ℕ → List ℕ → Outcome
file width calls long bytes = listed (1 ∷ 0 ∷ long ∷ 1 ∷ width ∷ 0 ∷ 0 ∷ 0 ∷ 1 ∷ 255 ∷ 255 ∷ 0 ∷ calls ∷ bytes)

-- 1 by 1, seed 16: an ask. It would be an undo if each shift were of the old state, or if the kind were taken before the replacement
ask_first : generated 16 1 1 1 14 ≡ file 1 1 11 (3 ∷ [])
unfolding next_state xor_left xor_right decide_from call_from draw_from calls_from counted rest encode gather
ask_first = refl

-- 1 by 2, seed 1: the second call is Connected. It would be a Wall if the shift to the right brought in a sign
no_sign : generated 1 1 2 2 100 ≡ file 2 2 16 (1 ∷ 0 ∷ 0 ∷ 1 ∷ 0 ∷ 0 ∷ [])
unfolding next_state xor_left xor_right decide_from call_from draw_from calls_from counted rest encode gather
no_sign = refl

-- 1 by 1, seed 9: two asks. The second would be an undo if the first, of kind 1 or 2, replaced the state twice
no_borders : generated 9 1 1 2 15 ≡ file 1 2 12 (3 ∷ 3 ∷ [])
unfolding next_state xor_left xor_right decide_from call_from draw_from calls_from counted rest encode gather
no_borders = refl

-- 1 by 3, seed 6: three Walls on border 0 and an undo; seed 7: three asks, and border 1 Connected
four_calls : (generated 6 1 3 4 23 ≡ file 3 4 20 (2 ∷ 0 ∷ 0 ∷ 2 ∷ 0 ∷ 0 ∷ 2 ∷ 0 ∷ 0 ∷ 0 ∷ [])) × (generated 7 1 3 4 19 ≡ file 3 4 16 (3 ∷ 3 ∷ 3 ∷ 1 ∷ 0 ∷ 1 ∷ []))
unfolding next_state xor_left xor_right decide_from call_from draw_from calls_from counted rest encode gather
four_calls = (refl, refl)

-- no calls are a file too. A byte too few is refused
lengths : (generated 1 32 32 0 13 ≡ listed (1 ∷ 0 ∷ 10 ∷ 32 ∷ 32 ∷ 0 ∷ 0 ∷ 0 ∷ 1 ∷ 255 ∷ 255 ∷ 0 ∷ 0 ∷ [])) × (generated 1 32 32 0 12 ≡ refused 6) × (generated 16 1 1 1 13 ≡ refused 6)
unfolding next_state xor_left xor_right decide_from call_from draw_from calls_from counted rest encode gather
lengths = (refl, refl, refl)

-- the sizes are asked for first, then the seed, then the places
order : (generated 0 0 1 1 0 ≡ refused 1) × (generated 0 1 33 1 0 ≡ refused 1) × (generated 0 1 1 1 0 ≡ refused 13)
order = (refl, refl, refl)
