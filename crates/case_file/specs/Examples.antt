-- The file of SPEC 7.9, read, and files that are unsound. Assumes nothing.
use Rattle.std.specs.Prelude.{ℕ, ◌≡◌, refl, true, false, List, [], ◌∷◌}
use Rattle.std.proofs.Math.Option.{none, some}
use Rattle.lists.specs.Choice.{give, through}
use Rattle.case_file.specs.declared.Call.TheVariants.{Undo, Decide, Ask}
use Rattle.case_file.specs.Sound.{byte_of, word_of, words_of, many_of, numbers_of, decide_of, kind_of, call_of, calls_of, call_list_of, lists_of, rest_of, decode_of}

-- SPEC 7.9: 01 00 12 01 03 00 00 00 01 FF FF 00 04 02 00 00 01 00 01 03 00
pub bytes : List ℕ
bytes = 1 ∷ 0 ∷ 0x12 ∷ 1 ∷ 3 ∷ 0 ∷ 0 ∷ 0 ∷ 1 ∷ 0xff ∷ 0xff ∷ 0 ∷ 4 ∷ 2 ∷ 0 ∷ 0 ∷ 1 ∷ 0 ∷ 1 ∷ 3 ∷ 0 ∷ []

-- 1 by 3, no given wall, no clue for its one room; Wall on border 0, Connected on border 1, ask, undo
pub example : decode_of bytes ≡ some (record { height = 1; width = 3; walls = []; clues = 65535 ∷ []; calls = Decide 0 true ∷ Decide 1 false ∷ Ask ∷ Undo ∷ [] })
unfolding bytes byte_of word_of words_of many_of numbers_of decide_of kind_of call_of calls_of call_list_of lists_of rest_of decode_of give through
example = refl

-- a byte behind the last call
pub byte_too_many : decode_of (1 ∷ 0 ∷ 9 ∷ 1 ∷ 3 ∷ 0 ∷ 0 ∷ 0 ∷ 0 ∷ 0 ∷ 0 ∷ 7 ∷ []) ≡ none
unfolding byte_of word_of words_of many_of numbers_of decide_of kind_of call_of calls_of call_list_of lists_of rest_of decode_of give through
byte_too_many = refl

-- the same without it, and with no call; no rooms' clues are no matter of the file
pub no_calls : decode_of (1 ∷ 0 ∷ 8 ∷ 1 ∷ 3 ∷ 0 ∷ 0 ∷ 0 ∷ 0 ∷ 0 ∷ 0 ∷ []) ≡ some (record { height = 1; width = 3; walls = []; clues = []; calls = [] })
unfolding byte_of word_of words_of many_of numbers_of decide_of kind_of call_of calls_of call_list_of lists_of rest_of decode_of give through
no_calls = refl

-- a call of kind 4
pub kind_four : decode_of (1 ∷ 0 ∷ 9 ∷ 1 ∷ 3 ∷ 0 ∷ 0 ∷ 0 ∷ 0 ∷ 0 ∷ 1 ∷ 4 ∷ []) ≡ none
unfolding byte_of word_of words_of many_of numbers_of decide_of kind_of call_of calls_of call_list_of lists_of rest_of decode_of give through
kind_four = refl

-- version 2
pub version_two : decode_of (2 ∷ 0 ∷ 8 ∷ 1 ∷ 3 ∷ 0 ∷ 0 ∷ 0 ∷ 0 ∷ 0 ∷ 0 ∷ []) ≡ none
unfolding byte_of word_of words_of many_of numbers_of decide_of kind_of call_of calls_of call_list_of lists_of rest_of decode_of give through
version_two = refl
