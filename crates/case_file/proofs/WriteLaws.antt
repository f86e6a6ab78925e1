-- What is written is read again (`read_written`): every case whose file is short enough, whatever its numbers. Assumes nothing.
use Prim.Native.Nat.{ℕ, ◌+◌, ◌*◌, ◌/◌, ◌%◌, ◌≤◌}
use mathlib.Core.Path.{◌≡◌, refl}
use mathlib.Core.Bool.{true, false}
use mathlib.Core.List.{List, [], ◌∷◌, ◌++◌, append_assoc, append-nil}
use mathlib.Core.Option.{some}
use native.Mathlib.Omega.{arith}
use borrow.Author.Tests.{eq-eqb, le-leb}
use lib.ListN.{length, length-append}
use lib.Seq.{take_at, drop_at}
use Rattle.lists.specs.Choice.{give, through}
use Rattle.lists.specs.Lists.{gather}
use Rattle.case_file.specs.declared.Call.{Call}
use Rattle.case_file.specs.declared.Call.TheVariants.{Undo, Decide, Ask}
use Rattle.case_file.specs.Sound.{Case, byte_of, word_of, words_of, many_of, numbers_of, decide_of, kind_of, call_of, calls_of, call_list_of, lists_of, rest_of, decode_of}
use Rattle.case_file.specs.Encode.{word, call, counted, rest, encode}

value : (n : ℕ) → 256 * (n / 256) + n % 256 ≡ n
value n = omega arith

words_read : (xs : List ℕ) → words_of (gather word xs) ≡ xs
unfolding words_of gather
words_read [] = refl
words_read (x ∷ xs) = rw (value, words_read xs)

words_long : (xs : List ℕ) → length (gather word xs) ≡ 2 * length xs
unfolding gather
words_long [] = refl
words_long (x ∷ xs) = omega (arith, words_long xs)

many_read : (xs r : List ℕ) → many_of (length xs) (gather word xs ++ r) ≡ some (xs, r)
unfolding many_of give
many_read xs r =
    let h : 2 * length xs ≤ length (gather word xs ++ r) = simp length-append (omega (arith, words_long xs)) in
    simp (le-leb _ _ h, take_at (gather word xs) r (2 * length xs) (words_long xs), drop_at (gather word xs) r (2 * length xs) (words_long xs), words_read)

numbers_read : (xs r : List ℕ) → numbers_of (counted word xs ++ r) ≡ some (xs, r)
unfolding numbers_of word_of through counted
numbers_read xs r = rw (value (length xs)) (many_read xs r)

call_read : (c : Call) (r : List ℕ) → call_of (call c ++ r) ≡ some (c, r)
unfolding call_of byte_of word_of kind_of decide_of through
call_read Undo r = refl
call_read (Decide b true) r = rw (value b)
call_read (Decide b false) r = rw (value b)
call_read Ask r = refl

calls_read : (cs : List Call) (r : List ℕ) → calls_of (length cs) (gather call cs ++ r) ≡ some (cs, r)
unfolding calls_of gather through
calls_read [] r = refl
calls_read (c ∷ cs) r = rw (append_assoc (call c) (gather call cs) r, call_read c (gather call cs ++ r), calls_read cs r)

list_read : (cs : List Call) → call_list_of (counted call cs) ≡ some (cs, [])
unfolding call_list_of word_of through counted
list_read cs = rw (value (length cs)) (rw (append-nil (gather call cs)) at (calls_read cs []))

rest_read : (f : Case) → rest_of (rest f) ≡ some f
unfolding rest_of byte_of lists_of through give rest
rest_read f =
    simp
    (numbers_read f.walls (counted word f.clues ++ counted call f.calls), numbers_read f.clues (counted call f.calls), list_read f.calls)

-- the file of a case is read as that case
pub read_written : (f : Case) → length (rest f) ≤ 60000 → decode_of (encode f) ≡ some f
unfolding decode_of byte_of word_of through encode
read_written f h = rw (value (length (rest f))) (simp (eq-eqb (length (rest f)) (length (rest f)) refl, le-leb (length (rest f)) 60000 h) (rest_read f))
