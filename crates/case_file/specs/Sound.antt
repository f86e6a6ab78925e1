-- What a file of bytes says, or that it is unsound (SPEC 5.1 to 5.3). Each reader takes its part off the front and hands on the bytes behind it. Assumes nothing.
use Rattle.std.specs.Prelude.{ℕ, zero, suc, ◌+◌, ◌*◌, Bool, true, false, List, [], ◌∷◌, eqb, leb, length, take, drop}
use Rattle.std.proofs.Math.Option.{Option, none, some}
use Rattle.lists.specs.Choice.{pick, both, give, through}
use Rattle.case_file.specs.declared.Call.{Call}
use Rattle.case_file.specs.declared.Call.TheVariants.{Undo, Decide, Ask}

-- what a sound file says
pub record Case : Type 0 where
  pub height : ℕ
  pub width : ℕ
  pub walls : List ℕ
  pub clues : List ℕ
  pub calls : List Call

unfoldable pub byte_of : List ℕ → Option (ℕ × List ℕ)
byte_of [] = none
byte_of (a ∷ r) = some (a, r)

-- 16 bits, big-endian
unfoldable pub word_of : List ℕ → Option (ℕ × List ℕ)
word_of [] = none
word_of (a ∷ []) = none
word_of (a ∷ b ∷ r) = some (256 * a + b, r)

-- bytes two by two, as numbers of 16 bits
unfoldable pub words_of : List ℕ → List ℕ
words_of [] = []
words_of (a ∷ []) = []
words_of (a ∷ b ∷ r) = (256 * a + b) ∷ words_of r

-- the n numbers at the front, where the bytes reach
unfoldable pub many_of : ℕ → List ℕ → Option (List ℕ × List ℕ)
unfolding words_of give
many_of n r = give (leb (2 * n) (length r)) (words_of (take (2 * n) r), drop (2 * n) r)

-- given walls or clues: a count, and so many numbers of 16 bits (SPEC 5.1)
unfoldable pub numbers_of : List ℕ → Option (List ℕ × List ℕ)
unfolding word_of many_of through
numbers_of bs = through (word_of bs) (λ n. many_of n.0 n.1)

-- a decide's border behind its kind
unfoldable pub decide_of : Bool → List ℕ → Option (Call × List ℕ)
unfolding word_of through
decide_of wall bs = through (word_of bs) (λ b. some (Decide b.0 wall, b.1))

-- a call by its kind: 0 undo, 1 Connected, 2 Wall, 3 ask (SPEC 5.2); another kind is unsound (5.3)
unfoldable pub kind_of : ℕ → List ℕ → Option (Call × List ℕ)
unfolding decide_of
kind_of k r =
    pick (eqb k 0) (some (Undo, r))
    (pick (eqb k 1) (decide_of false r)
    (pick (eqb k 2) (decide_of true r)
    (pick (eqb k 3) (some (Ask, r)) none)))

unfoldable pub call_of : List ℕ → Option (Call × List ℕ)
unfolding byte_of kind_of through
call_of bs = through (byte_of bs) (λ k. kind_of k.0 k.1)

-- the n calls at the front
unfoldable pub calls_of : ℕ → List ℕ → Option (List Call × List ℕ)
unfolding call_of through
calls_of zero bs = some ([], bs)
calls_of (suc n) bs = through (call_of bs) (λ c. through (calls_of n c.1) (λ cs. some (c.0 ∷ cs.0, cs.1)))

-- the calls behind their count (SPEC 5.1)
unfoldable pub call_list_of : List ℕ → Option (List Call × List ℕ)
unfolding word_of calls_of through
call_list_of bs = through (word_of bs) (λ n. calls_of n.0 n.1)

abbrev pub is_end : List ℕ → Bool
is_end [] = true
is_end (a ∷ r) = false

-- given walls, clues and calls, and nothing behind them (SPEC 5.1, 5.3)
unfoldable pub lists_of : ℕ → ℕ → List ℕ → Option Case
unfolding numbers_of call_list_of through give
lists_of height width bs =
    through (numbers_of bs) (λ walls.
    through (numbers_of walls.1) (λ clues.
    through (call_list_of clues.1) (λ calls.
    give (is_end calls.1) (record { height = height; width = width; walls = walls.0; clues = clues.0; calls = calls.0 }))))

-- height and width, a byte each (SPEC 5.1)
unfoldable pub rest_of : List ℕ → Option Case
unfolding byte_of lists_of through
rest_of bs = through (byte_of bs) (λ h. through (byte_of h.1) (λ w. lists_of h.0 w.0 w.1))

-- the version, 1, and the length of the rest, at most 60,000 (SPEC 5.1)
unfoldable pub decode_of : List ℕ → Option Case
unfolding byte_of word_of rest_of through
decode_of bs =
    through (byte_of bs) (λ v.
    through (word_of v.1) (λ n.
    pick (both (eqb v.0 1) (both (eqb n.0 (length n.1)) (leb n.0 60000))) (rest_of n.1) none))
