-- Each reader at a byte of the file: what it finds there and where it leaves off, or that the bytes end too soon. Assumes nothing.
use Prim.Native.Nat.{ℕ, zero, suc, ◌+◌, ◌*◌, ◌≤◌, ◌<◌}
use mathlib.Core.Path.{◌≡◌, refl, ap, ◌∙◌}
use mathlib.Core.Logic.{⊎_elim, ◌≢◌}
use mathlib.Core.List.{List, [], ◌∷◌}
use mathlib.Core.Option.{none, some}
use native.Mathlib.Omega.{arith}
use native.Mathlib.Numerals.{add-one}
use borrow.Author.Tests.{ne_eqb, le-leb, lt-leb}
use lib.Dec.{eqb}
use lib.ListN.{length, get_or, take, drop, length-drop, drop_of_length-le}
use lib.Seq.{drop-cons, drop-drop}
use Rattle.lists.specs.Choice.{give, through}
use Rattle.lists.proofs.Cases.{le_or_lt, eq_or_ne}
use Rattle.case_file.specs.declared.Call.TheVariants.{Undo, Decide, Ask}
use Rattle.case_file.specs.Sound.{byte_of, word_of, words_of, many_of, decide_of, kind_of, call_of}
use Rattle.std.specs.Prelude.{Some}
use Rattle.case_file.specs.Layout.{word_at, numbers_at, behind_at}

module _ (bs : List ℕ) (at : ℕ) where
  pub byte_at : at < length bs → byte_of (drop at bs) ≡ some (get_or bs at 0, drop (at + 1) bs)
  unfolding byte_of
  byte_at h = rw (add-one, drop-cons bs at 0 h)

  pub byte_out : length bs ≤ at → byte_of (drop at bs) ≡ none
  unfolding byte_of
  byte_out h = rw (drop_of_length-le bs h)

  pub word_at_lem : at + 1 < length bs → word_of (drop at bs) ≡ some (word_at bs at, drop (at + 2) bs)
  unfolding word_of
  word_at_lem h =
      let e : at + 2 ≡ suc (suc at) = omega arith in
      let f : at + 1 ≡ suc at = omega arith in
      rw (e, f, drop-cons bs at 0 (omega arith), drop-cons bs (suc at) 0 (omega arith))

  pub word_out : length bs ≤ at + 1 → word_of (drop at bs) ≡ none
  unfolding word_of
  word_out h =
      ⊎_elim
      (λ (k : length bs ≤ at). rw (drop_of_length-le bs k))
      (λ (k : at < length bs). let g : length bs ≤ suc at = omega arith in rw (drop-cons bs at 0 k, drop_of_length-le bs g))
      (le_or_lt (length bs) at)

module _ (bs : List ℕ) (at n : ℕ) where
  pub many_at : at + 2 * n ≤ length bs → many_of n (drop at bs) ≡ some (numbers_at bs at n, drop (at + 2 * n) bs)
  unfolding many_of give
  many_at h =
      let l : 2 * n ≤ length (drop at bs) = simp length-drop (omega arith) in
      simp (le-leb _ _ l, drop-drop)

  pub many_out : length bs < at + 2 * n → at ≤ length bs → many_of n (drop at bs) ≡ none
  unfolding many_of give
  many_out h k =
      let l : length (drop at bs) < 2 * n = simp length-drop (omega arith) in
      simp (lt-leb _ _ l)

two_more : (n : ℕ) → 2 * suc n ≡ suc (suc (2 * n))
two_more n = omega arith

pub words_length : (n : ℕ) (bs : List ℕ) → 2 * n ≤ length bs → length (words_of (take (2 * n) bs)) ≡ n
unfolding words_of
words_length zero bs h = refl
words_length (suc n) [] h = absurd (omega arith)
words_length (suc n) (a ∷ []) h = absurd (omega arith)
words_length (suc n) (a ∷ b ∷ r) h = rw (two_more n) (ap suc (words_length n r (omega arith)))

pub numbers_length : (bs : List ℕ) (at n : ℕ) → at + 2 * n ≤ length bs → length (numbers_at bs at n) ≡ n
numbers_length bs at n h = words_length n (drop at bs) (simp length-drop (omega arith))

-- a call's kind
kind_undo : (k : ℕ) (r : List ℕ) → k ≡ 0 → kind_of k r ≡ some (Undo, r)
unfolding kind_of
kind_undo k r e = rw e

kind_ask : (k : ℕ) (r : List ℕ) → k ≡ 3 → kind_of k r ≡ some (Ask, r)
unfolding kind_of
kind_ask k r e = rw e

kind_decide : (k : ℕ) (r : List ℕ) → k ≢ 0 → k ≢ 3 → k ≤ 3 → kind_of k r ≡ decide_of (eqb k 2) r
unfolding kind_of
kind_decide k r z t h =
    ⊎_elim
    (λ (e : k ≡ 1). rw e)
    (λ (n : k ≢ 1). let e : k ≡ 2 = omega arith in rw e)
    (eq_or_ne k 1)

kind_other : (k : ℕ) (r : List ℕ) → 3 < k → kind_of k r ≡ none
unfolding kind_of
kind_other k r h = simp (ne_eqb k 0 (λ e. omega arith), ne_eqb k 1 (λ e. omega arith), ne_eqb k 2 (λ e. omega arith), ne_eqb k 3 (λ e. omega arith))

module _ (bs : List ℕ) (at : ℕ) where
  pub call_out : length bs ≤ at → call_of (drop at bs) ≡ none
  unfolding call_of through
  call_out h = rw (byte_out bs at h)

  call_kind : at < length bs → call_of (drop at bs) ≡ kind_of (get_or bs at 0) (drop (at + 1) bs)
  unfolding call_of through
  call_kind h = rw (byte_at bs at h)

  pub call_undo : at < length bs → get_or bs at 0 ≡ 0 → call_of (drop at bs) ≡ some (Undo, drop (at + 1) bs)
  call_undo h e = call_kind h ∙ kind_undo (get_or bs at 0) (drop (at + 1) bs) e

  pub call_ask : at < length bs → get_or bs at 0 ≡ 3 → call_of (drop at bs) ≡ some (Ask, drop (at + 1) bs)
  call_ask h e = call_kind h ∙ kind_ask (get_or bs at 0) (drop (at + 1) bs) e

  -- a kind that is neither a decide's nor unsound is a call of one byte
  pub call_short : at < length bs → get_or bs at 0 ≤ 3 → get_or bs at 0 ≢ 1 → get_or bs at 0 ≢ 2 → Some (at + 1) ≡ behind_at at (call_of (drop at bs))
  call_short h l a b =
      ⊎_elim
      (λ (e : get_or bs at 0 ≡ 0). simp (call_undo h e))
      (λ (z : get_or bs at 0 ≢ 0). let e : get_or bs at 0 ≡ 3 = omega arith in simp (call_ask h e))
      (eq_or_ne (get_or bs at 0) 0)

  pub call_other : at < length bs → 3 < get_or bs at 0 → call_of (drop at bs) ≡ none
  call_other h e = call_kind h ∙ kind_other (get_or bs at 0) (drop (at + 1) bs) e

  pub call_cut : length bs < at + 3 → at < length bs → get_or bs at 0 ≢ 0 → get_or bs at 0 ≢ 3 → get_or bs at 0 ≤ 3 → call_of (drop at bs) ≡ none
  unfolding decide_of through
  call_cut l h z t k = call_kind h ∙ kind_decide (get_or bs at 0) (drop (at + 1) bs) z t k ∙ rw (word_out bs (at + 1) (omega arith))

  pub call_decide : at + 3 ≤ length bs → get_or bs at 0 ≢ 0 → get_or bs at 0 ≢ 3 → get_or bs at 0 ≤ 3
      → call_of (drop at bs) ≡ some (Decide (word_at bs (at + 1)) (eqb (get_or bs at 0) 2), drop (at + 3) bs)
  unfolding decide_of through
  call_decide l z t k =
      let e : at + 1 + 2 ≡ at + 3 = omega arith in
      call_kind (omega arith) ∙ kind_decide (get_or bs at 0) (drop (at + 1) bs) z t k ∙ rw (word_at_lem bs (at + 1) (omega arith), e)
