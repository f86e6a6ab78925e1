-- The numbers of a list: how many there are, the k-th, and the loop that copies them. Assumes nothing.
use Prim.Native.Nat.{ℕ, zero, suc, ◌+◌, ◌*◌, ◌-◌, ◌/◌, ◌≤◌, ◌<◌, min}
use mathlib.Core.Path.{◌≡◌, refl, ap, ◌∙◌}
use mathlib.Core.List.{List, [], ◌∷◌, ◌++◌, append-nil}
use native.Mathlib.Omega.{arith}
use native.Mathlib.Numerals.{add-one}
use lib.ListN.{length, get_or, set, take, drop, length-take, length-drop, drop_of_length-le}
use lib.Dec.{leb}
use lib.Seq.{drop-cons, sets, sets-eq, length-take-le, get_or-take, get_or-drop}
use Rattle.lists.proofs.SetsLaws.{front_written}
use borrow.Author.Tests.{le-leb}
use Rattle.lists.specs.Choice.{pick}
use Rattle.answers.specs.Answers.{refused, listed, written}
use Rattle.case_file.specs.Sound.{words_of}
use Rattle.case_file.specs.Layout.{word_at, numbers_at}

words_count : (l : List ℕ) → length (words_of l) ≡ length l / 2
unfolding words_of
words_count [] = refl
words_count (a ∷ []) = refl
words_count (a ∷ b ∷ r) = omega (arith, words_count r)

words_at : (l : List ℕ) (k : ℕ) → 2 * k + 1 < length l → get_or (words_of l) k 0 ≡ word_at l (2 * k)
unfolding words_of
words_at [] k h = absurd (omega arith)
words_at (a ∷ []) k h = absurd (omega arith)
words_at (a ∷ b ∷ r) zero h = refl
words_at (a ∷ b ∷ r) (suc k) h =
    let e : 2 * suc k ≡ suc (suc (2 * k)) = omega arith in
    let f : 2 * suc k + 1 ≡ suc (suc (2 * k + 1)) = omega arith in
    rw (f, e) (words_at r k (omega arith))

module _ (bs : List ℕ) (at count : ℕ) where
  pub numbers_count : length (numbers_at bs at count) ≡ min (2 * count) (length bs - at) / 2
  numbers_count = words_count (take (2 * count) (drop at bs)) ∙ simp (length-take, length-drop)

  -- a number below the count stands in the file
  pub number_in : (k : ℕ) {n : ℕ} → k < n → n ≡ length (numbers_at bs at count) → at + 2 * k + 1 < length bs
  number_in k h e = omega (arith, numbers_count)

  byte_in : (i : ℕ) → i < 2 * count → get_or (take (2 * count) (drop at bs)) i 0 ≡ get_or bs (at + i) 0
  byte_in i h = get_or-take (2 * count) (drop at bs) i 0 h ∙ get_or-drop at bs i 0

  pub number_at : (k : ℕ) {n : ℕ} → k < n → n ≡ length (numbers_at bs at count) → get_or (numbers_at bs at count) k 0 ≡ word_at bs (at + 2 * k)
  number_at k h n_is =
      let l : length (take (2 * count) (drop at bs)) ≡ min (2 * count) (length bs - at) = simp (length-take, length-drop) in
      let e : at + (2 * k + 1) ≡ at + 2 * k + 1 = omega arith in
      words_at (take (2 * count) (drop at bs)) k (omega (arith, numbers_count))
      ∙ rw (byte_in (2 * k) (omega (arith, numbers_count)), byte_in (2 * k + 1) (omega (arith, numbers_count)), e)

-- The loop that copies the numbers xs: the rest of them, stored from place k on, gives all of them stored from place 0 on.
pub record Copying (xs out₀ out : List ℕ) (k : ℕ) : Type 0 where
  pub left : sets out k (drop k xs) ≡ sets out₀ 0 xs

module _ {xs out₀ out : List ℕ} {k : ℕ} (f : Copying xs out₀ out k) where
  pub copying_next : (v : ℕ) {n : ℕ} → k < n → n ≡ length xs → v ≡ get_or xs k 0 → Copying xs out₀ (set out k v) (k + 1)
  copying_next v h n_is e = record {
    left =
        let q : drop k xs ≡ v ∷ drop (suc k) xs = rw e (drop-cons xs k 0 (omega arith)) in
        rw add-one (rw q at f.left);
  }

  -- the end of the loop over the front of a buffer: all are copied
  pub copied : (buf : List ℕ) {n : ℕ} → n ≡ length xs → n ≤ length buf → out₀ ≡ take n buf → n ≤ k
      → out ++ drop n buf ≡ written (pick (leb (length xs) (length buf)) (listed xs) (refused 6)) buf
  copied buf {n} e h q l =
      let d : length xs ≤ k = omega arith in
      let full : length out₀ ≡ length xs = ap length q ∙ length-take-le n buf h ∙ e in
      let whole : sets out₀ 0 xs ≡ xs = sets-eq xs out₀ 0 (omega arith) ∙ ap (λ r. xs ++ r) (drop_of_length-le out₀ (omega arith)) ∙ append-nil xs in
      let o : out ≡ xs = rw (drop_of_length-le xs d) at f.left ∙ whole in
      rw (le-leb (length xs) (length buf) (omega arith), o, e) (front_written buf xs (omega arith))
