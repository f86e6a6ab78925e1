-- A replacement bit by bit: each of its three steps sets a bit where just one of the number and the shifted number has one. Assumes nothing.
use Prim.Native.Nat.{ℕ, ◌+◌, ◌-◌, ◌*◌, ◌/◌, ◌%◌, ◌^◌, ◌≤◌, ◌<◌}
use mathlib.Core.Path.{◌≡◌, sym, ap, ◌∙◌}
use mathlib.Core.Logic.{⊎_elim}
use mathlib.Core.Bool.{Bool, false, xor}
use native.Mathlib.Nat.{add_comm, add-zero}
use borrow.Author.Tests.{le-leb, lt-leb}
use lib.Dec.{eqb, leb}
use Rattle.std.specs.Int.{bit_at}
use Rattle.std.proofs.lemmas.Nat.{pow_pos, shr_split}
use Rattle.std.proofs.lemmas.Nat.Bits.{bit_at-zero, bit_at_above, bit_at_cat_low, bit_at_cat_high}
use Rattle.lists.specs.Choice.{both}
use Rattle.lists.proofs.Cases.{le_or_lt}
use Rattle.words.specs.Words.{bit}
use Rattle.words.proofs.WordLaws.{bit_xor_lem, bit_moved}
use Rattle.generator.specs.Generator.{xor_left, xor_right}
use Rattle.generator.proofs.StateLaws.{left_fits}

abbrev is_one : ℕ → Bool
is_one d = eqb d 1

-- what is cut off at 2 to the n-th keeps its bits below n
cut_bit : (a n j : ℕ) → j < n → bit (a % 2 ^ n) j ≡ bit a j
unfolding bit
cut_bit a n j l = ap is_one (sym (bit_at_cat_low (a / 2 ^ n) n (a % 2 ^ n) j l) ∙ ap (λ (m : ℕ). bit_at m j) (shr_split a n))

module _ (s k j : ℕ) where
  -- a shift to the left: from k on the bits of the number, below it none
  shifted_bit : bit (s * 2 ^ k) j ≡ both (leb k j) (bit s (j - k))
  unfolding bit
  shifted_bit =
      ap (λ (m : ℕ). is_one (bit_at m j)) (sym (add-zero (s * 2 ^ k)))
      ∙ ⊎_elim (λ (l : k ≤ j). rw (le-leb k j l) (ap is_one (bit_at_cat_high s k 0 j (pow_pos k) l)))
      (λ (l : j < k). rw (lt-leb k j l) (ap is_one (bit_at_cat_low s k 0 j l ∙ bit_at-zero j))) (le_or_lt k j)

  -- bit j after a shift to the left: that of the number, or that which stood k places below it
  pub left_bit : j < 32 → bit (xor_left k s) j ≡ xor (bit s j) (both (leb k j) (bit s (j - k)))
  unfolding xor_left
  left_bit l = bit_xor_lem s (s * 2 ^ k % 2 ^ 32) j ∙ ap (xor (bit s j)) (cut_bit (s * 2 ^ k) 32 j l ∙ shifted_bit)

  -- bits beyond 32 are dropped
  pub left_beyond : s < 2 ^ 32 → 32 ≤ j → bit (xor_left k s) j ≡ false
  unfolding bit
  left_beyond h l = ap is_one (bit_at_above (xor_left k s) 32 j (left_fits s h k) l)

  -- bit j after a shift to the right: that of the number, or that which stood k places above it
  pub right_bit : bit (xor_right k s) j ≡ xor (bit s j) (bit s (k + j))
  unfolding xor_right
  right_bit = bit_xor_lem s (s / 2 ^ k) j ∙ ap (xor (bit s j)) (bit_moved s k j ∙ ap (bit s) (add_comm j k))
