-- Laws of single bits: of `&`, `|`, `^`, `>>`, `1 << j`; and a word that has a bit that another lacks. Assumes nothing.
use Prim.Native.Nat.{ℕ, zero, suc, ◌+◌, ◌/◌, ◌%◌, ◌^◌, ◌<◌, min, max}
use mathlib.Core.Path.{◌≡◌, refl, sym, ap, ◌∙◌, subst}
use mathlib.Core.Logic.{⊎_elim, ◌≢◌}
use mathlib.Core.Bool.{Bool, true, false, xor}
use native.Mathlib.Nat.{add_comm}
use native.Mathlib.Numerals.{add-one}
use native.Mathlib.Omega.{arith}
use borrow.Author.Tests.{eq-eqb, ne_eqb}
use lib.Dec.{eqb}
use lib.Pow.{shr-shr, shr_lt}
use lib.Arith.{lt-one}
use lib.Bits.{bit_and, bit_or, bit_xor, and_step, and_zero_l}
use Rattle.std.specs.Int.{bit_at}
use Rattle.std.proofs.lemmas.Nat.Bits.{bit_at_and, bit_at_or, bit_at_xor, bit_at-zero, bit_at_lowest, bit_at-lt, bit_at-pow_same, bit_at-pow_other}
use Rattle.lists.specs.Choice.{both, either}
use Rattle.lists.proofs.Cases.{eq_or_ne}
use Rattle.lists.proofs.ChoiceLaws.{both_true}
use Rattle.words.specs.Words.{bit}

-- on single digits an operation is that of tests where it is so at the four pairs
digits : (f : ℕ → ℕ → ℕ) (t : Bool → Bool → Bool) → eqb (f 0 0) 1 ≡ t false false → eqb (f 0 1) 1 ≡ t false true → eqb (f 1 0) 1 ≡ t true false → eqb (f 1 1) 1 ≡ t true true
    → (p q : ℕ) → p < 2 → q < 2 → eqb (f p q) 1 ≡ t (eqb p 1) (eqb q 1)
digits f t a b c d zero zero h k = a
digits f t a b c d zero (suc zero) h k = b
digits f t a b c d (suc zero) zero h k = c
digits f t a b c d (suc zero) (suc zero) h k = d
digits f t a b c d zero (suc (suc q)) h k = absurd (omega arith)
digits f t a b c d (suc zero) (suc (suc q)) h k = absurd (omega arith)
digits f t a b c d (suc (suc p)) q h k = absurd (omega arith)

module _ (a b j : ℕ) where
  pub bit_and_lem : bit (bit_and a b) j ≡ both (bit a j) (bit b j)
  unfolding bit
  bit_and_lem = ap (λ (d : ℕ). eqb d 1) (bit_at_and a b j) ∙ digits min both refl refl refl refl (bit_at a j) (bit_at b j) (bit_at-lt a j) (bit_at-lt b j)

  pub bit_or_lem : bit (bit_or a b) j ≡ either (bit a j) (bit b j)
  unfolding bit
  bit_or_lem = ap (λ (d : ℕ). eqb d 1) (bit_at_or a b j) ∙ digits max either refl refl refl refl (bit_at a j) (bit_at b j) (bit_at-lt a j) (bit_at-lt b j)

  pub bit_xor_lem : bit (bit_xor a b) j ≡ xor (bit a j) (bit b j)
  unfolding bit xor
  bit_xor_lem =
      ap (λ (d : ℕ). eqb d 1) (bit_at_xor a b j) ∙ digits (λ p q. (p + q) % 2) xor refl refl refl refl (bit_at a j) (bit_at b j) (bit_at-lt a j) (bit_at-lt b j)

-- "bit x of a moved word = bit x + k of the word"
pub bit_moved : (word k x : ℕ) → bit (word / 2 ^ k) x ≡ bit word (x + k)
unfolding bit
bit_moved word k x = ap (λ (n : ℕ). eqb (n % 2) 1) (shr-shr word k x ∙ ap (λ (n : ℕ). word / 2 ^ n) (add_comm k x))

pub bit_zero : (j : ℕ) → bit 0 j ≡ false
unfolding bit
bit_zero j = ap (λ (d : ℕ). eqb d 1) (bit_at-zero j)

-- the word `1 << i`
pub bit_one : (i j : ℕ) → bit (2 ^ i) j ≡ eqb j i
unfolding bit
bit_one i j =
    ⊎_elim (λ (e : j ≡ i). rw (eq-eqb j i e, e) (ap (λ (d : ℕ). eqb d 1) (bit_at-pow_same i)))
    (λ (n : j ≢ i). rw (ne_eqb j i n) (ap (λ (d : ℕ). eqb d 1) (bit_at-pow_other i j n)))
    (eq_or_ne j i)

-- a word within another has no bit that the other lacks
pub within : (a b x : ℕ) → bit_and a b ≡ a → bit a x ≡ true → bit b x ≡ true
within a b x e h = (both_true (bit a x) (bit b x) (sym (bit_and_lem a b x) ∙ ap (λ (n : ℕ). bit n x) e ∙ h)).1

-- a bit below n that a has and b lacks
pub record Lacks (n a b : ℕ) : Type 0 where
  pub place : ℕ
  pub small : place < n
  pub has : bit a place ≡ true
  pub lacks : bit b place ≡ false

later : (n a b : ℕ) → Lacks n (a / 2) (b / 2) → Lacks (suc n) a b
later n a b r = record { place = r.place + 1; small = omega arith; has = sym (bit_moved a 1 r.place) ∙ r.has; lacks = sym (bit_moved b 1 r.place) ∙ r.lacks }

here : (n a b : ℕ) → bit_and a b ≢ a → bit_and (a / 2) (b / 2) ≡ a / 2 → Lacks (suc n) a b
unfolding bit
here n a b k e =
    let p : bit_at a 0 ≡ 1 = omega (arith, and_step a b, bit_at_lowest a) in
    let q : bit_at b 0 ≡ 0 = omega (arith, and_step a b, bit_at_lowest b) in
    record { place = 0; small = omega arith; has = ap (λ (d : ℕ). eqb d 1) p; lacks = ap (λ (d : ℕ). eqb d 1) q }

pub left_out : (n a b : ℕ) → a < 2 ^ n → bit_and a b ≢ a → Lacks n a b
left_out zero a b h k = absurd (k (rw (lt-one h) (and_zero_l b)))
left_out (suc n) a b h k =
    ⊎_elim (here n a b k)
    (λ (m : bit_and (a / 2) (b / 2) ≢ a / 2). later n a b (left_out n (a / 2) (b / 2) (shr_lt n 1 (subst (λ (e : ℕ). a < 2 ^ e) (sym (add-one n)) h)) m))
    (eq_or_ne (bit_and (a / 2) (b / 2)) (a / 2))
