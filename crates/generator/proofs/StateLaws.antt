-- The state stays within 32 bits, and never becomes 0. Assumes nothing.
use Prim.Native.Nat.{ℕ, zero, suc, ◌+◌, ◌*◌, ◌/◌, ◌%◌, ◌^◌, ◌<◌}
use mathlib.Core.Path.{◌≡◌, refl, sym, ap, ◌∙◌}
use mathlib.Core.Logic.{◌≢◌}
use native.Mathlib.Omega.{arith}
use native.Mathlib.Nat.{mod-lt, div-le_self, lt_of_le_of_lt, add-mul, mul_assoc, mul_comm, mul-one, mod-eq_of_lt, div-add-mod', mul-add-mod_self_right, mul-mod_left, pow-zero, pow-suc}
use lib.Pow.{pow_pos}
use lib.Bits.{bit_xor, xor_lt, xor_add_and, and_le_l, and_le_r}
use Rattle.generator.specs.Generator.{xor_left, xor_right, next_state}

-- two numbers without a bit in which they differ are the same
no_difference : (a b : ℕ) → bit_xor a b ≡ 0 → a ≡ b
no_difference a b e = omega (arith, xor_add_and a b, and_le_l a b, and_le_r a b, e)

-- REMAINDERS: of a product, a factor's own remainder is enough
mod_times : (a b m : ℕ) → (a % m) * b % m ≡ a * b % m
mod_times a b m =
    let e : a * b ≡ (a / m * b) * m + (a % m) * b =
    ap (λ x. x * b) (sym (div-add-mod' a m)) ∙ add-mul (a / m * m) (a % m) b
    ∙ ap (λ x. x + (a % m) * b) (mul_assoc (a / m) m b ∙ ap (λ x. a / m * x) (mul_comm m b) ∙ sym (mul_assoc (a / m) b m)) in
    sym (ap (λ x. x % m) e ∙ mul-add-mod_self_right (a / m * b) m ((a % m) * b))

-- what one factor leaves as it is, its powers leave as it is
powers : (s b m : ℕ) → s < m → s ≡ s * b % m → (n : ℕ) → s ≡ s * b ^ n % m
powers s b m h e zero = sym (ap (λ x. s * x % m) (pow-zero b) ∙ ap (λ x. x % m) (mul-one s) ∙ mod-eq_of_lt h)
powers s b m h e (suc n) =
    e ∙ ap (λ x. x * b % m) (powers s b m h e n) ∙ mod_times (s * b ^ n) b m
    ∙ ap (λ x. x % m) (mul_assoc s (b ^ n) b ∙ ap (λ x. s * x) (sym (pow-suc b n)))

-- and is 0, where one of these is a multiple of m
vanishes : (s b m n c : ℕ) → s < m → s ≡ s * b % m → b ^ n ≡ c * m → s ≡ 0
vanishes s b m n c h e p = powers s b m h e n ∙ ap (λ x. s * x % m) p ∙ ap (λ x. x % m) (sym (mul_assoc s c m)) ∙ mul-mod_left (s * c) m

module _ (s : ℕ) (h : s < 2 ^ 32) where
  pub left_fits : (k : ℕ) → xor_left k s < 2 ^ 32
  unfolding xor_left
  left_fits k = xor_lt 32 s (s * 2 ^ k % 2 ^ 32) h (mod-lt (s * 2 ^ k) (pow_pos 32))

  right_fits : (k : ℕ) → xor_right k s < 2 ^ 32
  unfolding xor_right
  right_fits k = xor_lt 32 s (s / 2 ^ k) h (lt_of_le_of_lt (div-le_self s (2 ^ k)) h)

  left_not_0 : (k n c : ℕ) → (2 ^ k) ^ n ≡ c * 2 ^ 32 → s ≢ 0 → xor_left k s ≢ 0
  unfolding xor_left
  left_not_0 k n c p z e = z (vanishes s (2 ^ k) (2 ^ 32) n c h (no_difference s (s * 2 ^ k % 2 ^ 32) e) p)

  right_not_0 : s ≢ 0 → xor_right 17 s ≢ 0
  unfolding xor_right
  right_not_0 z e = z (omega (arith, no_difference s (s / 2 ^ 17) e))

module _ (s : ℕ) (h : s < 2 ^ 32) where
  abbrev one : ℕ
  one = xor_left 13 s

  one_fits : one < 2 ^ 32
  one_fits = left_fits s h 13

  -- 32 bits
  pub next_fits : next_state s < 2 ^ 32
  unfolding next_state
  next_fits = left_fits (xor_right 17 one) (right_fits one one_fits 17) 5

  -- and not 0: the 7th power of 2 to the 5th, and the 3rd of 2 to the 13th, have no bit within 32
  pub next_not_0 : s ≢ 0 → next_state s ≢ 0
  unfolding next_state
  next_not_0 z = left_not_0 (xor_right 17 one) (right_fits one one_fits 17) 5 7 8 refl (right_not_0 one one_fits (left_not_0 s h 13 3 128 refl z))
