-- How many of the numbers below n pass a test. Assumes nothing.
use Prim.Native.Nat.{ℕ, zero, suc, ◌+◌, ◌≤◌, ◌<◌}
use mathlib.Core.Path.{◌≡◌, refl}
use mathlib.Core.Logic.{⊎_elim}
use mathlib.Core.Bool.{Bool, true, false}
use native.Mathlib.Omega.{arith}
use Rattle.lists.specs.Choice.{pick}
use Rattle.lists.proofs.Cases.{le_or_lt}

unfoldable pub tally : (ℕ → Bool) → ℕ → ℕ
tally t zero = 0
tally t (suc n) = tally t n + pick (t n) 1 0

one_le : (a : Bool) → pick a 1 0 ≤ 1
one_le true = omega arith
one_le false = omega arith

pub tally_le : (t : ℕ → Bool) (n : ℕ) → tally t n ≤ n
unfolding tally
tally_le t zero = omega arith
tally_le t (suc n) = omega (arith, tally_le t n, one_le (t n))

pick_sub : (a b : Bool) → (a ≡ true → b ≡ true) → pick a 1 0 ≤ pick b 1 0
pick_sub true b h = rw (h refl) (omega arith)
pick_sub false b h = omega arith

-- a test that lets more pass counts more
pub tally_sub : (s t : ℕ → Bool) (n : ℕ) → ((x : ℕ) → x < n → s x ≡ true → t x ≡ true) → tally s n ≤ tally t n
unfolding tally
tally_sub s t zero h = omega arith
tally_sub s t (suc n) h = omega (arith, tally_sub s t n (λ x l. h x (omega arith)), pick_sub (s n) (t n) (h n (omega arith)))

pub tally_more : (s t : ℕ → Bool) (n : ℕ) → ((x : ℕ) → x < n → s x ≡ true → t x ≡ true) → (y : ℕ) → y < n → s y ≡ false → t y ≡ true
    → tally s n < tally t n
unfolding tally
tally_more s t zero h y l f g = omega arith
tally_more s t (suc n) h y l f g =
    ⊎_elim
    (λ (e : n ≤ y).
    let q : y ≡ n = omega arith in
    let f' : s n ≡ false = rw q at f in
    let g' : t n ≡ true = rw q at g in
    rw (f', g') (omega (arith, tally_sub s t n (λ x k. h x (omega arith)))))
    (λ (e : y < n).
    omega (arith, tally_more s t n (λ x k. h x (omega arith)) y e f g, pick_sub (s n) (t n) (h n (omega arith))))
    (le_or_lt n y)
