-- Decimal digits: how many there are, that they are the number's, and that no zero stands in front. Assumes nothing.
use Prim.Native.Nat.{ℕ, zero, suc, ◌+◌, ◌*◌, ◌-◌, ◌/◌, ◌%◌, ◌^◌, ◌≤◌, ◌<◌}
use mathlib.Core.Path.{◌≡◌, refl, ap, ◌∙◌}
use mathlib.Core.Logic.{◌⊎◌, inl, inr, ⊎_elim, ◌≢◌}
use mathlib.Core.List.{List, [], ◌∷◌, ◌++◌}
use native.Mathlib.Omega.{arith}
use native.Mathlib.Nat.{pow-suc}
use borrow.Author.Tests.{lt-ltb, le-ltb}
use lib.ListN.{length, get_or, length-append}
use Rattle.lists.specs.Lists.{In}
use Rattle.lists.proofs.Cases.{le_or_lt}
use Rattle.lists.proofs.ListLaws.{in_append}
use Rattle.lines.specs.Decimal.{digits_of, value_from}

digits_small : (p n : ℕ) → n < 10 → digits_of (suc p) n ≡ (48 + n % 10) ∷ []
unfolding digits_of
digits_small p n h = rw (lt-ltb n 10 h)

digits_large : (p n : ℕ) → 10 ≤ n → digits_of (suc p) n ≡ digits_of p (n / 10) ++ ((48 + n % 10) ∷ [])
unfolding digits_of
digits_large p n h = rw (le-ltb n 10 h)

lt_or_le : (a b : ℕ) → (a < b) ⊎ (b ≤ a)
lt_or_le a b = ⊎_elim (λ (h : b ≤ a). inr h) (λ (h : a < b). inl h) (le_or_lt b a)

module _ (places n : ℕ) where
  pub digits_none : places ≡ 0 → digits_of places n ≡ []
  unfolding digits_of
  digits_none e = rw e

  before : places ≢ 0 → digits_of places n ≡ digits_of (suc (places - 1)) n
  before z = ap (λ (p : ℕ). digits_of p n) (omega arith)

  pub digits_one : places ≢ 0 → n < 10 → digits_of places n ≡ (48 + n % 10) ∷ []
  digits_one z h = before z ∙ digits_small (places - 1) n h

  pub digits_more : places ≢ 0 → 10 ≤ n → digits_of places n ≡ digits_of (places - 1) (n / 10) ++ ((48 + n % 10) ∷ [])
  digits_more z h = before z ∙ digits_large (places - 1) n h

pub digits_most : (places n : ℕ) → length (digits_of places n) ≤ places
unfolding digits_of
digits_most zero n = omega arith
digits_most (suc p) n =
    ⊎_elim
    (λ (h : n < 10). rw (digits_small p n h) (omega arith))
    (λ (h : 10 ≤ n). rw (digits_large p n h) (simp length-append (omega (arith, digits_most p (n / 10)))))
    (lt_or_le n 10)

-- a number below 10 to the k-th has at most k digits
pub digits_few : (k places n : ℕ) → n < 10 ^ suc k → length (digits_of places n) ≤ suc k
unfolding digits_of
digits_few k zero n h = omega arith
digits_few zero (suc p) n h = let e : n < 10 = h in rw (digits_small p n e) (omega arith)
digits_few (suc k) (suc p) n h =
    ⊎_elim
    (λ (l : n < 10). rw (digits_small p n l) (omega arith))
    (λ (l : 10 ≤ n).
    let e : n / 10 < 10 ^ suc k = omega (arith, pow-suc 10 (suc k)) in
    rw (digits_large p n l) (simp length-append (omega (arith, digits_few k p (n / 10) e))))
    (lt_or_le n 10)

value_last : (a : ℕ) (ds : List ℕ) (d : ℕ) → value_from a (ds ++ (d ∷ [])) ≡ 10 * value_from a ds + (d - 48)
unfolding value_from
value_last a [] d = refl
value_last a (e ∷ ds) d = value_last (10 * a + (e - 48)) ds d

-- the digits of n say n
pub digits_value : (places n : ℕ) → n < 10 ^ places → value_from 0 (digits_of places n) ≡ n
unfolding digits_of value_from
digits_value zero n h = let k : n < 1 = h in omega arith
digits_value (suc p) n h =
    ⊎_elim
    (λ (l : n < 10). rw (digits_small p n l) (omega arith))
    (λ (l : 10 ≤ n).
    let e : n / 10 < 10 ^ p = omega (arith, pow-suc 10 p) in
    rw (digits_large p n l) (value_last 0 (digits_of p (n / 10)) (48 + n % 10) ∙ rw (digits_value p (n / 10) e) (omega arith)))
    (lt_or_le n 10)

-- each of them is a digit
pub digits_in : (places n d : ℕ) → In d (digits_of places n) → (48 ≤ d) × (d ≤ 57)
unfolding digits_of
digits_in zero n d m = absurd m
digits_in (suc p) n d m =
    ⊎_elim
    (λ (l : n < 10). ⊎_elim (λ e. (omega arith, omega arith)) (λ k. absurd k) (rw (digits_small p n l) at m))
    (λ (l : 10 ≤ n).
    ⊎_elim
    (λ k. digits_in p (n / 10) d k)
    (λ k. ⊎_elim (λ e. (omega arith, omega arith)) (λ x. absurd x) k)
    (in_append d (digits_of p (n / 10)) ((48 + n % 10) ∷ []) (rw (digits_large p n l) at m)))
    (lt_or_le n 10)

front : (xs : List ℕ) (y : ℕ) → 48 < get_or xs 0 0 → 48 < get_or (xs ++ (y ∷ [])) 0 0
front [] y h = absurd (omega arith)
front (x ∷ xs) y h = h

-- and the first is no zero, but for the number 0 itself
pub digits_first : (places n : ℕ) → 0 < n → n < 10 ^ places → (48 < get_or (digits_of places n) 0 0)
unfolding digits_of
digits_first zero n z h = let k : n < 1 = h in absurd (omega arith)
digits_first (suc p) n z h =
    ⊎_elim
    (λ (l : n < 10). rw (digits_small p n l) (omega arith))
    (λ (l : 10 ≤ n).
    let e : n / 10 < 10 ^ p = omega (arith, pow-suc 10 p) in
    rw (digits_large p n l) (front (digits_of p (n / 10)) (48 + n % 10) (digits_first p (n / 10) (omega arith) e)))
    (lt_or_le n 10)
