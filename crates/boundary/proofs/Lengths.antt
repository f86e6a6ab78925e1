-- How long lists are that are kept or gathered from others. Assumes nothing.
use Prim.Native.Nat.{ℕ, ◌+◌, ◌*◌, ◌≤◌}
use mathlib.Core.Path.{◌≡◌, refl, ap}
use mathlib.Core.Bool.{Bool, true, false}
use mathlib.Core.List.{List, [], ◌∷◌, ◌++◌}
use native.Mathlib.Omega.{arith}
use native.Mathlib.Nat.{suc-mul, add-mul}
use lib.ListN.{length, length-append}
use Rattle.lists.specs.Choice.{when}
use Rattle.lists.specs.Lists.{keep, gather}

module _ {A : Type 0} where
  pub when_most : (t : Bool) (x : A) → length (when t x) ≤ 1
  unfolding when
  when_most true x = omega arith
  when_most false x = omega arith

  pub when_either : (s t : Bool) (x y : A) → (s ≡ true → t ≡ true → ⊥) → length (when s x) + length (when t y) ≤ 1
  unfolding when
  when_either true true x y z = absurd (z refl refl)
  when_either true false x y z = omega arith
  when_either false true x y z = omega arith
  when_either false false x y z = omega arith

  pub keep_most : (p : A → Bool) (xs : List A) → length (keep p xs) ≤ length xs
  unfolding keep
  keep_most p [] = omega arith
  keep_most p (x ∷ xs) = omega (arith, length-append (when (p x) x) (keep p xs), when_most (p x) x, keep_most p xs)

module _ {A B : Type 0} where
  pub gather_most : (f : A → List B) (k : ℕ) → ((x : A) → length (f x) ≤ k) → (xs : List A) → length (gather f xs) ≤ length xs * k
  unfolding gather
  gather_most f k h [] = omega arith
  gather_most f k h (x ∷ xs) = omega (arith, length-append (f x) (gather f xs), h x, gather_most f k h xs, suc-mul (length xs) k)

  -- two gathered at once are as long as each by itself
  pub gather_both : (f h : A → List B) (xs : List A) → length (gather (λ x. f x ++ h x) xs) ≡ length (gather f xs) + length (gather h xs)
  unfolding gather
  gather_both f h [] = omega arith
  gather_both f h (x ∷ xs) =
      omega (
        arith,
        length-append (f x ++ h x) (gather (λ x. f x ++ h x) xs),
        length-append (f x) (h x),
        length-append (f x) (gather f xs),
        length-append (h x) (gather h xs),
        gather_both f h xs,
      )

module _ {A B C : Type 0} where
  -- at most k times as long for each member, at most k times as long in all
  pub gather_times : (f : A → List B) (h : A → List C) (k : ℕ) → ((x : A) → length (f x) ≤ length (h x) * k) → (xs : List A) → length (gather f xs) ≤ length (gather h xs) * k
  unfolding gather
  gather_times f h k q [] = omega arith
  gather_times f h k q (x ∷ xs) =
      omega (
        arith,
        length-append (f x) (gather f xs),
        q x,
        gather_times f h k q xs,
        add-mul (length (h x)) (length (gather h xs)) k,
        ap (λ n. n * k) (length-append (h x) (gather h xs)),
      )
