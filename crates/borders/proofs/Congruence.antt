-- Two lists, tests or choices are equal if they are made the same way of what is equal where it is looked at. Assumes nothing.
use mathlib.Core.Path.{◌≡◌, refl, ap₂}
use mathlib.Core.Logic.{inl, inr}
use mathlib.Core.Bool.{Bool, true, false}
use mathlib.Core.List.{List, [], ◌∷◌, ◌++◌}
use mathlib.Core.Option.{Option, none, some}
use Rattle.lists.specs.Choice.{both, either, when, or_else, holds, through}
use Rattle.lists.specs.Lists.{In, keep, any, all, gather, first}

pub both_same : (t x y : Bool) → (t ≡ true → x ≡ y) → both t x ≡ both t y
both_same true x y h = h refl
both_same false x y h = refl

pub either_same : (t x y : Bool) → (t ≡ false → x ≡ y) → either t x ≡ either t y
either_same true x y h = refl
either_same false x y h = h refl

module _ {A : Type 0} where
  pub holds_same : (o : Option A) (p q : A → Bool) → ((x : A) → o ≡ some x → p x ≡ q x) → holds o p ≡ holds o q
  unfolding holds
  holds_same none p q h = refl
  holds_same (some x) p q h = h x refl

  pub keep_same : (p q : A → Bool) (xs : List A) → ((x : A) → In x xs → p x ≡ q x) → keep p xs ≡ keep q xs
  unfolding keep
  keep_same p q [] h = refl
  keep_same p q (x ∷ xs) h = ap₂ (λ t r. when t x ++ r) (h x (inl refl)) (keep_same p q xs (λ y m. h y (inr m)))

  pub any_same : (p q : A → Bool) (xs : List A) → ((x : A) → In x xs → p x ≡ q x) → any p xs ≡ any q xs
  unfolding any
  any_same p q [] h = refl
  any_same p q (x ∷ xs) h = ap₂ either (h x (inl refl)) (any_same p q xs (λ y m. h y (inr m)))

  pub all_same : (p q : A → Bool) (xs : List A) → ((x : A) → In x xs → p x ≡ q x) → all p xs ≡ all q xs
  unfolding all
  all_same p q [] h = refl
  all_same p q (x ∷ xs) h = ap₂ both (h x (inl refl)) (all_same p q xs (λ y m. h y (inr m)))

module _ {A B : Type 0} where
  pub through_same : (o : Option A) (f h : A → Option B) → ((x : A) → o ≡ some x → f x ≡ h x) → through o f ≡ through o h
  unfolding through
  through_same none f h k = refl
  through_same (some x) f h k = k x refl

  pub gather_same : (f h : A → List B) (xs : List A) → ((x : A) → In x xs → f x ≡ h x) → gather f xs ≡ gather h xs
  unfolding gather
  gather_same f h [] k = refl
  gather_same f h (x ∷ xs) k = ap₂ ◌++◌ (k x (inl refl)) (gather_same f h xs (λ y m. k y (inr m)))

  pub first_same : (f h : A → Option B) (xs : List A) → ((x : A) → In x xs → f x ≡ h x) → first f xs ≡ first h xs
  unfolding first
  first_same f h [] k = refl
  first_same f h (x ∷ xs) k = ap₂ or_else (k x (inl refl)) (first_same f h xs (λ y m. k y (inr m)))
