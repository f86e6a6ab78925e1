-- `any` and `all` over lists put together. Assumes nothing.
use mathlib.Core.Path.{◌≡◌, refl, sym, ap, ◌∙◌}
use mathlib.Core.Bool.{Bool, true, false}
use mathlib.Core.List.{List, [], ◌∷◌, ◌++◌}
use Rattle.lists.specs.Choice.{both, either, when}
use Rattle.lists.specs.Lists.{all, any, gather}
use Rattle.lists.proofs.ChoiceLaws.{either_assoc, either_false, both_assoc, both_right}

module _ {A : Type 0} (p : A → Bool) where
  pub any_append : (xs ys : List A) → any p (xs ++ ys) ≡ either (any p xs) (any p ys)
  unfolding any
  any_append [] ys = refl
  any_append (x ∷ xs) ys = ap (either (p x)) (any_append xs ys) ∙ sym (either_assoc (p x) (any p xs) (any p ys))

  pub all_append : (xs ys : List A) → all p (xs ++ ys) ≡ both (all p xs) (all p ys)
  unfolding all
  all_append [] ys = refl
  all_append (x ∷ xs) ys = ap (both (p x)) (all_append xs ys) ∙ sym (both_assoc (p x) (all p xs) (all p ys))

  pub any_one : (x : A) → any p (x ∷ []) ≡ p x
  unfolding any
  any_one x = either_false (p x)

  pub all_one : (x : A) → all p (x ∷ []) ≡ p x
  unfolding all
  all_one x = both_right (p x)

  pub any_when : (t : Bool) (x : A) → any p (when t x) ≡ both t (p x)
  unfolding any when
  any_when true x = either_false (p x)
  any_when false x = refl

module _ {A B : Type 0} (p : B → Bool) (f : A → List B) where
  pub any_gather : (xs : List A) → any p (gather f xs) ≡ any (λ x. any p (f x)) xs
  unfolding any gather
  any_gather [] = refl
  any_gather (x ∷ xs) = any_append p (f x) (gather f xs) ∙ ap (either (any p (f x))) (any_gather xs)

  pub all_gather : (xs : List A) → all p (gather f xs) ≡ all (λ x. all p (f x)) xs
  unfolding all gather
  all_gather [] = refl
  all_gather (x ∷ xs) = all_append p (f x) (gather f xs) ∙ ap (both (all p (f x))) (all_gather xs)
