-- Whether nothing was found. Assumes nothing.
use Prim.Native.Nat.{ℕ}
use mathlib.Core.Path.{◌≡◌, refl, ap₂, ◌∙◌}
use mathlib.Core.Logic.{inl, inr}
use mathlib.Core.Bool.{Bool, true, false, not}
use mathlib.Core.List.{List, [], ◌∷◌}
use mathlib.Core.Option.{Option, none, some}
use Rattle.lists.specs.Choice.{both, either, pick, give, or_else}
use Rattle.lists.specs.Lists.{In, any, first}
use Rattle.shape.specs.declared.Try.TheVariants.{Passed}
use Rattle.shape.specs.Shape.{landed, is_good}

unfoldable pub is_none : Option ℕ → Bool
is_none none = true
is_none (some x) = false

pub none_give : (t : Bool) (e : ℕ) → is_none (give t e) ≡ not t
unfolding is_none give
none_give true e = refl
none_give false e = refl

pub none_or_else : (p q : Option ℕ) → is_none (or_else p q) ≡ both (is_none p) (is_none q)
unfolding is_none or_else
none_or_else none q = refl
none_or_else (some x) q = refl

-- not one, and not the other
pub neither : (a b : Bool) → both (not a) (not b) ≡ not (either a b)
neither true b = refl
neither false b = refl

-- nothing is found where no test holds
pub none_first : {A : Type 0} (f : A → Option ℕ) (p : A → Bool) (xs : List A) → ((x : A) → In x xs → is_none (f x) ≡ not (p x)) → is_none (first f xs) ≡ not (any p xs)
unfolding first any is_none
none_first f p [] h = refl
none_first f p (x ∷ xs) h =
    none_or_else (f x) (first f xs) ∙ ap₂ both (h x (inl refl)) (none_first f p xs (λ y m. h y (inr m))) ∙ neither (p x) (any p xs)

-- an offset is good where it is not passed over and nothing lands badly
pub good_pick : (t : Bool) (o : Option ℕ) → is_good (pick t (landed o) Passed) ≡ both t (is_none o)
unfolding is_good landed is_none
good_pick true none = refl
good_pick true (some e) = refl
good_pick false o = refl
