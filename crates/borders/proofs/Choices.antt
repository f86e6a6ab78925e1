-- More laws of choices: what is picked, given, or found in neither of two. Assumes nothing.
use mathlib.Core.Path.{◌≡◌, refl}
use mathlib.Core.Bool.{Bool, true, false, true≢false}
use mathlib.Core.Option.{some}
use Rattle.lists.specs.Choice.{either, pick, give}

module _ {A : Type 0} where
  -- what holds of both, each where it is picked, holds of the pick
  pub pick_elim : (P : A → Type 0) (t : Bool) (x y : A) → (t ≡ true → P x) → (t ≡ false → P y) → P (pick t x y)
  pick_elim P true x y f g = f refl
  pick_elim P false x y f g = g refl

  pub give_true : (t : Bool) (x : A) → t ≡ true → give t x ≡ some x
  unfolding give
  give_true t x q = rw q

pub either_false : (a b : Bool) → either a b ≡ false → (a ≡ false) × (b ≡ false)
either_false true b q = absurd (true≢false q)
either_false false b q = (refl, q)
