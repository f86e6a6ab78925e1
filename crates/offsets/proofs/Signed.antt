-- What the machine computes for a doubled coordinate, and the sign test and cast after it. Assumes nothing.
use Prim.Native.Nat.{ℕ, suc, zero, ◌+◌, ◌-◌, ◌*◌, ◌<◌, ◌≤◌}
use mathlib.Core.Path.{◌≡◌, refl, ap, ap₂, sym, ◌∙◌}
use mathlib.Core.Bool.{Bool, true, false, cond}
use native.Mathlib.Omega.{arith}
use borrow.Author.Tests.{ltb-true}
use lib.Dec.{ltb}
use lib.IntN.{ℤ, pos, negsuc, ◌+ℤ◌, ◌-ℤ◌, neg_ℤ, sub_ℕ, nat_abs}
use lib.Signed.{mag, lt_z}
use mir.Syntax.{w32}
use mir.Val.{SFits, to_z, of_z}
use mir.ValLaws.{to_z_pos, to_z-of_z}
use Rattle.grid.specs.declared.Direction.{Direction}
use Rattle.grid.specs.declared.Direction.TheVariants.{Up, Down, Left, Right}
use Rattle.offsets.specs.Places.{ahead_of, coordinate_of}

mag_sub : (a b : ℕ) → mag (sub_ℕ a b) ≤ a + b
mag_sub a b = by_test (ltb a b)
  where
    by_test : (t : Bool) → mag (cond t (negsuc (b - suc a)) (pos (a - b))) ≤ a + b
    by_test true = omega arith
    by_test false = omega arith

mag_add : (a b : ℤ) → mag (a +ℤ b) ≤ mag a + mag b + 1
mag_add (pos a) (pos b) = omega arith
mag_add (pos a) (negsuc b) = omega (arith, mag_sub a (suc b))
mag_add (negsuc a) (pos b) = omega (arith, mag_sub b (suc a))
mag_add (negsuc a) (negsuc b) = omega arith

mag_neg : (b : ℕ) → mag (neg_ℤ (pos b)) ≤ b
mag_neg zero = omega arith
mag_neg (suc b) = omega arith

mag_minus : (a b : ℕ) → mag (pos a -ℤ pos b) ≤ a + b + 1
mag_minus a b = omega (arith, mag_add (pos a) (neg_ℤ (pos b)), mag_neg b)

fits : (z : ℤ) → mag z < 1000 → SFits w32 z
fits z h = record { sfits = omega arith }

-- a border's place is one from its cell's at most
near : (z : ℤ) → mag z < 2 → mag (to_z w32 (of_z w32 z)) < 2
near z h = rw (to_z-of_z w32 z (fits z (omega arith))) h

ahead_low : (d : Direction) → (mag (ahead_of d).y < 2) × (mag (ahead_of d).x < 2)
ahead_low Up = (omega arith, omega arith)
ahead_low Down = (omega arith, omega arith)
ahead_low Left = (omega arith, omega arith)
ahead_low Right = (omega arith, omega arith)

pub ahead_small : (d : Direction) → (mag (to_z w32 (of_z w32 (ahead_of d).y)) < 2) × (mag (to_z w32 (of_z w32 (ahead_of d).x)) < 2)
ahead_small d = let k = ahead_low d in (near (ahead_of d).y k.0, near (ahead_of d).x k.1)

module _ (at : ℕ) (ahead : ℤ) (from to : ℕ) (ha : at < 32) (hs : mag ahead < 2) (hf : from < 32) (ht : to < 32) where
  whole : (n : ℕ) → n < 32 → to_z w32 (2 * n) ≡ pos (2 * n)
  whole n h = to_z_pos w32 (2 * n) (omega arith)

  place : ℤ
  place = pos (2 * at) +ℤ ahead

  offset : ℤ
  offset = pos (2 * to) -ℤ pos (2 * from)

  place_is : to_z w32 (2 * at) +ℤ to_z w32 (of_z w32 ahead) ≡ place
  unfolding place
  place_is = rw (whole at ha, to_z-of_z w32 ahead (fits ahead (omega arith)))

  offset_is : to_z w32 (2 * to) -ℤ to_z w32 (2 * from) ≡ offset
  unfolding offset
  offset_is = rw (whole to ht, whole from hf)

  place_small : mag place < 70
  unfolding place
  place_small = omega (arith, mag_add (pos (2 * at)) ahead)

  offset_small : mag offset < 130
  unfolding offset
  offset_small = omega (arith, mag_minus (2 * to) (2 * from))

  pub place_fits : SFits w32 (to_z w32 (2 * at) +ℤ to_z w32 (of_z w32 ahead))
  place_fits = rw place_is (fits place (omega (arith, place_small)))

  pub offset_fits : SFits w32 (to_z w32 (2 * to) -ℤ to_z w32 (2 * from))
  offset_fits = rw offset_is (fits offset (omega (arith, offset_small)))

  sum_small : SFits w32 (place +ℤ offset)
  sum_small = fits (place +ℤ offset) (omega (arith, mag_add place offset, place_small, offset_small))

  sum_is : to_z w32 (of_z w32 (to_z w32 (2 * at) +ℤ to_z w32 (of_z w32 ahead))) +ℤ to_z w32 (of_z w32 (to_z w32 (2 * to) -ℤ to_z w32 (2 * from))) ≡ place +ℤ offset
  sum_is = ap₂ ◌+ℤ◌ (to_z-of_z w32 _ place_fits ∙ place_is) (to_z-of_z w32 _ offset_fits ∙ offset_is)

  pub sum_fits : SFits w32 (to_z w32 (of_z w32 (to_z w32 (2 * at) +ℤ to_z w32 (of_z w32 ahead))) +ℤ to_z w32 (of_z w32 (to_z w32 (2 * to) -ℤ to_z w32 (2 * from))))
  sum_fits = rw sum_is sum_small

  pub coordinate_is : to_z w32 (of_z w32 (to_z w32 (of_z w32 (to_z w32 (2 * at) +ℤ to_z w32 (of_z w32 ahead))) +ℤ to_z w32 (of_z w32 (to_z w32 (2 * to) -ℤ to_z w32 (2 * from))))) ≡ coordinate_of at ahead from to
  unfolding coordinate_of place offset
  coordinate_is = to_z-of_z w32 _ sum_fits ∙ sum_is

-- the sign test, and the cast after it
abbrev pub Negative : ℤ → Type 0
Negative z = (n : ℕ) × (z ≡ negsuc n)

pub negative : (z : ℤ) → SFits w32 z → lt_z (to_z w32 (of_z w32 z)) (pos 0) ≡ true → Negative z
negative z f t = by_cases z (rw (to_z-of_z w32 z f) at t)
  where
    by_cases : (q : ℤ) → lt_z q (pos 0) ≡ true → Negative q
    by_cases (pos n) e = absurd (omega (arith, ltb-true n 0 e))
    by_cases (negsuc n) e = (n, refl)

not_negative : (z : ℤ) → lt_z z (pos 0) ≡ false → z ≡ pos (nat_abs z)
not_negative (pos n) e = refl
not_negative (negsuc n) e = absurd (let z : ◌≡◌ {A = ℕ} 0 1 = cc in omega arith)

pub cast_is : (z : ℤ) → SFits w32 z → lt_z (to_z w32 (of_z w32 z)) (pos 0) ≡ false → z ≡ pos (nat_abs (to_z w32 (of_z w32 z)))
cast_is z f t = not_negative z (rw (to_z-of_z w32 z f) at t) ∙ ap (λ q. pos (nat_abs q)) (sym (to_z-of_z w32 z f))
