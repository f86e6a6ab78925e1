-- Laws of `climb` and `shortened`: steps up, roots, and one law for each way through `find_in`. Assumes nothing.
use Prim.Native.Nat.{ℕ, zero, suc, ◌-◌, ◌<◌}
use mathlib.Core.Path.{◌≡◌, refl}
use mathlib.Core.List.{List}
use native.Mathlib.Omega.{arith}
use native.Mathlib.Numerals.{sub-one}
use lib.ListN.{set, length, length-set}
use lib.Seq.{set-get_or}
use Rattle.union_find.specs.Chains.{up, climb, shortened}
use Rattle.union_find.specs.Requires.{Stays, Parents}

-- the last of d + 1 steps
pub climb_more : (d : ℕ) (p : List ℕ) (x : ℕ) → climb (suc d) p x ≡ up p (climb d p x)
unfolding climb
climb_more zero p x = refl
climb_more (suc d) p x = climb_more d p (up p x)

-- no step leads away from a root, and find leaves it as it is
pub climb_root : (d : ℕ) (p : List ℕ) (x : ℕ) → up p x ≡ x → climb d p x ≡ x
unfolding climb
climb_root zero p x e = refl
climb_root (suc d) p x e = rw e (climb_root d p x e)

pub shortened_root : (d : ℕ) (p : List ℕ) (x : ℕ) → up p x ≡ x → shortened d p x ≡ p
unfolding shortened climb
shortened_root zero p x e = refl
shortened_root (suc d) p x e =
    let same : set p x x ≡ p = rw e at (set-get_or p x 0) in rw (e, shortened_root d p x e, climb_root d p x e) same

-- where d is 0
pub climb_none : (d : ℕ) (p : List ℕ) (x : ℕ) → d ≡ 0 → climb d p x ≡ x
unfolding climb
climb_none zero p x e = refl
climb_none (suc d) p x e = absurd (omega arith)

pub shortened_none : (d : ℕ) (p : List ℕ) (x : ℕ) → d ≡ 0 → shortened d p x ≡ p
unfolding shortened
shortened_none zero p x e = refl
shortened_none (suc d) p x e = absurd (omega arith)

-- where it is not
pub climb_up : (d : ℕ) (p : List ℕ) (x : ℕ) → (d ≡ 0 → ⊥) → climb (d - 1) p (up p x) ≡ climb d p x
unfolding climb
climb_up zero p x z = absurd (z refl)
climb_up (suc d) p x z = simp sub-one

pub shortened_up : (d : ℕ) (p : List ℕ) (x : ℕ) {q : List ℕ} {r : ℕ} → (d ≡ 0 → ⊥) → q ≡ shortened (d - 1) p (up p x)
    → r ≡ climb (d - 1) p (up p x) → set q x r ≡ shortened d p x
unfolding shortened climb
shortened_up zero p x z eq er = absurd (z refl)
shortened_up (suc d) p x z eq er = rw (eq, er) (simp sub-one)

pub length_shortened : (d : ℕ) (p : List ℕ) (x : ℕ) → length (shortened d p x) ≡ length p
unfolding shortened
length_shortened zero p x = refl
length_shortened (suc d) p x = simp length-set (length_shortened d p (up p x))

-- a chain that stays on the array begins on it, and stays on it from its second vertex on
pub stays_here : (p : List ℕ) (x : ℕ) → Stays p x → x < 1024
unfolding climb
stays_here p x s = s 0

pub stays_up : (p : List ℕ) (x : ℕ) → Stays p x → Stays p (up p x)
unfolding climb
stays_up p x s d = s (suc d)

-- a chain of n vertices stays among them
pub climb_below : (n : ℕ) (p : List ℕ) → ((x : ℕ) → x < n → up p x < n) → (d x : ℕ) → x < n → climb d p x < n
unfolding climb
climb_below n p b zero x h = h
climb_below n p b (suc d) x h = climb_below n p b d (up p x) (b x h)

pub parents_stay : (n : ℕ) (p : List ℕ) → Parents n p → (x : ℕ) → x < n → Stays p x
parents_stay n p k x h d = omega (arith, k.bound, climb_below n p k.below d x h)
