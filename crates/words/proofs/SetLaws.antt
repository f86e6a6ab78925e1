-- A row's word that is set bit by bit. Assumes nothing.
use Prim.Native.Nat.{ℕ, ◌+◌, ◌-◌, ◌≤◌, ◌<◌}
use mathlib.Core.Path.{◌≡◌, sym, ap, ◌∙◌}
use mathlib.Core.Logic.{⊎_elim, ◌≢◌}
use mathlib.Core.Bool.{Bool, true, false}
use native.Mathlib.Omega.{arith}
use borrow.Author.Tests.{eq-eqb, ne_eqb, le-leb, lt-leb, lt-ltb, le-ltb, ltb-true}
use lib.Dec.{eqb, leb, ltb}
use Rattle.lists.specs.Choice.{both, either}
use Rattle.lists.proofs.Cases.{le_or_lt, eq_or_ne}
use Rattle.lists.proofs.ChoiceLaws.{both_false, both_right, either_false, same_truth}
use Rattle.words.specs.Words.{bit, Says, Only, Full}
use Rattle.words.proofs.WordLaws.{bit_zero}

module _ (P : ℕ → Bool) (w : ℕ) where
  -- the bits of the columns before x are set as P says, and no others
  pub record SetWalk (word x : ℕ) : Type 0 where
    pub inside : x ≤ w
    pub so_far : Only x P word

  pub set_start : SetWalk 0 0
  set_start = record { inside = omega arith; so_far = λ j. bit_zero j ∙ sym (none j) }
    where
      none : (j : ℕ) → both (leb 32 j) (both (ltb j 32) (P (j - 32))) ≡ false
      none j = ⊎_elim (λ (h : 32 ≤ j). rw (le-ltb j 32 h) (both_false (leb 32 j))) (λ (h : j < 32). rw (lt-leb 32 j h)) (le_or_lt 32 j)

  pub set_turn : (word new x : ℕ) (s : Bool) → x < w → SetWalk word x → s ≡ P x → ((j : ℕ) → bit new j ≡ either (bit word j) (both s (eqb j (32 + x)))) → SetWalk new (x + 1)
  set_turn word new x s h k e n =
      record { inside = omega arith; so_far = λ j. n j ∙ ap (λ b. either b (both s (eqb j (32 + x)))) (k.so_far j) ∙ ⊎_elim (same j) (λ (q : j ≢ 32 + x). other j q) (eq_or_ne j (32 + x)) }
    where
      same : (j : ℕ) → j ≡ 32 + x → either (both (leb 32 j) (both (ltb j (32 + x)) (P (j - 32)))) (both s (eqb j (32 + x))) ≡ both (leb 32 j) (both (ltb j (32 + (x + 1))) (P (j - 32)))
      same j q =
          rw (le-leb 32 j (omega arith), le-ltb j (32 + x) (omega arith), lt-ltb j (32 + (x + 1)) (omega arith), eq-eqb j (32 + x) q)
          (both_right s ∙ e ∙ ap P (let z : x ≡ j - 32 = omega arith in z))

      to : (j : ℕ) → j ≢ 32 + x → ltb j (32 + x) ≡ true → ltb j (32 + (x + 1)) ≡ true
      to j q b = lt-ltb j (32 + (x + 1)) (let l = ltb-true j (32 + x) b in omega arith)

      from : (j : ℕ) → j ≢ 32 + x → ltb j (32 + (x + 1)) ≡ true → ltb j (32 + x) ≡ true
      from j q b =
          let l = ltb-true j (32 + (x + 1)) b in
          ⊎_elim (λ (m : 32 + x ≤ j). absurd (q (omega arith))) (λ (m : j < 32 + x). lt-ltb j (32 + x) m) (le_or_lt (32 + x) j)

      other : (j : ℕ) → j ≢ 32 + x → either (both (leb 32 j) (both (ltb j (32 + x)) (P (j - 32)))) (both s (eqb j (32 + x))) ≡ both (leb 32 j) (both (ltb j (32 + (x + 1))) (P (j - 32)))
      other j q =
          rw (ne_eqb j (32 + x) q, both_false s)
          (either_false (both (leb 32 j) (both (ltb j (32 + x)) (P (j - 32))))
          ∙ ap (λ b. both (leb 32 j) (both b (P (j - 32)))) (same_truth (ltb j (32 + x)) (ltb j (32 + (x + 1))) (to j q) (from j q)))

  pub set_only : (word x : ℕ) → w ≤ x → SetWalk word x → Only w P word
  set_only word x h k = let e : x ≡ w = omega (arith, k.inside) in rw e at k.so_far

  pub only_says : (word : ℕ) → Only w P word → Says w P word
  only_says word k z l = k (32 + z) ∙ rw (le-leb 32 (32 + z) (omega arith), lt-ltb (32 + z) (32 + w) (omega arith)) (ap P (let e : 32 + z - 32 ≡ z = omega arith in e))

-- all of a row
pub only_full : (w word : ℕ) → Only w (λ z. true) word → Full w word
only_full w word k j = k j ∙ ap (both (leb 32 j)) (both_right (ltb j (32 + w)))
