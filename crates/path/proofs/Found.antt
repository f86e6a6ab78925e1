-- Which cells are found, and how many are not, when one more is marked. Assumes nothing.
use Prim.Native.Nat.{ℕ, zero, suc, ◌+◌, ◌<◌}
use mathlib.Core.Path.{◌≡◌, refl, ap, sym, ◌∙◌}
use mathlib.Core.Logic.{◌⊎◌, inl, inr, ◌≢◌, ⊎_elim}
use mathlib.Core.Bool.{true, false, true≢false}
use mathlib.Core.List.{List, [], ◌∷◌}
use mathlib.Core.Option.{Option, none, some, some-ne-none}
use native.Mathlib.Omega.{arith}
use lib.ListN.{get_or, length, set, replicate}
use lib.Seq.{get_or-set_same, get_or-set_other}
use Rattle.lists.proofs.Cases.{eq_or_ne}
use Rattle.path.specs.Path.{Lists, is_new}
use Rattle.path.specs.Trace.{blank}

abbrev pub Found : Lists → ℕ → Type 0
Found xs c = (p : List ℕ) × (get_or xs c none ≡ some p)

pub blank_set : (xs : Lists) (x : ℕ) (p : List ℕ) → x < length xs → get_or xs x none ≡ none → blank (set xs x (some p)) + 1 ≡ blank xs
unfolding blank
blank_set [] x p l q = omega arith
blank_set (none ∷ xs) zero p l q = omega arith
blank_set (some r ∷ xs) zero p l q = absurd (some-ne-none r q)
blank_set (none ∷ xs) (suc x) p l q = omega (arith, blank_set xs x p (omega arith) q)
blank_set (some r ∷ xs) (suc x) p l q = omega (arith, blank_set xs x p (omega arith) q)

pub blank_all : (n : ℕ) → blank (replicate n none) ≡ n
unfolding blank
blank_all zero = refl
blank_all (suc n) = ap suc (blank_all n)

pub none_at : (n x : ℕ) → get_or {A = Option (List ℕ)} (replicate n none) x none ≡ none
none_at zero x = refl
none_at (suc n) zero = refl
none_at (suc n) (suc x) = none_at n x

pub new_none : (o : Option (List ℕ)) → is_new o ≡ true → o ≡ none
unfolding is_new
new_none none q = refl
new_none (some p) q = absurd (true≢false (sym q))

pub old_some : (o : Option (List ℕ)) → is_new o ≡ false → (p : List ℕ) × (o ≡ some p)
unfolding is_new
old_some none q = absurd (true≢false q)
old_some (some p) q = (p, refl)

module _ (xs : Lists) (x : ℕ) (r : List ℕ) (l : x < length xs) where
  -- what is found after x is marked: x, with its list, and what was found before
  pub marked_cases : (c : ℕ) (p : List ℕ) → get_or (set xs x (some r)) c none ≡ some p → ((c ≡ x) × (some r ≡ some p)) ⊎ ((c ≢ x) × (get_or xs c none ≡ some p))
  marked_cases c p q =
      ⊎_elim
      (λ (e : c ≡ x). inl (e, sym (get_or-set_same xs x (some r) none l) ∙ ap (λ n. get_or (set xs x (some r)) n none) (sym e) ∙ q))
      (λ (z : c ≢ x). inr (z, sym (get_or-set_other xs x c (some r) none z) ∙ q))
      (eq_or_ne c x)

  pub marked_here : (c : ℕ) → c ≡ x → get_or (set xs x (some r)) c none ≡ some r
  marked_here c e = ap (λ n. get_or (set xs x (some r)) n none) e ∙ get_or-set_same xs x (some r) none l

  pub found_still : (c : ℕ) → Found xs c → Found (set xs x (some r)) c
  found_still c k =
      ⊎_elim (λ (e : c ≡ x). (r, marked_here c e)) (λ (z : c ≢ x). (k.0, get_or-set_other xs x c (some r) none z ∙ k.1)) (eq_or_ne c x)
