-- One number at each of some places: the loop that writes it, and what stands at each place then. Assumes nothing.
use Prim.Native.Nat.{ℕ, ◌+◌, ◌≤◌, ◌<◌}
use mathlib.Core.Path.{◌≡◌, refl, ap, ◌∙◌}
use mathlib.Core.Logic.{inl, inr, ◌≢◌, ⊎_elim}
use mathlib.Core.Bool.{Bool, true, false}
use mathlib.Core.List.{List, [], ◌∷◌}
use native.Mathlib.Numerals.{add-one}
use borrow.Author.Tests.{eq-eqb, eqb-true, ne_eqb}
use lib.Dec.{eqb}
use lib.ListN.{length, get_or, drop, set, length-set, drop_of_length-le}
use lib.Seq.{get_or-set_same, get_or-set_other, drop-cons}
use Rattle.lists.specs.Choice.{either, pick}
use Rattle.lists.specs.Lists.{In, any}
use Rattle.lists.specs.Writes.{puts, Below}
use Rattle.lists.proofs.Cases.{eq_or_ne, true_or_false}
use Rattle.lists.proofs.ListLaws.{get_d_in, in_get_d, any_true, true_any}

-- a turn of the loop, and its end
module _ (places : List ℕ) (v i : ℕ) (xs : List ℕ) where
  pub puts_turn : i < length places → puts (drop i places) v xs ≡ puts (drop (i + 1) places) v (set xs (get_or places i 0) v)
  unfolding puts
  puts_turn h = rw (drop-cons places i 0 h, add-one)

  pub puts_end : length places ≤ i → puts (drop i places) v xs ≡ xs
  unfolding puts
  puts_end h = rw (drop_of_length-le places {i = i} h)

-- numbers below n, by their places, and back
module _ (n : ℕ) (places : List ℕ) where
  pub below_at : Below n places → (i : ℕ) → i < length places → get_or places i 0 < n
  below_at b i h = b (get_or places i 0) (get_d_in 0 places i h)

  pub at_below : ((i : ℕ) → i < length places → get_or places i 0 < n) → Below n places
  at_below b e m = let o = in_get_d 0 e places m in rw o.2 at (b o.0 o.1)

pub puts_length : (l : List ℕ) (v : ℕ) (xs : List ℕ) → length (puts l v xs) ≡ length xs
unfolding puts
puts_length [] v xs = refl
puts_length (e ∷ l) v xs = puts_length l v (set xs e v) ∙ simp length-set

later_first : (a b : Bool) (v k : ℕ) → pick b v (pick a v k) ≡ pick (either a b) v k
later_first true true v k = refl
later_first true false v k = refl
later_first false b v k = refl

-- what stands at each place
pub puts_at : (l : List ℕ) (v : ℕ) (xs : List ℕ) → Below (length xs) l → (e : ℕ) → get_or (puts l v xs) e 0 ≡ pick (any (eqb e) l) v (get_or xs e 0)
unfolding puts any
puts_at [] v xs h e = refl
puts_at (x ∷ l) v xs h e =
    puts_at l v (set xs x v) (λ y m. simp length-set (h y (inr m))) e
    ∙ ap (pick (any (eqb e) l) v) here ∙ later_first (eqb e x) (any (eqb e) l) v (get_or xs e 0)
  where
    here : get_or (set xs x v) e 0 ≡ pick (eqb e x) v (get_or xs e 0)
    here =
        ⊎_elim
        (λ (q : e ≡ x). rw (q, eq-eqb x x refl) (get_or-set_same xs x v 0 (h x (inl refl))))
        (λ (q : e ≢ x). rw (ne_eqb e x q) (get_or-set_other xs x e v 0 q))
        (eq_or_ne e x)

-- the places have v, and the others what they had
module _ (l : List ℕ) (v : ℕ) (xs : List ℕ) (h : Below (length xs) l) (e : ℕ) where
  pub puts_here : In e l → get_or (puts l v xs) e 0 ≡ v
  puts_here m = puts_at l v xs h e ∙ rw (true_any (eqb e) l e m (eq-eqb e e refl)) refl

  pub puts_other : (In e l → ⊥) → get_or (puts l v xs) e 0 ≡ get_or xs e 0
  puts_other m =
      puts_at l v xs h e
      ∙ ⊎_elim
      (λ (t : any (eqb e) l ≡ true). let o = any_true (eqb e) l t in absurd (m (rw (← eqb-true e o.0 o.2) at o.1)))
      (λ (t : any (eqb e) l ≡ false). rw t refl)
      (true_or_false (any (eqb e) l))
