-- The greatest of some numbers is below n exactly if all are. Assumes nothing.
use Rattle.std.proofs.Common.{◌≡◌, sym, ap, ◌∙◌, IsTrue, MatchOption}
use Rattle.std.specs.Prelude.{ℕ, Bool, List, Option, max, fold, ltb}
use Rattle.std.specs.List.{reduce}
use native.Mathlib.Omega.{arith}
use mathlib.Core.List.{[], ◌∷◌}
use borrow.Author.Tests.{lt-ltb, ltb-true}
use Rattle.lists.specs.Choice.{both}
use Rattle.lists.specs.Lists.{all}
use Rattle.lists.proofs.ChoiceLaws.{both_true, true_both, same_truth, both_assoc, both_right}

pub greater_below : (a b n : ℕ) → ltb (max a b) n ≡ both (ltb a n) (ltb b n)
greater_below a b n =
    same_truth (ltb (max a b) n) (both (ltb a n) (ltb b n))
    (λ q. let k = ltb-true (max a b) n q in true_both (ltb a n) (ltb b n) (lt-ltb a n (omega arith)) (lt-ltb b n (omega arith)))
    (λ q. let k = both_true (ltb a n) (ltb b n) q in let x = ltb-true a n k.0 in let y = ltb-true b n k.1 in lt-ltb (max a b) n (omega arith))

-- the greater one and the rest
greater_rest : (a b n : ℕ) (rest : Bool) → both (ltb (max a b) n) rest ≡ both (ltb a n) (both (ltb b n) rest)
greater_rest a b n rest = ap (λ t. both t rest) (greater_below a b n) ∙ both_assoc (ltb a n) (ltb b n) rest

below_fold : (n x : ℕ) (l : List ℕ) → ltb (fold max x l) n ≡ both (ltb x n) (all (λ e. ltb e n) l)
unfolding all
below_fold n x [] = sym (both_right (ltb x n))
below_fold n x (y ∷ l) = below_fold n (max x y) l ∙ greater_rest x y n (all (λ e. ltb e n) l)

pub below_greatest : (n : ℕ) (l : List ℕ) (m : Option ℕ) (r : Bool) → m ≡ reduce max l → MatchOption m (IsTrue r) (λ x. r ≡ ltb x n) → r ≡ all (λ e. ltb e n) l
unfolding all
below_greatest n [] m r q k = rw q at k
below_greatest n (x ∷ l) m r q k = (rw q at k) ∙ below_fold n x l
