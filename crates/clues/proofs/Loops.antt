-- What the library's tests of given walls and clues answer. Assumes nothing.
use Prim.Native.Nat.{ℕ, zero, suc, ◌<◌}
use mathlib.Core.Path.{◌≡◌, refl, sym}
use mathlib.Core.Bool.{Bool, true, false}
use mathlib.Core.List.{List, [], ◌∷◌}
use native.Mathlib.Omega.{arith}
use native.Mathlib.Numerals.{add-one}
use lib.Dec.{ltb}
use lib.ListN.{length, get_or}
use Rattle.std.specs.List.{IsAllAdjacentAnswer}
use Rattle.std.proofs.Common.{IsTrue, ◌↔◌}
use Rattle.lists.specs.Lists.{range}
use Rattle.lists.proofs.ChoiceLaws.{true_both, both_false, same_truth}
use Rattle.lists.proofs.ListLaws.{all_true, true_all, range_in, in_range}
use Rattle.clues.specs.Clues.{rises, clue_fits, all_fit}

each_rises : (xs : List ℕ) → ((k d : ℕ) → suc k < length xs → true ≡ ltb (get_or xs k d) (get_or xs (suc k) d)) → rises xs ≡ true
unfolding rises
each_rises [] h = refl
each_rises (x ∷ []) h = refl
each_rises (x ∷ y ∷ l) h = true_both _ _ (sym (h 0 0 (omega arith))) (each_rises (y ∷ l) (λ k d q. h (suc k) d (omega (arith, q))))

one_falls : (xs : List ℕ) (k : ℕ) → suc k < length xs → false ≡ ltb (get_or xs k 0) (get_or xs (suc k) 0) → rises xs ≡ false
unfolding rises
one_falls [] k h q = absurd (omega arith)
one_falls (x ∷ []) k h q = absurd (omega arith)
one_falls (x ∷ y ∷ l) zero h q = rw (sym q)
one_falls (x ∷ y ∷ l) (suc k) h q = rw (one_falls (y ∷ l) k (omega arith) q) (both_false (ltb x y))

-- `is_sorted_by` tests whether they rise
pub rise_by : (xs : List ℕ) (r : Bool) → IsAllAdjacentAnswer (λ x y b. b ≡ ltb x y) xs r → r ≡ rises xs
rise_by xs true h = sym (each_rises xs (λ k d q. rw (add-one k) at (h k d (omega (arith, q)))))
rise_by xs false h = sym (one_falls xs h.0 (omega (arith, h.1)) (rw (add-one h.0) at (h.2 0)))

-- `all` over clues and sizes tests whether each clue fits
pub fits_by : (sizes clues : List ℕ) (r : Bool) → IsTrue r ↔ ((k : ℕ) → k < length clues → IsTrue (clue_fits sizes clues k)) → r ≡ all_fit sizes clues
unfolding all_fit
fits_by sizes clues r h =
    same_truth r (all_fit sizes clues)
    (λ q. true_all (clue_fits sizes clues) (range (length clues)) (λ k m. h.0 q k (in_range (length clues) k m)))
    (λ q. h.1 (λ k l. all_true (clue_fits sizes clues) (range (length clues)) q k (range_in (length clues) k l)))
