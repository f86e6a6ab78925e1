-- One turn and the end of each loop over a ledger and its marks. Assumes nothing.
use Prim.Native.Nat.{ℕ, ◌-◌, ◌≤◌}
use mathlib.Core.Path.{◌≡◌, refl, ap, sym, ◌∙◌}
use mathlib.Core.Bool.{Bool, true, false, ◌&&◌}
use mathlib.Core.List.{List}
use lib.ListN.{length, get_or, take}
use lib.Seq.{get_or-take, length-take-le}
use Rattle.lists.specs.Choice.{both, pick}
use Rattle.lists.specs.Lists.{In, range, count_from, all}
use Rattle.lists.proofs.ChoiceLaws.{same_truth, both_right}
use Rattle.lists.proofs.ListLaws.{all_true, true_all, in_range, all_start, all_end}
use Rattle.ledger.specs.Marks.{fits_of, fit_all}

-- the states: `good` is false where one of the first i does not go with its mark
module _ (n : ℕ) (s m : List ℕ) where
  goes : ℕ → Bool
  goes e = fits_of (get_or s e 0) (get_or m e 0)

  pub fits_start : all (λ e. fits_of (get_or s e 0) (get_or m e 0)) (count_from 0 (n - 0)) ≡ fit_all n s m
  unfolding fit_all goes
  fits_start = all_start goes n

  module _ (good : Bool) (i : ℕ) where
    pub fits_end : n ≤ i → both good (all (λ e. fits_of (get_or s e 0) (get_or m e 0)) (count_from i (n - i))) ≡ fit_all n s m → good ≡ fit_all n s m
    unfolding goes
    fits_end h k = sym (both_right good) ∙ ap (both good) (sym (all_end goes n i h)) ∙ k

-- the first n states alone tell
pub fits_front : (n : ℕ) (s m : List ℕ) → n ≤ length s → fit_all (length (take n s)) (take n s) m ≡ fit_all n s m
unfolding fit_all
fits_front n s m h =
    let front : ℕ → Bool = λ e. fits_of (get_or (take n s) e 0) (get_or m e 0) in
    let goes : ℕ → Bool = λ e. fits_of (get_or s e 0) (get_or m e 0) in
    let same : (e : ℕ) → In e (range n) → front e ≡ goes e = λ e i. let l = in_range n e i in rw (get_or-take n s e 0 l) in
    rw (length-take-le n s h)
    (same_truth (all front (range n)) (all goes (range n))
    (λ t. true_all goes (range n) (λ e i. sym (same e i) ∙ all_true front (range n) t e i))
    (λ t. true_all front (range n) (λ e i. same e i ∙ all_true goes (range n) t e i)))

pub new_or_not : (t f rest : Bool) → both f (pick t rest false) ≡ both (f && t) rest
new_or_not true true rest = refl
new_or_not true false rest = refl
new_or_not false true rest = refl
new_or_not false false rest = refl
