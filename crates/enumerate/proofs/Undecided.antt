-- The scans for undecided borders by std's words, and how a decided border changes their count. Assumes nothing.
use Prim.Native.Nat.{ℕ, zero, suc, ◌+◌, ◌≤◌, ◌<◌}
use mathlib.Core.Path.{◌≡◌, refl, sym, ◌∙◌}
use mathlib.Core.Logic.{◌≢◌, ⊎_elim}
use mathlib.Core.Bool.{Bool, true, false, cond}
use mathlib.Core.List.{List, [], ◌∷◌}
use native.Mathlib.Omega.{arith}
use borrow.Author.Tests.{ne_eqb, lt-ltb, le-ltb}
use lib.ListN.{length, get_or, set}
use Rattle.std.specs.Prelude.{Some, None, eqb, nat_lt, position, count_by}
use Rattle.std.specs.List.{position_or_len}
use Rattle.std.proofs.lemmas.List.Recursion.{is_count_by, is_position_or_len}
use Rattle.lists.specs.Choice.{pick}
use Rattle.lists.specs.Lists.{count}
use Rattle.lists.proofs.Cases.{le_or_lt}
use Rattle.enumerate.specs.Search.{first_undecided, Trying}

-- the first undecided border is undecided, or there is none
pub first_most : (s : List ℕ) → first_undecided s ≤ length s
unfolding first_undecided
first_most [] = omega arith
first_most (zero ∷ s) = omega arith
first_most (suc k ∷ s) = rw (ne_eqb (suc k) 0 (omega arith)) (omega (arith, first_most s))

-- what `position` finds
picked : (t : Bool) (n : ℕ) → pick t 0 (suc n) ≡ cond t 0 (1 + n)
picked true n = refl
picked false n = omega arith

first_place : (s : List ℕ) → first_undecided s ≡ position_or_len (λ x. eqb x 0) s
unfolding first_undecided
first_place s = is_position_or_len first_undecided (λ x. eqb x 0) refl (λ x xs. picked (eqb x 0) (first_undecided xs)) s

pub none_undecided : (s : List ℕ) → position (λ x. eqb x 0) s ≡ None → first_undecided s ≡ length s
none_undecided s q =
    ⊎_elim
    (λ (h : length s ≤ first_undecided s). omega (arith, first_most s))
    (λ (h : first_undecided s < length s).
    let there : nat_lt (position_or_len (λ x. eqb x 0) s) (length s) ≡ true = lt-ltb _ _ (rw (first_place s) at h) in
    absurd (some_none (rw there at q)))
    (le_or_lt (length s) (first_undecided s))
  where
    some_none : {n : ℕ} → Some n ≡ None → ⊥
    some_none q = cc

pub some_undecided : (s : List ℕ) (e : ℕ) → position (λ x. eqb x 0) s ≡ Some e → Trying e s
some_undecided s e q =
    ⊎_elim
    (λ (h : length s ≤ first_undecided s).
    let gone : nat_lt (position_or_len (λ x. eqb x 0) s) (length s) ≡ false = le-ltb _ _ (rw (first_place s) at h) in
    absurd (none_some (rw gone at q)))
    (λ (h : first_undecided s < length s).
    let there : nat_lt (position_or_len (λ x. eqb x 0) s) (length s) ≡ true = lt-ltb _ _ (rw (first_place s) at h) in
    let same : e ≡ first_undecided s = sym (same_some (rw there at q)) ∙ sym (first_place s) in
    record { first = same; exists = rw same h })
    (le_or_lt (length s) (first_undecided s))
  where
    none_some : {n : ℕ} → None ≡ Some n → ⊥
    none_some q = cc

    same_some : {m n : ℕ} → Some m ≡ Some n → m ≡ n
    same_some q = cc

-- what is counted by a test
pub counted : (s : List ℕ) → count 0 s ≡ count_by (λ x. eqb x 0) s
unfolding count
counted s = is_count_by (count 0) (λ x. eqb x 0) refl (λ x xs. one_more (eqb x 0) (count 0 xs)) s
  where
    one_more : (t : Bool) (n : ℕ) → pick t 1 0 + n ≡ cond t (1 + n) n
    one_more true n = refl
    one_more false n = omega arith

pub first_zero : (s : List ℕ) → first_undecided s < length s → get_or s (first_undecided s) 0 ≡ 0
unfolding first_undecided
first_zero [] h = refl
first_zero (zero ∷ s) h = refl
first_zero (suc k ∷ s) h = rw (ne_eqb (suc k) 0 (omega arith)) (first_zero s (let l : suc (first_undecided s) < suc (length s) = rw (ne_eqb (suc k) 0 (omega arith)) at h in omega arith))

-- a decided border is one undecided border less
pub one_less : (s : List ℕ) (e k : ℕ) → e < length s → get_or s e 0 ≡ 0 → k ≢ 0 → 1 + count 0 (set s e k) ≡ count 0 s
unfolding count
one_less [] e k h q z = omega arith
one_less (x ∷ s) zero k h q z = rw (q, ne_eqb k 0 z) (omega arith)
one_less (x ∷ s) (suc e) k h q z = omega (arith, one_less s e k (omega arith) q z)
