-- One turn and the end of the loop that looks at a graph's ends. Assumes nothing.
use Prim.Native.Nat.{ℕ, ◌≤◌, ◌<◌}
use mathlib.Core.Path.{◌≡◌, refl, sym, ◌∙◌}
use mathlib.Core.Bool.{Bool, true}
use mathlib.Core.List.{List}
use native.Mathlib.Omega.{arith}
use borrow.Author.Tests.{ltb-true, lt-ltb}
use lib.Dec.{ltb}
use lib.ListN.{get_or, length, take}
use Rattle.std.proofs.lemmas.List.{get_or-take, length-take-le}
use Rattle.limits.specs.Limits.{most_borders}
use Rattle.lists.specs.Choice.{both}
use Rattle.lists.specs.Lists.{range, all}
use Rattle.lists.proofs.ChoiceLaws.{both_true, true_both, same_truth}
use Rattle.lists.proofs.ListLaws.{all_true, true_all, range_in, in_range, in_get_d, get_d_in}
use Rattle.city_count.specs.Room.{below, ends_exist}

-- a test of two is two tests
all_both : {A : Type 0} (p q : A → Bool) (xs : List A) → all (λ x. both (p x) (q x)) xs ≡ both (all p xs) (all q xs)
all_both p q xs =
    same_truth (all (λ x. both (p x) (q x)) xs) (both (all p xs) (all q xs))
    (λ e.
    true_both (all p xs) (all q xs)
    (true_all p xs (λ x m. (both_true (p x) (q x) (all_true (λ x. both (p x) (q x)) xs e x m)).0))
    (true_all q xs (λ x m. (both_true (p x) (q x) (all_true (λ x. both (p x) (q x)) xs e x m)).1)))
    (λ e.
    let o = both_true (all p xs) (all q xs) e in
    true_all (λ x. both (p x) (q x)) xs (λ x m. true_both (p x) (q x) (all_true p xs o.0 x m) (all_true q xs o.1 x m)))

module _ (n : ℕ) (xs : List ℕ) where
  abbrev pub small : ℕ → Bool
  small x = ltb x n

  -- by their places
  pub small_places : all small xs ≡ all (below n xs) (range (length xs))
  small_places =
      same_truth (all small xs) (all (below n xs) (range (length xs)))
      (λ q. true_all (below n xs) (range (length xs)) (λ i m. all_true small xs q (get_or xs i 0) (get_d_in 0 xs i (in_range (length xs) i m))))
      (λ q.
      true_all small xs
      (λ x m. let o = in_get_d 0 x xs m in rw o.2 at (all_true (below n xs) (range (length xs)) q o.0 (range_in (length xs) o.0 o.1))))

module _ (n : ℕ) (us vs : List ℕ) where
  -- the ends of the edges before i exist
  abbrev pub Ends : ℕ → Type 0
  Ends i = (j : ℕ) → j < i → (get_or us j 0 < n) × (get_or vs j 0 < n)

  ends_at : ℕ → Bool
  ends_at i = both (ltb (get_or us i 0) n) (ltb (get_or vs i 0) n)

  -- all the first ends, and all the second
  ends_both : (m : ℕ) → ends_exist n m us vs ≡ both (all (below n us) (range m)) (all (below n vs) (range m))
  unfolding ends_exist
  ends_both m = all_both (below n us) (below n vs) (range m)

  pub ends_small : length us ≡ length vs → ends_exist n (length us) us vs ≡ both (all (small n us) us) (all (small n vs) vs)
  ends_small e = rw (ends_both (length us), small_places n us, small_places n vs, e) refl

  pub ends_all : (m i : ℕ) → m ≤ i → Ends i → true ≡ ends_exist n m us vs
  unfolding ends_exist ends_at
  ends_all m i l k =
      sym
      (true_all ends_at (range m)
      (λ j e. let o = k j (omega (arith, in_range m j e)) in true_both (ltb (get_or us j 0) n) (ltb (get_or vs j 0) n) (lt-ltb _ n o.0) (lt-ltb _ n o.1)))

  pub all_ends : (m : ℕ) → ends_exist n m us vs ≡ true → Ends m
  unfolding ends_exist ends_at
  all_ends m t j h =
      let o = both_true (ltb (get_or us j 0) n) (ltb (get_or vs j 0) n) (all_true ends_at (range m) t j (range_in m j h)) in
      (ltb-true _ n o.0, ltb-true _ n o.1)

-- what stands behind the edges does not count
pub ends_taken : (n m : ℕ) (us vs : List ℕ) → m ≤ length us → m ≤ length vs
    → ends_exist n (length (take m us)) (take m us) (take m vs) ≡ ends_exist n m us vs
ends_taken n m us vs h k =
    rw (length-take-le m us h)
    (same_truth (ends_exist n m (take m us) (take m vs)) (ends_exist n m us vs)
    (λ q.
    sym
    (ends_all n us vs m m (omega arith)
    (λ j l. rw (get_or-take m us j 0 l, get_or-take m vs j 0 l) at (all_ends n (take m us) (take m vs) m q j l))))
    (λ q.
    sym
    (ends_all n (take m us) (take m vs) m m (omega arith)
    (λ j l. rw (get_or-take m us j 0 l, get_or-take m vs j 0 l) (all_ends n us vs m q j l)))))

-- so a test of the slices of the edges is the record's
pub ends_told : (n m : ℕ) (us vs : List ℕ) → m ≤ most_borders → length us ≡ most_borders → length vs ≡ most_borders → {t u : Bool}
    → t ≡ ends_exist n (length (take m us)) (take m us) (take m vs) → t ≡ u → ends_exist n m us vs ≡ u
ends_told n m us vs few a b q p = sym (ends_taken n m us vs (omega (arith, few, a)) (omega (arith, few, b))) ∙ sym q ∙ p
