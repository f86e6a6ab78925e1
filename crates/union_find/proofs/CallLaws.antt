-- What find and unite make of any record that holds together, accepted or refused. Assumes nothing.
use Prim.Native.Nat.{ℕ, ◌≤◌, ◌<◌}
use mathlib.Core.Path.{◌≡◌, ap}
use mathlib.Core.Logic.{◌⊎◌, inl, inr, ◌↔◌, ◌≢◌, ⊎_elim}
use mathlib.Core.Bool.{true, not}
use borrow.Author.Tests.{lt-ltb, le-ltb, le-leb, lt-leb, ne_eqb, eqb-false, not-true}
use lib.Dec.{eqb}
use Rattle.lists.specs.Choice.{pick}
use Rattle.lists.proofs.Cases.{le_or_lt}
use Rattle.union_find.specs.Chains.{shortened, hung}
use Rattle.union_find.specs.UnionFind.{union_of, holds_of, find_of, unite_of}
use Rattle.union_find.specs.Calls.{root_in}
use Rattle.union_find.specs.declared.UnionFind.{UnionFind}
use Rattle.union_find.proofs.RootLaws.{Good, holds_good, good_holds}
use Rattle.union_find.proofs.KeepLaws.{find_good, find_roots}
use Rattle.union_find.proofs.UniteLaws.{unite_good, unite_roots, unite_answer}

module _ (u : UnionFind) (t : holds_of u.n u.parent ≡ true) where
  good : Good u.n u.parent
  good = holds_good u.n u.parent t

  -- refused, or accepted
  find_cases : (x : ℕ) → ((find_of u x).union ≡ u) ⊎ ((x < u.n) × ((find_of u x).union ≡ union_of (shortened u.n u.parent x) u.n))
  find_cases x =
      ⊎_elim
      (λ (l : u.n ≤ 1024).
      ⊎_elim
      (λ (h : u.n ≤ x). inl (simp (le-ltb 1024 u.n l, t, le-leb u.n x h)))
      (λ (h : x < u.n). inr (h, simp (le-ltb 1024 u.n l, t, lt-leb u.n x h)))
      (le_or_lt u.n x))
      (λ (l : 1024 < u.n). inl (simp (lt-ltb 1024 u.n l)))
      (le_or_lt u.n 1024)

  -- find keeps a record good, and changes no vertex' root
  pub find_keeps : (x : ℕ) → let w = (find_of u x).union in holds_of w.n w.parent ≡ true
  find_keeps x =
      ⊎_elim (λ e. rw e t) (λ o. rw o.1 (good_holds u.n (shortened u.n u.parent x) (find_good u.n u.parent good x o.0))) (find_cases x)

  pub find_root : (x v : ℕ) → v < u.n → root_in (find_of u x).union v ≡ root_in u v
  find_root x v h = ⊎_elim (λ e. rw e) (λ o. rw o.1 (find_roots u.n u.parent good x o.0 v h)) (find_cases x)

  unite_cases : (x y : ℕ)
      → ((unite_of u x y).union ≡ u)
      ⊎ ((x < u.n) × (y < u.n) × ((unite_of u x y).union ≡ union_of (hung u.n u.parent x y) u.n))
  unite_cases x y =
      ⊎_elim
      (λ (l : u.n ≤ 1024).
      ⊎_elim
      (λ (h : u.n ≤ x). inl (simp (le-ltb 1024 u.n l, t, le-leb u.n x h)))
      (λ (h : x < u.n).
      ⊎_elim
      (λ (g : u.n ≤ y). inl (simp (le-ltb 1024 u.n l, t, lt-leb u.n x h, le-leb u.n y g)))
      (λ (g : y < u.n). inr (h, g, simp (le-ltb 1024 u.n l, t, lt-leb u.n x h, lt-leb u.n y g)))
      (le_or_lt u.n y))
      (le_or_lt u.n x))
      (λ (l : 1024 < u.n). inl (simp (lt-ltb 1024 u.n l)))
      (le_or_lt u.n 1024)

  pub unite_keeps : (x y : ℕ) → let w = (unite_of u x y).union in holds_of w.n w.parent ≡ true
  unite_keeps x y =
      ⊎_elim
      (λ e. rw e t)
      (λ o. rw o.2 (good_holds u.n (hung u.n u.parent x y) (unite_good u.n u.parent good x y o.0 o.1)))
      (unite_cases x y)

  -- an accepted unite makes exactly the two parts one, and says whether they were two
  module _ (small : u.n ≤ 1024) (x y : ℕ) (h : x < u.n) (g : y < u.n) where
    pub unite_root : (v : ℕ) → v < u.n → root_in (unite_of u x y).union v ≡ pick (eqb (root_in u v) (root_in u x)) (root_in u y) (root_in u v)
    unite_root v k =
        let e : (unite_of u x y).union ≡ union_of (hung u.n u.parent x y) u.n = simp (le-ltb 1024 u.n small, t, lt-leb u.n x h, lt-leb u.n y g) in
        rw e (unite_roots u.n u.parent good x y h g v k)

    pub unite_says : ((unite_of u x y).united ≡ true) ↔ (root_in u x ≢ root_in u y)
    unite_says =
        let e : (unite_of u x y).united ≡ not (eqb (root_in u x) (root_in u y)) =
        simp (le-ltb 1024 u.n small, t, lt-leb u.n x h, lt-leb u.n y g) (unite_answer u.n u.parent good x y h g) in
        rw e (λ q. eqb-false (root_in u x) (root_in u y) (not-true _ q), λ z. ap not (ne_eqb (root_in u x) (root_in u y) z))
