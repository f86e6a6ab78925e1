-- Unite makes exactly two parts one. Assumes nothing.
use Prim.Native.Nat.{ℕ, ◌<◌}
use mathlib.Core.Path.{◌≡◌, refl, sym, ◌∙◌}
use mathlib.Core.Logic.{◌≢◌, ⊎_elim}
use mathlib.Core.Bool.{true, false, not}
use mathlib.Core.List.{List}
use borrow.Author.Tests.{eq-eqb, ne_eqb}
use lib.Dec.{eqb}
use lib.ListN.{set}
use Rattle.lists.specs.Choice.{pick}
use Rattle.lists.proofs.Cases.{eq_or_ne}
use Rattle.union_find.specs.Chains.{up, climb, shortened, united, hung, root_other, both_shortened}
use Rattle.limits.specs.Limits.{most_cells}
use Rattle.union_find.specs.Requires.{Parents, Stays}
use Rattle.union_find.specs.UnionFind.{union_of}
use Rattle.union_find.specs.declared.UnionFind.{UnionFind}
use Rattle.union_find.proofs.ChainLaws.{climb_below, parents_stay}
use Rattle.union_find.proofs.RootLaws.{Root, Good, root_climb, good_root, root_good}
use Rattle.union_find.proofs.KeepLaws.{Below, set_below, shortened_below, find_good, find_roots, hang_root}

-- once x is found, y's chain stays on the array
pub other_stays : (u v : UnionFind) → Parents u.n u.parent → (x y : ℕ) → x < u.n → y < u.n → v ≡ union_of (shortened u.n u.parent x) u.n → Stays v.parent y
other_stays u v k x y hx hy e =
    rw e (parents_stay u.n (shortened u.n u.parent x) (record { bound = k.bound; below = shortened_below u.n u.n u.parent x k.below hx }) y hy)

-- the ways through `join`: u is left as v once x is found, and as w once y is
module _ (u v w : UnionFind) (k : Parents u.n u.parent) (x y one other : ℕ) (hx : x < u.n) (hy : y < u.n) (e1 : one ≡ climb u.n u.parent x)
    (ev : v ≡ union_of (shortened u.n u.parent x) u.n) (e2 : other ≡ climb v.n v.parent y) (ew : w ≡ union_of (shortened v.n v.parent y) v.n) where
  to_other : root_other u.n u.parent x y ≡ other
  to_other = sym (rw ev at e2)

  to_both : w ≡ union_of (both_shortened u.n u.parent x y) u.n
  to_both = rw ev at ew

  pub one_on : one < most_cells
  one_on = rw e1 (parents_stay u.n u.parent k x hx u.n)

  pub other_on : other < most_cells
  other_on = rw e2 (other_stays u v k x y hx hy ev v.n)

  pub unite_none : one ≡ other → (false ≡ united u.n u.parent x y) × (w ≡ union_of (hung u.n u.parent x y) u.n)
  unfolding united hung
  unite_none e = rw to_both (simp (sym e1, to_other, eq-eqb one other e) (refl, refl))

  pub unite_some : one ≢ other
      → (true ≡ united u.n u.parent x y) × (union_of (set w.parent one other) w.n ≡ union_of (hung u.n u.parent x y) u.n)
  unfolding united hung
  unite_some z = rw to_both (simp (sym e1, to_other, ne_eqb one other z) (refl, refl))

-- UNITE keeps parents good, and x's root is y's from then on: exactly the two parts are one
module _ (n : ℕ) (p : List ℕ) (g : Good n p) (x y : ℕ) (hx : x < n) (hy : y < n) where
  both_good : Good n (both_shortened n p x y)
  both_good = find_good n (shortened n p x) (find_good n p g x hx) y hy

  both_roots : (v : ℕ) → v < n → climb n (both_shortened n p x y) v ≡ climb n p v
  both_roots v h = find_roots n (shortened n p x) (find_good n p g x hx) y hy v h ∙ find_roots n p g x hx v h

  still_root : (v : ℕ) → v < n → up (both_shortened n p x y) (climb n p v) ≡ climb n p v
  still_root v h = rw (← both_roots v h) (both_good.ends v h)

  pub other_root : root_other n p x y ≡ climb n p y
  other_root = find_roots n p g x hx y hy

  -- unite joins two parts where the roots differ
  pub unite_answer : united n p x y ≡ not (eqb (climb n p x) (climb n p y))
  unfolding united
  unite_answer = rw other_root

  renamed : ℕ → ℕ
  renamed r = pick (eqb r (climb n p x)) (climb n p y) r

  one_part : climb n p x ≡ climb n p y → (v : ℕ) → v < n → renamed (climb n p v) ≡ climb n p v
  unfolding renamed
  one_part e v h =
      ⊎_elim
      (λ (q : climb n p v ≡ climb n p x). rw (eq-eqb _ _ q) (sym e ∙ sym q))
      (λ (q : climb n p v ≢ climb n p x). rw (ne_eqb _ _ q))
      (eq_or_ne (climb n p v) (climb n p x))

  -- unless x and y are in one part already, x's root is hung under y's
  hung_one : climb n p x ≡ climb n p y → hung n p x y ≡ both_shortened n p x y
  unfolding hung
  hung_one e = simp (unite_answer, eq-eqb (climb n p x) (climb n p y) e)

  hung_two : climb n p x ≢ climb n p y → hung n p x y ≡ set (both_shortened n p x y) (climb n p x) (climb n p y)
  unfolding hung
  hung_two z = simp (unite_answer, ne_eqb (climb n p x) (climb n p y) z, other_root)

  module _ (z : climb n p x ≢ climb n p y) where
    two_below : Below n (hung n p x y)
    two_below =
        rw (hung_two z) (set_below n (both_shortened n p x y) (climb n p x) (climb n p y) both_good.below (climb_below n p g.below n y hy))

    two_root : (v : ℕ) → v < n → Root (hung n p x y) v (renamed (climb n p v))
    unfolding renamed
    two_root v h =
        let j : Root (both_shortened n p x y) v (climb n p v) = rw (both_roots v h) at (good_root n (both_shortened n p x y) both_good v h) in
        rw (hung_two z) (hang_root (both_shortened n p x y) (climb n p x) (climb n p y) (still_root x hx) (still_root y hy) z v (climb n p v) j)

  pub unite_good : Good n (hung n p x y)
  unite_good =
      ⊎_elim
      (λ (e : climb n p x ≡ climb n p y). rw (hung_one e) both_good)
      (λ (z : climb n p x ≢ climb n p y). root_good n (hung n p x y) (two_below z) (λ v h. (renamed (climb n p v), two_root z v h)))
      (eq_or_ne (climb n p x) (climb n p y))

  pub unite_roots : (v : ℕ) → v < n → climb n (hung n p x y) v ≡ pick (eqb (climb n p v) (climb n p x)) (climb n p y) (climb n p v)
  unfolding renamed
  unite_roots v h =
      ⊎_elim
      (λ (e : climb n p x ≡ climb n p y). rw (hung_one e) (both_roots v h ∙ sym (one_part e v h)))
      (λ (z : climb n p x ≢ climb n p y). root_climb n (hung n p x y) (two_below z) v (renamed (climb n p v)) h (two_root z v h))
      (eq_or_ne (climb n p x) (climb n p y))
