-- A stroke that no question refuses, as facts and back; such a stroke keeps the decisions sound; and a stroke cut in two is accepted exactly
-- where the one part is and then the other. Assumes nothing.
use Prim.Native.Nat.{ℕ, ◌≤◌, ◌<◌}
use mathlib.Core.Path.{◌≡◌, refl, ap, sym, ◌∙◌}
use mathlib.Core.Logic.{⊎_elim}
use mathlib.Core.Bool.{Bool, true, false, true≢false}
use mathlib.Core.List.{List, [], ◌∷◌, ◌++◌}
use native.Mathlib.Omega.{arith}
use borrow.Author.Tests.{eqb-true, eq-eqb, lt-ltb, ltb-true, le-leb, leb-true}
use lib.Dec.{eqb, ltb, leb}
use Rattle.lists.specs.Choice.{both, pick}
use Rattle.lists.specs.Lists.{count, all}
use Rattle.lists.proofs.Cases.{le_or_lt, true_or_false}
use Rattle.lists.proofs.ListLaws.{all_true, true_all}
use Rattle.lists.proofs.CountLaws.{in_count, count_in}
use Rattle.ledger.specs.Ledger.{Decision, standing, borders, all_exist, none_twice, stroke_code}
use Rattle.ledger.proofs.Standing.{Sound, count_both, undecided, not_decided}

-- the borders of a stroke exist, none stands there twice, and all are undecided
pub record Fits (n : ℕ) (state : ℕ → ℕ) (ds : List Decision) : Type 0 where
  pub inside : (e : ℕ) → 1 ≤ count e (borders ds) → e < n
  pub once : (e : ℕ) → count e (borders ds) ≤ 1
  pub free : (e : ℕ) → 1 ≤ count e (borders ds) → state e ≡ 0

-- a test of all decisions that looks at the border alone
pub all_borders : (p : ℕ → Bool) (ds : List Decision) → all (λ (d : Decision). p d.border) ds ≡ all p (borders ds)
unfolding all
all_borders p [] = refl
all_borders p (d ∷ ds) = ap (both (p d.border)) (all_borders p ds)

-- borders that exist among n, exist among more
pub exist_more : (n m : ℕ) (ds : List Decision) → n ≤ m → all_exist n ds ≡ true → all_exist m ds ≡ true
exist_more n m ds few q =
    true_all _ ds
    (λ d i. lt-ltb d.border m (let h = ltb-true d.border n (all_true (λ (d : Decision). ltb d.border n) ds q d i) in omega (arith, h, few)))

module _ (n : ℕ) (state : ℕ → ℕ) (ds : List Decision) where
  exist : Bool
  exist = all (λ (d : Decision). ltb d.border n) ds

  free : Bool
  free = all (λ (d : Decision). eqb (state d.border) 0) ds

  -- the three questions
  pub questions : stroke_code n state ds ≡ 0 → (all (λ (d : Decision). ltb d.border n) ds ≡ true) × (none_twice (borders ds) ≡ true) × (all (λ (d : Decision). eqb (state d.border) 0) ds ≡ true)
  unfolding stroke_code exist free
  questions = go exist (none_twice (borders ds)) free refl refl refl
    where
      go : (a b c : Bool) → exist ≡ a → none_twice (borders ds) ≡ b → free ≡ c → ◌≡◌ {A = ℕ} (pick a (pick b (pick c 0 4) 14) 3) 0
          → (exist ≡ true) × (none_twice (borders ds) ≡ true) × (free ≡ true)
      go true true true p q r z = (p, q, r)
      go true true false p q r z = absurd (omega arith)
      go true false c p q r z = absurd (omega arith)
      go false b c p q r z = absurd (omega arith)

  pub code_fits : stroke_code n state ds ≡ 0 → Fits n state ds
  unfolding none_twice
  code_fits z =
      let k = questions z in
      let i = sym (all_borders (λ e. ltb e n) ds) ∙ k.0 in
      let f = sym (all_borders (λ e. eqb (state e) 0) ds) ∙ k.2 in
      record {
        inside = λ e h. ltb-true e n (all_true (λ e. ltb e n) (borders ds) i e (count_in e (borders ds) h));
        once = λ e.
            ⊎_elim
            (λ (h : 1 ≤ count e (borders ds)). leb-true _ _ (all_true (λ x. leb (count x (borders ds)) 1) (borders ds) k.1 e (count_in e (borders ds) h)))
            (λ (h : count e (borders ds) < 1). omega arith)
            (le_or_lt 1 (count e (borders ds)));
        free = λ e h. eqb-true _ _ (all_true (λ e. eqb (state e) 0) (borders ds) f e (count_in e (borders ds) h));
      }

  pub fits_code : Fits n state ds → stroke_code n state ds ≡ 0
  unfolding stroke_code none_twice
  fits_code f =
      let bs = borders ds in
      let i = all_borders (λ e. ltb e n) ds ∙ true_all (λ e. ltb e n) bs (λ e m. lt-ltb e n (f.inside e (in_count e bs m))) in
      let o = true_all (λ x. leb (count x bs) 1) bs (λ e m. le-leb _ 1 (f.once e)) in
      let u = all_borders (λ e. eqb (state e) 0) ds ∙ true_all (λ e. eqb (state e) 0) bs (λ e m. eq-eqb (state e) 0 (f.free e (in_count e bs m))) in
      rw (i, o, u)

-- the answer depends on the states below n alone
pub fits_same : (n : ℕ) (f g : ℕ → ℕ) (ds : List Decision) → ((e : ℕ) → e < n → f e ≡ g e) → Fits n f ds → Fits n g ds
fits_same n f g ds q k = record { inside = k.inside; once = k.once; free = λ e h. sym (q e (k.inside e h)) ∙ k.free e h }

all_same : (n : ℕ) (f g : ℕ → ℕ) (ds : List Decision) → ((e : ℕ) → e < n → f e ≡ g e) → all (λ (d : Decision). ltb d.border n) ds ≡ true
    → all (λ (d : Decision). eqb (f d.border) 0) ds ≡ all (λ (d : Decision). eqb (g d.border) 0) ds
unfolding all
all_same n f g [] q i = refl
all_same n f g (d ∷ ds) q i =
    ⊎_elim
    (λ (t : ltb d.border n ≡ true).
    let r = all_same n f g ds q (rw t at i) in
    rw (q d.border (ltb-true d.border n t)) (ap (both (eqb (g d.border) 0)) r))
    (λ (t : ltb d.border n ≡ false). absurd (true≢false (sym i ∙ rw t)))
    (true_or_false (ltb d.border n))

pub code_same : (n : ℕ) (f g : ℕ → ℕ) (ds : List Decision) → ((e : ℕ) → e < n → f e ≡ g e) → stroke_code n f ds ≡ stroke_code n g ds
unfolding stroke_code
code_same n f g ds q =
    ⊎_elim
    (λ (t : all (λ (d : Decision). ltb d.border n) ds ≡ true). rw (t, all_same n f g ds q t))
    (λ (t : all (λ (d : Decision). ltb d.border n) ds ≡ false). rw t)
    (true_or_false (all (λ (d : Decision). ltb d.border n) ds))

module _ (n : ℕ) (given : ℕ → Bool) where
  pub sound_stroke : (l ds : List Decision) → Sound n given l → Fits n (standing given l) ds → Sound n given (l ++ ds)
  sound_stroke l ds s f =
      let new : (e : ℕ) → 1 ≤ count e (borders ds) → (given e ≡ false) × (count e (borders l) ≡ 0) = λ e h. undecided n given l e (f.free e h) in
      record {
        once = λ e.
            ⊎_elim
            (λ (h : 1 ≤ count e (borders ds)). omega (arith, count_both l ds e, f.once e, (new e h).1))
            (λ (h : count e (borders ds) < 1). omega (arith, count_both l ds e, s.once e))
            (le_or_lt 1 (count e (borders ds)));
        inside = λ e h.
            ⊎_elim
            (λ (k : 1 ≤ count e (borders ds)). f.inside e k)
            (λ (k : count e (borders ds) < 1). s.inside e (omega (arith, count_both l ds e)))
            (le_or_lt 1 (count e (borders ds)));
        free = λ e h.
            ⊎_elim
            (λ (k : 1 ≤ count e (borders ds)). (new e k).0)
            (λ (k : count e (borders ds) < 1). s.free e (omega (arith, count_both l ds e)))
            (le_or_lt 1 (count e (borders ds)));
      }

  -- a stroke cut in two
  module _ (l xs ys : List Decision) where
    pub fits_first : Fits n (standing given l) (xs ++ ys) → Fits n (standing given l) xs
    fits_first f =
        record {
          inside = λ e h. f.inside e (omega (arith, count_both xs ys e));
          once = λ e. omega (arith, f.once e, count_both xs ys e);
          free = λ e h. f.free e (omega (arith, count_both xs ys e));
        }

    pub fits_then : Fits n (standing given l) (xs ++ ys) → Fits n (standing given (l ++ xs)) ys
    fits_then f =
        record {
          inside = λ e h. f.inside e (omega (arith, count_both xs ys e));
          once = λ e. omega (arith, f.once e, count_both xs ys e);
          free = λ e h.
              let k = undecided n given l e (f.free e (omega (arith, count_both xs ys e))) in
              not_decided n given (l ++ xs) e k.0 (omega (arith, count_both l xs e, count_both xs ys e, f.once e, k.1));
        }

    pub fits_both : Fits n (standing given l) xs → Fits n (standing given (l ++ xs)) ys → Fits n (standing given l) (xs ++ ys)
    fits_both f g =
        let new : (e : ℕ) → 1 ≤ count e (borders ys) → (given e ≡ false) × (count e (borders (l ++ xs)) ≡ 0) = λ e h. undecided n given (l ++ xs) e (g.free e h) in
        record {
          inside = λ e h.
              ⊎_elim
              (λ (k : 1 ≤ count e (borders ys)). g.inside e k)
              (λ (k : count e (borders ys) < 1). f.inside e (omega (arith, count_both xs ys e)))
              (le_or_lt 1 (count e (borders ys)));
          once = λ e.
              ⊎_elim
              (λ (k : 1 ≤ count e (borders ys)). omega (arith, count_both xs ys e, count_both l xs e, (new e k).1, g.once e))
              (λ (k : count e (borders ys) < 1). omega (arith, count_both xs ys e, f.once e))
              (le_or_lt 1 (count e (borders ys)));
          free = λ e h.
              ⊎_elim
              (λ (k : 1 ≤ count e (borders ys)). not_decided n given l e (new e k).0 (omega (arith, count_both l xs e, (new e k).1)))
              (λ (k : count e (borders ys) < 1). f.free e (omega (arith, count_both xs ys e)))
              (le_or_lt 1 (count e (borders ys)));
        }
