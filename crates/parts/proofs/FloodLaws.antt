-- The steps of a flood by a walk that calls itself, and what a sweep of floods in the order of the vertices leaves: every vertex marked, and the
-- number of parts. Assumes nothing.
use Prim.Native.Nat.{ℕ, zero, suc, ◌+◌, ◌≤◌, ◌<◌}
use mathlib.Core.Path.{◌≡◌, refl, sym, ◌∙◌}
use mathlib.Core.Logic.{◌⊎◌, inl, inr, ◌≢◌, ⊎_elim}
use mathlib.Core.List.{List}
use native.Mathlib.Omega.{arith}
use native.Mathlib.Numerals.{add-one}
use borrow.Author.Tests.{eq-eqb, ne_eqb}
use lib.ListN.{get_or, length, set, length-set}
use lib.Seq.{get_or-set_same, get_or-set_other}
use Rattle.lists.proofs.Cases.{le_or_lt, eq_or_ne}
use Rattle.parts.specs.Parts.{Edge, Joined, same, over, back, then, root, begun, Within}
use Rattle.parts.specs.Flood.{HasMark, Link, blank, Grown, Flooded, Swept}
use Rattle.parts.proofs.PartLaws.{root_le, to_root, joined_root, begun_first, begun_later, joined_keeps}
use Rattle.parts.proofs.PartLists.{within_ends}

-- LINKS

pub link_joined : (E : List Edge) (c d : ℕ) → Link E c d → Joined E c d
link_joined E c d (inl m) = over m
link_joined E c d (inr m) = back (over m)

-- MARKS

module _ (free : ℕ) (marks : List ℕ) (d k : ℕ) where
  pub marked_here : d < length marks → k ≢ free → HasMark free (set marks d k) d
  marked_here h z q = z (sym (get_or-set_same marks d k 0 h) ∙ q)

  pub marked_other : (c : ℕ) → c ≢ d → HasMark free (set marks d k) c → HasMark free marks c
  marked_other c z m q = m (get_or-set_other marks d c k 0 z ∙ q)

pub blank_le : (free n : ℕ) (marks : List ℕ) → blank free n marks ≤ n
unfolding blank
blank_le free zero marks = omega arith
blank_le free (suc n) marks =
    ⊎_elim
    (λ q. rw (eq-eqb (get_or marks n 0) free q) (omega (arith, blank_le free n marks)))
    (λ q. rw (ne_eqb (get_or marks n 0) free q) (omega (arith, blank_le free n marks)))
    (eq_or_ne (get_or marks n 0) free)

-- where no mark is lost, no more are missing
pub blank_keeps : (free n : ℕ) (marks marks' : List ℕ) → ((c : ℕ) → HasMark free marks c → HasMark free marks' c) → blank free n marks' ≤ blank free n marks
unfolding blank
blank_keeps free zero marks marks' f = omega arith
blank_keeps free (suc n) marks marks' f =
    ⊎_elim
    (λ (q : get_or marks n 0 ≡ free).
    ⊎_elim
    (λ p. rw (eq-eqb (get_or marks n 0) free q, eq-eqb (get_or marks' n 0) free p) (omega (arith, blank_keeps free n marks marks' f)))
    (λ p. rw (eq-eqb (get_or marks n 0) free q, ne_eqb (get_or marks' n 0) free p) (omega (arith, blank_keeps free n marks marks' f)))
    (eq_or_ne (get_or marks' n 0) free))
    (λ (q : get_or marks n 0 ≢ free).
    rw (ne_eqb (get_or marks n 0) free q, ne_eqb (get_or marks' n 0) free (f n q)) (omega (arith, blank_keeps free n marks marks' f)))
    (eq_or_ne (get_or marks n 0) free)

blank_above : (free n : ℕ) (marks : List ℕ) (d k : ℕ) → n ≤ d → blank free n (set marks d k) ≡ blank free n marks
unfolding blank
blank_above free zero marks d k h = refl
blank_above free (suc n) marks d k h = cc (blank_above free n marks d k (omega arith), get_or-set_other marks d n k 0 (omega arith))

-- a mark more is a vertex less without one
pub blank_set : (free n : ℕ) (marks : List ℕ) (d k : ℕ) → d < n → d < length marks → get_or marks d 0 ≡ free → k ≢ free
    → blank free n (set marks d k) + 1 ≡ blank free n marks
unfolding blank
blank_set free zero marks d k h l q z = omega arith
blank_set free (suc n) marks d k h l q z =
    ⊎_elim
    (λ (e : n ≤ d).
    let e' : n ≡ d = omega arith in
    rw (e', get_or-set_same marks d k 0 l, ne_eqb k free z, eq-eqb (get_or marks d 0) free q) (omega (arith, blank_above free d marks d k (omega arith))))
    (λ (e : d < n). rw (get_or-set_other marks d n k 0 (omega arith)) (omega (arith, blank_set free n marks d k e l q z)))
    (le_or_lt n d)

-- A FLOOD GROWS

pub grown_keeps : {E : List Edge} {free n s k : ℕ} {Open : ℕ → Type 0} {marks marks' : List ℕ} → Grown E free n s k Open marks marks'
    → (c : ℕ) → HasMark free marks c → HasMark free marks' c
grown_keeps g c m = rw (g.keeps c m) m

module _ {E : List Edge} {free n s k : ℕ} {Open : ℕ → Type 0} {marks marks' : List ℕ} (g : Grown E free n s k Open marks marks') where
  -- an open vertex whose neighbours are all marked is open no more
  pub grow_shut : {Open' : ℕ → Type 0} → ((c : ℕ) → Open c → Open' c ⊎ ((d : ℕ) → Link E c d → HasMark free marks' d)) → Grown E free n s k Open' marks marks'
  grow_shut f =
      record {
        keeps = g.keeps;
        new = g.new;
        shut = λ c d i m.
            ⊎_elim
            (λ y. inl y)
            (λ y. inr (⊎_elim (λ w. inl w) (λ w. ⊎_elim (λ o. inr o) (λ all. inl (all d i)) (f c w)) y))
            (g.shut c d i m);
        here = g.here;
        rest = g.rest;
        size = g.size;
        long = g.long;
      }

  -- a whole flood from d, a vertex joined to s, is part of the flood from s
  pub grow_more : {marks'' : List ℕ} (d : ℕ) → Joined E s d → Flooded E free n d k marks' marks'' → Grown E free n s k Open marks marks''
  grow_more d j f =
      record {
        keeps = λ c m. f.keeps c (grown_keeps g c m) ∙ g.keeps c m;
        new = λ c cn m.
            ⊎_elim
            (λ (y : HasMark free marks' c). ⊎_elim (λ w. inl w) (λ w. inr (f.keeps c y ∙ w.0, w.1)) (g.new c cn y))
            (λ y. inr (y.0, then j y.1))
            (f.new c cn m);
        shut = λ c b i m.
            ⊎_elim
            (λ (y : HasMark free marks' c).
            ⊎_elim (λ w. inl w) (λ w. inr (⊎_elim (λ v. inl (grown_keeps f b v)) (λ v. inr v) w)) (g.shut c b i y))
            (λ y. inr (⊎_elim (λ w. inl w) (λ w. absurd w) y))
            (f.shut c b i m);
        here = grown_keeps f s g.here;
        rest = λ c h. f.rest c h ∙ g.rest c h;
        size = f.size ∙ g.size;
        long = f.long;
      }

pub grow_start : (E : List Edge) (free n s k : ℕ) (marks : List ℕ) → s < n → n ≤ length marks → get_or marks s 0 ≡ free → k ≢ free
    → Grown E free n s k (λ c. c ≡ s) marks (set marks s k)
grow_start E free n s k marks sn l q z =
    record {
      keeps = λ c m. get_or-set_other marks s c k 0 (λ (e : c ≡ s). m (rw e q));
      new = λ c cn m.
          ⊎_elim
          (λ (e : c ≡ s). inr (rw e (get_or-set_same marks s k 0 (omega arith)), same (sym e)))
          (λ (e : c ≢ s). inl (marked_other free marks s k c e m))
          (eq_or_ne c s);
      shut = λ c d i m.
          ⊎_elim (λ (e : c ≡ s). inr (inr e)) (λ (e : c ≢ s). inl (marked_other free marks s k c e m)) (eq_or_ne c s);
      here = marked_here free marks s k (omega arith) z;
      rest = λ c h. get_or-set_other marks s c k 0 (omega arith);
      size = simp length-set;
      long = simp length-set l;
    }

-- A SWEEP IN THE ORDER OF THE VERTICES

link_within : (n : ℕ) (E : List Edge) (c d : ℕ) → Within n E → Link E c d → c < n
link_within n E c d k (inl m) = (within_ends n E c d k m).0
link_within n E c d k (inr m) = (within_ends n E d c k m).1

pub sweep_start : (E : List Edge) (free n : ℕ) (marks : List ℕ) → Within n E → n ≤ length marks → ((c : ℕ) → c < n → get_or marks c 0 ≡ free) → Swept E free n 0 0 marks
sweep_start E free n marks inside l z =
    record {
      seen = λ c h m. absurd (m (z c h));
      all = λ c h. omega arith;
      shut = λ c d i m. absurd (m (z c (link_within n E c d inside i)));
      count = unfold begun in refl;
      long = l;
    }

module _ {E : List Edge} {free n s k : ℕ} {marks : List ℕ} (w : Swept E free n s k marks) where
  -- a seed without a mark is the first of its part
  pub seed_root : get_or marks s 0 ≡ free → root E s ≡ s
  seed_root q =
      ⊎_elim
      (λ (h : s ≤ root E s). omega (arith, root_le E s))
      (λ (h : root E s < s).
      absurd ((joined_keeps (HasMark free marks) (λ c d m. (w.shut c d (inl m), w.shut d c (inr m))) (to_root E s)).1 (w.all (root E s) h) q))
      (le_or_lt s (root E s))

  -- the part of a seed without a mark is flooded
  pub sweep_flood : {j : ℕ} {marks' : List ℕ} → get_or marks s 0 ≡ free → Flooded E free n s j marks marks' → Swept E free n (s + 1) (k + 1) marks'
  sweep_flood q f =
      let r : root E s ≡ s = seed_root q in
      record {
        seen = λ c h m. ⊎_elim (λ y. omega (arith, w.seen c h y)) (λ y. omega (arith, joined_root y.1)) (f.new c h m);
        all = λ c h. ⊎_elim (λ (e : c ≡ s). rw e f.here) (λ (e : c ≢ s). grown_keeps f c (w.all c (omega arith))) (eq_or_ne c s);
        shut = λ c d i m.
            ⊎_elim
            (λ y. grown_keeps f d (w.shut c d i y))
            (λ y. ⊎_elim (λ v. v) (λ v. absurd v) y)
            (f.shut c d i m);
        count = rw (add-one s) (omega (arith, w.count, begun_first E s r));
        long = f.long;
      }

  -- a seed that has a mark is passed over
  pub sweep_skip : s < n → HasMark free marks s → Swept E free n (s + 1) k marks
  sweep_skip sn m =
      record {
        seen = λ c h y. omega (arith, w.seen c h y);
        all = λ c h. ⊎_elim (λ (e : c ≡ s). rw e m) (λ (e : c ≢ s). w.all c (omega arith)) (eq_or_ne c s);
        shut = w.shut;
        count = rw (add-one s) (w.count ∙ sym (begun_later E s (omega (arith, w.seen s sn m))));
        long = w.long;
      }
