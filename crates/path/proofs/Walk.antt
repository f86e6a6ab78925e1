-- The walk back: what is left of it, and that it ends. Assumes nothing.
use Prim.Native.Nat.{ℕ, ◌+◌, ◌<◌}
use mathlib.Core.Path.{◌≡◌, refl, ap, ap₂, sym, ◌∙◌}
use mathlib.Core.Logic.{◌≢◌}
use mathlib.Core.List.{List, [], ◌∷◌}
use native.Mathlib.Omega.{arith}
use native.Mathlib.Numerals.{add-one}
use lib.ListN.{get_or, length, set, length-set}
use lib.Seq.{sets}
use Rattle.limits.specs.Limits.{most_cells}
use Rattle.path.specs.declared.FoundBy.{FoundBy}
use Rattle.path.specs.Trace.{Notes, FoundAs, Back, Walks}
use Rattle.std.specs.Prelude.{Option, Some, None}

by_is : {c e c' e' : ℕ} → ◌≡◌ {A = Option FoundBy} (Some (record { finder = c; entry = e })) (Some (record { finder = c'; entry = e' })) → (c ≡ c') × (e ≡ e')
by_is q = (ap finder_of q, ap entry_of q)
  where
    finder_of : Option FoundBy → ℕ
    finder_of None = 0
    finder_of (Some b) = b.finder

    entry_of : Option FoundBy → ℕ
    entry_of None = 0
    entry_of (Some b) = b.entry

module _ (start : ℕ) (f : Notes) where
  -- there is one way back
  one_way : (x : ℕ) (p p' : List ℕ) → Back start f x p → Back start f x p' → p ≡ p'
  one_way x [] [] k k' = refl
  one_way x [] (b ∷ p') k k' = absurd (k'.0 k)
  one_way x (b ∷ p) [] k k' = absurd (k.0 k')
  one_way x (b ∷ p) (b' ∷ p') k k' =
      let o = k.2 in
      let o' = k'.2 in
      let same = by_is (sym o.1 ∙ o'.1) in
      ap₂ ◌∷◌ same.1 (one_way o'.0 p p' (rw same.0 at o.2) o'.2)

  at_start : (x : ℕ) (p : List ℕ) → Back start f x p → x ≡ start → p ≡ []
  at_start x [] k i = refl
  at_start x (b ∷ p) k i = absurd (k.0 i)

  -- from a cell that is not the start
  further : (x : ℕ) (p : List ℕ) → Back start f x p → x ≢ start → (c e : ℕ) × ((r : List ℕ) × FoundAs f x c e × (p ≡ e ∷ r) × Back start f c r)
  further x [] k i = absurd (i k)
  further x (b ∷ p) k i = (k.2.0, b, (p, k.2.1, refl, k.2.2))

  back_small : start < most_cells → (x : ℕ) (p : List ℕ) → Back start f x p → x < most_cells
  back_small h x [] k = omega (arith, k)
  back_small h x (b ∷ p) k = k.1

-- n entries are written; from x on the rest is p, of the whole list
pub record Walking (start target : ℕ) (f : Notes) (buf₀ buf : List ℕ) (n x : ℕ) : Type 0 where
  pub whole : List ℕ
  pub from_target : Back start f target whole
  pub p : List ℕ
  pub back : Back start f x p
  pub count : n + length p ≡ length whole
  pub begins : start < most_cells
  pub fits : length whole < length buf₀
  pub small : x < most_cells
  pub room : n < length buf
  pub long : length buf ≡ length buf₀
  pub left : sets buf n p ≡ sets buf₀ 0 whole

module _ {start target : ℕ} {f : Notes} {buf₀ : List ℕ} where
  pub walking_start : Walks start target f buf₀ → Walking start target f buf₀ buf₀ 0 target
  walking_start w =
      record {
        whole = w.p;
        from_target = w.back;
        p = w.p;
        back = w.back;
        count = omega arith;
        begins = w.begins;
        fits = w.fits;
        small = back_small start f w.begins target w.p w.back;
        room = omega (arith, w.fits);
        long = refl;
        left = refl;
      }

  module _ {buf : List ℕ} {n x : ℕ} (k : Walking start target f buf₀ buf n x) where
    -- a cell on the way is found
    pub walking_lost : x ≢ start → ((b : FoundBy) → get_or f x None ≡ Some b → ⊥) → ⊥
    walking_lost i z = let o = further start f x k.p k.back i in z _ o.2.1

    pub walking_on : x ≢ start → {c e : ℕ} → FoundAs f x c e → Walking start target f buf₀ (set buf n e) (n + 1) c
    walking_on i {c} {e} at =
        let w = further start f x k.p k.back i in
        let o = w.2 in
        let same = by_is (sym o.1 ∙ at) in
        let back : Back start f c o.0 = rw same.0 at o.3 in
        let is : k.p ≡ e ∷ o.0 = o.2 ∙ ap (λ y. y ∷ o.0) same.1 in
        record {
          whole = k.whole;
          from_target = k.from_target;
          p = o.0;
          back = back;
          count = omega (arith, ap length is, k.count);
          begins = k.begins;
          fits = k.fits;
          small = back_small start f k.begins c o.0 back;
          room = omega (arith, ap length is, k.count, k.fits, k.long, length-set buf n e);
          long = simp length-set k.long;
          left = rw (add-one n) (rw is at k.left);
        }

    pub walking_end : x ≡ start → (p : List ℕ) → Back start f target p → (n ≡ length p) × (buf ≡ sets buf₀ 0 p)
    walking_end i p w =
        let none_left : k.p ≡ [] = at_start start f x k.p k.back i in
        let same : k.whole ≡ p = one_way start f target k.whole p k.from_target w in
        (omega (arith, ap length none_left, ap length same, k.count), sym (ap (sets buf n) none_left) ∙ k.left ∙ ap (sets buf₀ 0) same)
