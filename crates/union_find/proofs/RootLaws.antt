-- The root of a vertex: it is one, a chain that ends does so within n steps, and a record holds together where every vertex has one. Assumes nothing.
use Prim.Native.Nat.{ℕ, zero, suc, ◌+◌, ◌-◌, ◌≤◌, ◌<◌}
use mathlib.Core.Path.{◌≡◌, refl, sym, ap, ◌∙◌}
use mathlib.Core.Logic.{⊎_elim}
use mathlib.Core.Bool.{Bool, true, false, true≢false}
use mathlib.Core.List.{List}
use native.Mathlib.Omega.{arith}
use borrow.Author.Tests.{eqb-true, eq-eqb, ltb-true, lt-ltb}
use lib.Dec.{ltb}
use Rattle.lists.specs.Lists.{range}
use Rattle.lists.proofs.Cases.{true_or_false}
use Rattle.lists.proofs.ChoiceLaws.{both_true, true_both}
use Rattle.lists.proofs.ListLaws.{all_true, true_all, range_in, in_range}
use Rattle.union_find.specs.Chains.{up, climb, is_root, parents_exist, chains_end}
use Rattle.union_find.specs.UnionFind.{holds_of}
use Rattle.union_find.proofs.ChainLaws.{climb_more}
use Rattle.union_find.proofs.Tally.{tally, tally_le, tally_more}

-- x's chain ends at r
pub record Root (p : List ℕ) (x r : ℕ) : Type 0 where
  pub steps : ℕ
  pub there : climb steps p x ≡ r
  pub stop : up p r ≡ r

pub root_here : (p : List ℕ) (x : ℕ) → up p x ≡ x → Root p x x
unfolding climb
root_here p x e = record { steps = 0; there = refl; stop = e }

pub root_above : (p : List ℕ) (x r : ℕ) → Root p (up p x) r → Root p x r
unfolding climb
root_above p x r k = record { steps = suc k.steps; there = k.there; stop = k.stop }

-- further steps stay at the root
climb_past : (p : List ℕ) (x r d : ℕ) → climb d p x ≡ r → up p r ≡ r → (e : ℕ) → climb (e + d) p x ≡ r
climb_past p x r d t s zero = let q : 0 + d ≡ d = omega arith in rw q t
climb_past p x r d t s (suc e) =
    let q : suc e + d ≡ suc (e + d) = omega arith in rw (q, climb_more (e + d) p x, climb_past p x r d t s e) s

pub root_one_lem : (p : List ℕ) (x r s : ℕ) → Root p x r → Root p x s → r ≡ s
root_one_lem p x r s j k =
    let q : k.steps + j.steps ≡ j.steps + k.steps = omega arith in
    sym (climb_past p x r j.steps j.there j.stop k.steps)
    ∙ ap (λ (d : ℕ). climb d p x) q
    ∙ climb_past p x s k.steps k.there k.stop j.steps

-- A chain among n vertices that ends does so within n steps: of the vertices whose chains end within d steps there are more than d,
-- as long as some chain is longer.
module _ (n : ℕ) (p : List ℕ) (b : (x : ℕ) → x < n → up p x < n) where
  within : ℕ → ℕ → Bool
  within d x = is_root p (climb d p x)

  within_more : (d x : ℕ) → within d x ≡ true → within (suc d) x ≡ true
  unfolding within
  within_more d x t = let e = eqb-true (up p (climb d p x)) (climb d p x) t in rw (climb_more d p x, e) t

  longer : (d x : ℕ) → x < n → within d x ≡ false → within (suc d) x ≡ true → d < tally (within d) n
  unfolding climb within
  longer zero x h f t = omega (arith, tally_more (λ y. false) (within 0) n (λ y l e. absurd (true≢false (sym e))) (up p x) (b x h) refl t)
  longer (suc d) x h f t =
      omega (arith, longer d (up p x) (b x h) f t, tally_more (within d) (within (suc d)) n (λ y l. within_more d y) (up p x) (b x h) f t)

  within_le : (d e x : ℕ) → within d x ≡ true → within (e + d) x ≡ true
  within_le d zero x t = let q : 0 + d ≡ d = omega arith in rw q t
  within_le d (suc e) x t = let q : suc e + d ≡ suc (e + d) = omega arith in rw q (within_more (e + d) x (within_le d e x t))

  within_n : (d x : ℕ) → x < n → within d x ≡ true → within n x ≡ true
  within_n zero x h t = let q : n + 0 ≡ n = omega arith in rw q at (within_le 0 n x t)
  within_n (suc d) x h t =
      ⊎_elim
      (λ (e : within d x ≡ true). within_n d x h e)
      (λ (e : within d x ≡ false).
      let l : suc d ≤ n = omega (arith, longer d x h e t, tally_le (within d) n) in
      let q : (n - suc d) + suc d ≡ n = omega arith in
      rw q at (within_le (suc d) (n - suc d) x t))
      (true_or_false (within d x))

  pub root_climb : (x r : ℕ) → x < n → Root p x r → climb n p x ≡ r
  unfolding within
  root_climb x r h k =
      let t : within k.steps x ≡ true = rw k.there (eq-eqb (up p r) r k.stop) in
      root_one_lem p x (climb n p x) r
      (record { steps = n; there = refl; stop = eqb-true (up p (climb n p x)) (climb n p x) (within_n k.steps x h t) })
      k

-- parents that hold together
pub record Good (n : ℕ) (p : List ℕ) : Type 0 where
  pub below : (x : ℕ) → x < n → up p x < n
  pub ends : (x : ℕ) → x < n → up p (climb n p x) ≡ climb n p x

module _ (n : ℕ) (p : List ℕ) where
  pub exist_below : parents_exist n p ≡ true → (x : ℕ) → x < n → up p x < n
  unfolding parents_exist
  exist_below t x h = ltb-true (up p x) n (all_true (λ y. ltb (up p y) n) (range n) t x (range_in n x h))

  pub below_exist : ((x : ℕ) → x < n → up p x < n) → parents_exist n p ≡ true
  unfolding parents_exist
  below_exist b = true_all (λ y. ltb (up p y) n) (range n) (λ x m. lt-ltb (up p x) n (b x (in_range n x m)))

  pub end_ends : chains_end n p ≡ true → (x : ℕ) → x < n → up p (climb n p x) ≡ climb n p x
  unfolding chains_end
  end_ends t x h =
      eqb-true (up p (climb n p x)) (climb n p x) (all_true (λ y. is_root p (climb n p y)) (range n) t x (range_in n x h))

  pub ends_end : ((x : ℕ) → x < n → up p (climb n p x) ≡ climb n p x) → chains_end n p ≡ true
  unfolding chains_end
  ends_end e =
      true_all (λ y. is_root p (climb n p y)) (range n) (λ x m. eq-eqb (up p (climb n p x)) (climb n p x) (e x (in_range n x m)))

  pub holds_good : holds_of n p ≡ true → Good n p
  holds_good t =
      let o = both_true (parents_exist n p) (chains_end n p) t in record { below = exist_below o.0; ends = end_ends o.1 }

  pub good_holds : Good n p → holds_of n p ≡ true
  good_holds g = true_both (parents_exist n p) (chains_end n p) (below_exist g.below) (ends_end g.ends)

  pub good_root : Good n p → (x : ℕ) → x < n → Root p x (climb n p x)
  good_root g x h = record { steps = n; there = refl; stop = g.ends x h }

  pub root_good : ((x : ℕ) → x < n → up p x < n) → ((x : ℕ) → x < n → (r : ℕ) × Root p x r) → Good n p
  root_good b e =
      record {
        below = b;
        ends = λ x h. let o = e x h in let q = root_climb n p b x o.0 h o.1 in rw q o.1.stop;
      }
