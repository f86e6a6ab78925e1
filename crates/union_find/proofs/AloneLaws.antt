-- Vertices that are their own parents: the stores of `alone`, and what they leave. Assumes nothing.
use Prim.Native.Nat.{ℕ, zero, suc, ◌+◌, ◌-◌, ◌≤◌, ◌<◌}
use mathlib.Core.Path.{◌≡◌, refl, ap, sym, ◌∙◌}
use mathlib.Core.Logic.{⊎_elim}
use mathlib.Core.List.{List}
use native.Mathlib.Omega.{arith}
use native.Mathlib.Numerals.{add-one}
use native.Mathlib.Nat.{sub-zero}
use lib.ListN.{get_or, set, take, length, length-set}
use borrow.Rule.Slice.PartMut.{put_mid}
use lib.Seq.{sets, length-sets, length-take-le, take-length, get_or-set_same, get_or-set_other}
use Rattle.lists.specs.Lists.{count_from, range}
use Rattle.lists.proofs.Cases.{le_or_lt}
use Rattle.lists.proofs.ListLaws.{range_length}
use Rattle.lists.proofs.SetsLaws.{front, part_written}
use Rattle.union_find.specs.Chains.{up}

-- what is left to store from place i on
abbrev pub left : List ℕ → ℕ → ℕ → List ℕ
left p i n = sets p i (count_from i (n - i))

module _ (p : List ℕ) (i n : ℕ) where
  pub left_step : i < n → left p i n ≡ left (set p i i) (i + 1) n
  unfolding count_from
  left_step h = let e : n - i ≡ suc (n - (i + 1)) = omega arith in rw (e, add-one)

  pub left_none : n ≤ i → left p i n ≡ p
  unfolding count_from
  left_none h = let e : n - i ≡ 0 = omega arith in rw e

pub left_all : (p : List ℕ) (n : ℕ) → left p 0 n ≡ sets p 0 (range n)
unfolding range
left_all p n = simp sub-zero

-- the first n places, when nothing is left
pub left_whole : (p own : List ℕ) (n : ℕ) → n ≤ length p → own ≡ left (take n p) 0 n → put_mid 0 n p own ≡ sets p 0 (range n)
left_whole p own n h q =
    let size : length (take n p) ≡ n = length-take-le n p h in
    let all : sets (take n p) 0 (range n) ≡ range n =
    sym (take-length (sets (take n p) 0 (range n)))
    ∙ ap (λ k. take k (sets (take n p) 0 (range n))) (length-sets (take n p) 0 (range n) ∙ size ∙ sym (range_length n))
    ∙ front (take n p) (range n) (omega (arith, size, range_length n)) in
    ap (put_mid 0 n p) (q ∙ left_all (take n p) n ∙ all) ∙ part_written p (range n) 0 n (sym (range_length n)) (omega (arith, range_length n, h))

-- each vertex is its own parent
count_below : (k a : ℕ) (p : List ℕ) (x : ℕ) → x < a → get_or (sets p a (count_from a k)) x 0 ≡ get_or p x 0
unfolding count_from
count_below zero a p x h = refl
count_below (suc k) a p x h = count_below k (suc a) (set p a a) x (omega arith) ∙ get_or-set_other p a x a 0 (omega arith)

count_self : (k a : ℕ) (p : List ℕ) (x : ℕ) → a + k ≤ length p → a ≤ x → x < a + k → get_or (sets p a (count_from a k)) x 0 ≡ x
unfolding count_from
count_self zero a p x l g h = omega arith
count_self (suc k) a p x l g h =
    ⊎_elim
    (λ (e : x ≤ a).
    let q : x ≡ a = omega arith in rw q (count_below k (suc a) (set p a a) a (omega arith) ∙ get_or-set_same p a a 0 (omega arith)))
    (λ (e : a < x). count_self k (suc a) (set p a a) x (simp length-set (omega arith)) e (omega arith))
    (le_or_lt x a)

pub alone_up : (n : ℕ) (p : List ℕ) → n ≤ length p → (x : ℕ) → x < n → up (sets p 0 (range n)) x ≡ x
unfolding range
alone_up n p l x h = count_self n 0 p x (omega arith) (omega arith) (omega arith)
