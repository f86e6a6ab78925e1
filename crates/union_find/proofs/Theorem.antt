-- THE THEOREMS: from a fresh union, whatever find and unite calls were made, refused ones included, the record holds together, and two
-- vertices have one root exactly when the pairs united so far join them. Assumes nothing.
use Prim.Native.Nat.{ℕ, ◌≤◌, ◌<◌}
use mathlib.Core.Path.{◌≡◌}
use mathlib.Core.Logic.{◌↔◌, ⊎_elim}
use mathlib.Core.Bool.{true, false}
use mathlib.Core.List.{List, [], ◌∷◌}
use borrow.Author.Tests.{ltb-true, lt-ltb, le-ltb, le-leb, lt-leb}
use lib.Dec.{ltb}
use lib.ListN.{length-replicate}
use lib.Seq.{sets}
use Rattle.lists.specs.Choice.{both}
use Rattle.lists.specs.Lists.{range}
use Rattle.lists.proofs.Cases.{le_or_lt, true_or_false, not_both}
use Rattle.lists.proofs.ChoiceLaws.{both_true, true_both}
use Rattle.parts.specs.Parts.{Edge, Joined}
use Rattle.union_find.specs.Chains.{shortened, hung}
use Rattle.union_find.specs.UnionFind.{zeros, union_of, holds_of, new_of, find_of, unite_of}
use Rattle.union_find.specs.Calls.{Call, find, unite, root_in, after, run, after_calls, pairs_after, pairs_of}
use Rattle.union_find.specs.declared.UnionFind.{UnionFind}
use Rattle.union_find.proofs.RootLaws.{good_holds}
use Rattle.union_find.proofs.AloneLaws.{alone_up}
use Rattle.union_find.proofs.JoinLaws.{Joins, joins_none, joins_find, joins_unite}

-- a union of n vertices with the parts of E
pub record Keeps (n : ℕ) (u : UnionFind) (E : List Edge) : Type 0 where
  pub parents : List ℕ
  pub is : u ≡ union_of parents n
  pub joins : Joins n parents E

module _ (n : ℕ) (small : n ≤ 1024) where
  module _ (p : List ℕ) (E : List Edge) (k : Joins n p E) where
    holds : holds_of n p ≡ true
    holds = good_holds n p k.good

    find_out : (x : ℕ) → n ≤ x → (find_of (union_of p n) x).union ≡ union_of p n
    find_out x h = simp (le-ltb 1024 n small, holds, le-leb n x h)

    find_on : (x : ℕ) → x < n → (find_of (union_of p n) x).union ≡ union_of (shortened n p x) n
    find_on x h = simp (le-ltb 1024 n small, holds, lt-leb n x h)

    unite_out : (x y : ℕ) → both (ltb x n) (ltb y n) ≡ false → (unite_of (union_of p n) x y).union ≡ union_of p n
    unite_out x y f =
        ⊎_elim
        (λ (h : n ≤ x). simp (le-ltb 1024 n small, holds, le-leb n x h))
        (λ (h : x < n).
        ⊎_elim
        (λ (g : n ≤ y). simp (le-ltb 1024 n small, holds, lt-leb n x h, le-leb n y g))
        (λ (g : y < n). absurd (not_both (both (ltb x n) (ltb y n)) (true_both (ltb x n) (ltb y n) (lt-ltb x n h) (lt-ltb y n g)) f))
        (le_or_lt n y))
        (le_or_lt n x)

    unite_on : (x y : ℕ) → x < n → y < n → (unite_of (union_of p n) x y).union ≡ union_of (hung n p x y) n
    unite_on x y h g = simp (le-ltb 1024 n small, holds, lt-leb n x h, lt-leb n y g)

    keeps_find : (x : ℕ) → Keeps n (find_of (union_of p n) x).union E
    keeps_find x =
        ⊎_elim
        (λ (h : n ≤ x). record { parents = p; is = find_out x h; joins = k })
        (λ (h : x < n). record { parents = shortened n p x; is = find_on x h; joins = joins_find n p E k x h })
        (le_or_lt n x)

    keeps_unite : (x y : ℕ) → Keeps n (unite_of (union_of p n) x y).union (pairs_after n E (unite x y))
    unfolding pairs_after
    keeps_unite x y =
        ⊎_elim
        (λ (t : both (ltb x n) (ltb y n) ≡ true).
        let o = both_true (ltb x n) (ltb y n) t in
        let h : x < n = ltb-true x n o.0 in
        let g : y < n = ltb-true y n o.1 in
        rw t (record { parents = hung n p x y; is = unite_on x y h g; joins = joins_unite n p E k x y h g }))
        (λ (f : both (ltb x n) (ltb y n) ≡ false). rw f (record { parents = p; is = unite_out x y f; joins = k }))
        (true_or_false (both (ltb x n) (ltb y n)))

    keeps_call : (c : Call) → Keeps n (after (union_of p n) c) (pairs_after n E c)
    unfolding after pairs_after
    keeps_call (find x) = keeps_find x
    keeps_call (unite x y) = keeps_unite x y

  keeps_after : (u : UnionFind) (E : List Edge) → Keeps n u E → (c : Call) → Keeps n (after u c) (pairs_after n E c)
  keeps_after u E k c = rw k.is (keeps_call k.parents E k.joins c)

  keeps_run : (u : UnionFind) (E : List Edge) → Keeps n u E → (cs : List Call) → Keeps n (run u cs) (pairs_of n E cs)
  unfolding run pairs_of
  keeps_run u E k [] = k
  keeps_run u E k (c ∷ cs) = keeps_run (after u c) (pairs_after n E c) (keeps_after u E k c) cs

  keeps_new : Keeps n (new_of n).union []
  unfolding zeros
  keeps_new =
      record {
        parents = sets zeros 0 (range n);
        is = simp (le-ltb 1024 n small);
        joins = joins_none n (sets zeros 0 (range n)) (alone_up n zeros (rw (length-replicate {A = ℕ} 1024 0) small));
      }

  -- after every list of calls from a fresh union
  pub always_good : (cs : List Call) → let u = after_calls n cs in holds_of u.n u.parent ≡ true
  always_good cs = let k = keeps_run (new_of n).union [] keeps_new cs in rw k.is (good_holds n k.parents k.joins.good)

  pub one_root : (cs : List Call) (x y : ℕ) → x < n → y < n
      → (root_in (after_calls n cs) x ≡ root_in (after_calls n cs) y) ↔ Joined (pairs_of n [] cs) x y
  one_root cs x y h g = let k = keeps_run (new_of n).union [] keeps_new cs in rw k.is (k.joins.parts x y h g)
