-- The loops that put question 2: what is known of the vertices that were looked at, and what one that fails decides. Assumes nothing.
use Prim.Native.Nat.{ℕ, ◌+◌, ◌≤◌, ◌<◌}
use mathlib.Core.Path.{◌≡◌, refl, sym, ◌∙◌}
use mathlib.Core.Logic.{◌≢◌, ⊎_elim}
use mathlib.Core.Bool.{true, false}
use mathlib.Core.List.{List}
use native.Mathlib.Omega.{arith}
use borrow.Author.Tests.{le-ltb, lt-ltb, ltb-true, le-leb, ne_eqb}
use lib.Dec.{ltb}
use lib.ListN.{get_or, length, take}
use Rattle.std.proofs.lemmas.List.{get_or-take, length-take-le}
use Rattle.lists.specs.Lists.{range, all, In}
use Rattle.lists.proofs.Cases.{le_or_lt, true_or_false}
use Rattle.lists.proofs.ChoiceLaws.{same_truth}
use Rattle.lists.proofs.ListLaws.{all_true, true_all, all_not, range_in, in_get_d, get_d_in}
use Rattle.union_find.specs.Chains.{up, climb, is_root, shortened, parents_exist, chains_end}
use Rattle.union_find.specs.Requires.{Parents, Stays}
use Rattle.union_find.specs.UnionFind.{holds_of, check_of, vertex_of}
use Rattle.union_find.specs.declared.UnionFind.{UnionFind}
use Rattle.union_find.proofs.RootLaws.{Root, root_here, root_climb, ends_end, exist_below, below_exist, holds_good}
use Rattle.union_find.proofs.ChainLaws.{parents_stay}
use Rattle.union_find.proofs.KeepLaws.{SameRoots, Below, same_then, shortened_keeps, shortened_below}

-- the test of the vertices' parents, in their order
pub exist_taken : (n : ℕ) (p : List ℕ) → n ≤ length p → all (λ v. ltb v n) (take n p) ≡ parents_exist n p
exist_taken n p l =
    let long : length (take n p) ≡ n = length-take-le n p l in
    same_truth (all (λ v. ltb v n) (take n p)) (parents_exist n p)
    (λ q.
    below_exist n p
    (λ x h.
    let m : In (get_or (take n p) x 0) (take n p) = get_d_in 0 (take n p) x (omega arith) in
    rw (get_or-take n p x 0 h) at (ltb-true _ n (all_true (λ v. ltb v n) (take n p) q (get_or (take n p) x 0) m))))
    (λ q.
    true_all (λ v. ltb v n) (take n p)
    (λ v m.
    let o = in_get_d 0 v (take n p) m in
    let e : get_or p o.0 0 ≡ v = rw (get_or-take n p o.0 0 (omega (arith, o.1))) at o.2 in
    lt-ltb v n (rw e at (exist_below n p q o.0 (omega (arith, o.1))))))

-- q, in which the vertices before i were found, has p's roots, and those vertices' chains end
pub record Looked (n : ℕ) (p q : List ℕ) (i : ℕ) : Type 0 where
  pub below : Below n q
  pub same : SameRoots p q
  pub ends : (x : ℕ) → x < i → up p (climb n p x) ≡ climb n p x

module _ (n : ℕ) (p : List ℕ) (k : Parents n p) where
  pub look_none : (q : List ℕ) → q ≡ p → Looked n p q 0
  look_none q e =
      rw e (record { below = k.below; same = λ x r. (λ j. j, λ j. j); ends = λ x h. omega arith })

  pub look_stays : (q : List ℕ) (i : ℕ) → Looked n p q i → i < n → Stays q i
  look_stays q i w h = parents_stay n q (record { bound = k.bound; below = w.below }) i h

  module _ (q : List ℕ) (i r : ℕ) (w : Looked n p q i) (h : i < n) (er : r ≡ climb n q i) where
    pub look_on : r < 1024
    look_on = rw er (look_stays q i w h n)

    -- a root of one is a root of the other
    found : up p r ≡ r → Root q i r
    found e = record { steps = n; there = sym er; stop = ((w.same r r).0 (root_here p r e)).stop }

    look_ends : up p r ≡ r → up p (climb n p i) ≡ climb n p i
    look_ends e = rw (root_climb n p k.below i r h ((w.same i r).1 (found e))) e

    pub look_more : (q' : List ℕ) → up p r ≡ r → q' ≡ shortened n q i → Looked n p q' (i + 1)
    look_more q' e eq =
        rw eq (record {
          below = shortened_below n n q i w.below h;
          same = same_then p q (shortened n q i) w.same (shortened_keeps n q i (rw (← er) (found e).stop));
          ends = λ x l.
              ⊎_elim
              (λ (g : i ≤ x). let s : x ≡ i = omega arith in rw s (look_ends e))
              (λ (g : x < i). w.ends x g)
              (le_or_lt i x);
        })

    pub look_not : up p r ≢ r → false ≡ chains_end n p
    unfolding chains_end
    look_not z =
        sym
        (all_not (λ x. is_root p (climb n p x)) (range n) i (range_in n i h)
        (ne_eqb (up p (climb n p i)) (climb n p i)
        (λ e.
        let j : Root p i (climb n p i) = record { steps = n; there = refl; stop = e } in
        let s : r ≡ climb n p i = er ∙ root_climb n q w.below i (climb n p i) h ((w.same i (climb n p i)).0 j) in
        z (rw s e))))

  pub look_all_lem : (q : List ℕ) (i : ℕ) → Looked n p q i → n ≤ i → true ≡ chains_end n p
  look_all_lem q i w l = sym (ends_end n p (λ x h. w.ends x (omega arith)))

-- what `check` and `check_vertex` tell: the union holds together, and the vertex exists
pub check_holds : (u : UnionFind) → 0 ≡ check_of u → (u.n ≤ 1024) × (holds_of u.n u.parent ≡ true)
check_holds u e =
    ⊎_elim
    (λ (l : u.n ≤ 1024).
    ⊎_elim
    (λ (t : holds_of u.n u.parent ≡ true). (l, t))
    (λ (f : holds_of u.n u.parent ≡ false). absurd (omega (arith, simp (le-ltb 1024 u.n l, f) at e)))
    (true_or_false (holds_of u.n u.parent)))
    (λ (l : 1024 < u.n). absurd (omega (arith, simp (lt-ltb 1024 u.n l) at e)))
    (le_or_lt u.n 1024)

pub check_parents : (u : UnionFind) → 0 ≡ check_of u → Parents u.n u.parent
check_parents u e = let o = check_holds u e in record { bound = o.0; below = (holds_good u.n u.parent o.1).below }

pub vertex_on : (u : UnionFind) (x : ℕ) → 0 ≡ vertex_of u x → x < u.n
vertex_on u x e =
    ⊎_elim (λ (l : u.n ≤ x). omega (arith, simp (le-leb u.n x l) at e)) (λ (l : x < u.n). l) (le_or_lt u.n x)
