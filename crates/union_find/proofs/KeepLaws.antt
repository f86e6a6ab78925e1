-- Find changes no vertex' root, and unite makes two parts one. Assumes nothing.
use Prim.Native.Nat.{ℕ, zero, suc, ◌≤◌, ◌<◌}
use mathlib.Core.Path.{◌≡◌, refl, sym, ◌∙◌}
use mathlib.Core.Logic.{◌↔◌, ◌≢◌, ⊎_elim}
use mathlib.Core.List.{List}
use native.Mathlib.Omega.{arith}
use borrow.Author.Tests.{eq-eqb, ne_eqb}
use lib.Dec.{eqb}
use lib.ListN.{set, length, get_or-eq_default}
use lib.Seq.{get_or-set_same, get_or-set_other, set_out}
use Rattle.lists.specs.Choice.{pick}
use Rattle.lists.proofs.Cases.{le_or_lt, eq_or_ne}
use Rattle.union_find.specs.Chains.{up, climb, shortened}
use Rattle.union_find.proofs.ChainLaws.{climb_root, climb_below}
use Rattle.union_find.proofs.RootLaws.{Root, Good, root_here, root_above, root_one_lem, root_climb, good_root, root_good}

-- every vertex has the same root in both
abbrev pub SameRoots : List ℕ → List ℕ → Type 0
SameRoots p q = (x r : ℕ) → Root p x r ↔ Root q x r

pub same_then : (p q s : List ℕ) → SameRoots p q → SameRoots q s → SameRoots p s
same_then p q s f g x r = (λ j. (g x r).0 ((f x r).0 j), λ j. (f x r).1 ((g x r).1 j))

-- v, on the list, names its root r
module _ (p : List ℕ) (v r : ℕ) (l : v < length p) (k : Root p v r) where
  stays_root : (s : ℕ) → up p s ≡ s → up (set p v r) s ≡ s
  stays_root s e =
      ⊎_elim
      (λ (q : s ≡ v).
      rw q (get_or-set_same p v r 0 l ∙ root_one_lem p v r v k (rw q at (root_here p s e))))
      (λ (q : s ≢ v). get_or-set_other p v s r 0 q ∙ e)
      (eq_or_ne s v)

  names : Root (set p v r) v r
  names = root_above (set p v r) v r (rw (get_or-set_same p v r 0 l) (root_here (set p v r) r (stays_root r k.stop)))

  forth : (d x s : ℕ) → climb d p x ≡ s → up p s ≡ s → Root (set p v r) x s
  unfolding climb
  forth zero x s t e = rw t (root_here (set p v r) s (stays_root s e))
  forth (suc d) x s t e =
      ⊎_elim
      (λ (q : x ≡ v).
      let j : Root p x s = record { steps = suc d; there = t; stop = e } in
      let w : s ≡ r = root_one_lem p v s r (rw q at j) k in
      rw (q, w) names)
      (λ (q : x ≢ v). root_above (set p v r) x s (rw (get_or-set_other p v x r 0 q) (forth d (up p x) s t e)))
      (eq_or_ne x v)

  was_root : (s : ℕ) → up (set p v r) s ≡ s → Root p s s
  was_root s e =
      ⊎_elim
      (λ (q : s ≡ v). let w : r ≡ v = sym (get_or-set_same p v r 0 l) ∙ (rw q at e) in rw q (rw w at k))
      (λ (q : s ≢ v). root_here p s (sym (get_or-set_other p v s r 0 q) ∙ e))
      (eq_or_ne s v)

  back : (d x s : ℕ) → climb d (set p v r) x ≡ s → up (set p v r) s ≡ s → Root p x s
  unfolding climb
  back zero x s t e = rw t (was_root s e)
  back (suc d) x s t e =
      ⊎_elim
      (λ (q : x ≡ v).
      let j : Root (set p v r) x s = record { steps = suc d; there = t; stop = e } in
      let w : s ≡ r = root_one_lem (set p v r) v s r (rw q at j) names in
      rw (q, w) k)
      (λ (q : x ≢ v). root_above p x s (back d (up p x) s (rw (get_or-set_other p v x r 0 q) at t) e))
      (eq_or_ne x v)

  on_list : SameRoots p (set p v r)
  on_list x s = (λ j. forth j.steps x s j.there j.stop, λ j. back j.steps x s j.there j.stop)

-- a store behind the list's end changes nothing
set_keeps : (p : List ℕ) (v r : ℕ) → Root p v r → SameRoots p (set p v r)
set_keeps p v r k =
    ⊎_elim (λ (h : length p ≤ v). rw (set_out p v r h) (λ x s. (λ j. j, λ j. j))) (λ (h : v < length p). on_list p v r h k) (le_or_lt (length p) v)

-- a chain that ends within d steps is shortened
pub shortened_keeps : (d : ℕ) (p : List ℕ) (x : ℕ) → up p (climb d p x) ≡ climb d p x → SameRoots p (shortened d p x)
unfolding climb shortened
shortened_keeps zero p x e = λ y r. (λ j. j, λ j. j)
shortened_keeps (suc d) p x e =
    let ih : SameRoots p (shortened d p (up p x)) = shortened_keeps d p (up p x) e in
    let j : Root p x (climb (suc d) p x) = record { steps = suc d; there = refl; stop = e } in
    same_then p (shortened d p (up p x)) (shortened (suc d) p x) ih
    (set_keeps (shortened d p (up p x)) x (climb (suc d) p x) ((ih x (climb (suc d) p x)).0 j))

-- parents stay among the n vertices
abbrev pub Below : ℕ → List ℕ → Type 0
Below n p = (x : ℕ) → x < n → up p x < n

pub set_below : (n : ℕ) (p : List ℕ) (v r : ℕ) → Below n p → r < n → Below n (set p v r)
set_below n p v r b h x m =
    ⊎_elim
    (λ (q : x ≡ v).
    ⊎_elim
    (λ (l : length p ≤ v). rw (set_out p v r l) (b x m))
    (λ (l : v < length p). rw (q, get_or-set_same p v r 0 l) h)
    (le_or_lt (length p) v))
    (λ (q : x ≢ v). rw (get_or-set_other p v x r 0 q) (b x m))
    (eq_or_ne x v)

pub shortened_below : (n d : ℕ) (p : List ℕ) (v : ℕ) → Below n p → v < n → Below n (shortened d p v)
unfolding climb shortened
shortened_below n zero p v b h = b
shortened_below n (suc d) p v b h =
    set_below n (shortened d p (up p v)) v (climb (suc d) p v) (shortened_below n d p (up p v) b (b v h)) (climb_below n p b (suc d) v h)

-- roots that are kept keep parents good, and climbing leads to them
module _ (n : ℕ) (p q : List ℕ) (g : Good n p) (b : Below n q) (f : SameRoots p q) where
  pub same_good : Good n q
  same_good = root_good n q b (λ x h. (climb n p x, (f x (climb n p x)).0 (good_root n p g x h)))

  pub same_climb : (x : ℕ) → x < n → climb n q x ≡ climb n p x
  same_climb x h = root_climb n q b x (climb n p x) h ((f x (climb n p x)).0 (good_root n p g x h))

-- FIND keeps parents good and changes no vertex' root
module _ (n : ℕ) (p : List ℕ) (g : Good n p) (x : ℕ) (h : x < n) where
  pub find_good : Good n (shortened n p x)
  find_good = same_good n p (shortened n p x) g (shortened_below n n p x g.below h) (shortened_keeps n p x (g.ends x h))

  pub find_roots : (y : ℕ) → y < n → climb n (shortened n p x) y ≡ climb n p y
  find_roots = same_climb n p (shortened n p x) g (shortened_below n n p x g.below h) (shortened_keeps n p x (g.ends x h))

-- the root a is hung under the root c
module _ (p : List ℕ) (a c : ℕ) (ra : up p a ≡ a) (rc : up p c ≡ c) (z : a ≢ c) where
  -- of the vertices behind the list's end only 0 can be a root
  on : a < length p
  on =
      ⊎_elim
      (λ (h : length p ≤ a).
      ⊎_elim
      (λ (k : length p ≤ c). absurd (z (sym ra ∙ get_or-eq_default p 0 h ∙ sym (get_or-eq_default p 0 k) ∙ rc)))
      (λ (k : c < length p). omega (arith, sym ra ∙ get_or-eq_default p 0 h))
      (le_or_lt (length p) c))
      (λ (h : a < length p). h)
      (le_or_lt (length p) a)

  renamed : ℕ → ℕ
  renamed s = pick (eqb s a) c s

  hung_root : (s : ℕ) → up p s ≡ s → Root (set p a c) s (renamed s)
  unfolding renamed
  hung_root s e =
      ⊎_elim
      (λ (q : s ≡ a).
      let rc' : up (set p a c) c ≡ c = get_or-set_other p a c c 0 (λ (w : c ≡ a). z (sym w)) ∙ rc in
      rw (eq-eqb s a q, q) (root_above (set p a c) a c (rw (get_or-set_same p a c 0 on) (root_here (set p a c) c rc'))))
      (λ (q : s ≢ a). rw (ne_eqb s a q) (root_here (set p a c) s (get_or-set_other p a s c 0 q ∙ e)))
      (eq_or_ne s a)

  hung_climb : (d x s : ℕ) → climb d p x ≡ s → up p s ≡ s → Root (set p a c) x (renamed s)
  unfolding climb
  hung_climb zero x s t e = rw t (hung_root s e)
  hung_climb (suc d) x s t e =
      ⊎_elim
      (λ (q : x ≡ a).
      let w : s ≡ x = sym t ∙ climb_root (suc d) p x (rw q ra) in
      rw (← w) (hung_root s e))
      (λ (q : x ≢ a). root_above (set p a c) x (renamed s) (rw (get_or-set_other p a x c 0 q) (hung_climb d (up p x) s t e)))
      (eq_or_ne x a)

  pub hang_root : (x s : ℕ) → Root p x s → Root (set p a c) x (pick (eqb s a) c s)
  unfolding renamed
  hang_root x s j = hung_climb j.steps x s j.there j.stop
