-- The edges of a graph whose states pass: which they are, one edge more, and fewer parts with more of them. Assumes nothing.
use Prim.Native.Nat.{ℕ, zero, suc, ◌+◌, ◌≤◌, ◌<◌}
use mathlib.Core.Path.{◌≡◌, refl, sym, ap}
use mathlib.Core.Logic.{inl, inr, ⊎_elim}
use mathlib.Core.Bool.{Bool, true, false}
use mathlib.Core.List.{List, ◌∷◌}
use native.Mathlib.Omega.{arith}
use native.Mathlib.Numerals.{add-one}
use lib.ListN.{get_or}
use Rattle.lists.proofs.Cases.{le_or_lt, true_or_false}
use Rattle.parts.specs.Parts.{edge, Has, over, Within, begun}
use Rattle.parts.proofs.PartLaws.{edge_ends}
use Rattle.parts.proofs.PartLists.{within}
use Rattle.parts.proofs.UniteLaws.{begun_more}
use Rattle.room_parts.specs.Graph.{Graph, graph, edge_at, edges_if, parts_if}

module _ (p : ℕ → Bool) (g : Graph) (s : ℕ → ℕ) where
  pub edges_pass : (i : ℕ) → p (s i) ≡ true → edges_if p g s (i + 1) ≡ edge_at g i ∷ edges_if p g s i
  unfolding edges_if
  edges_pass i t = rw (add-one, t)

  pub edges_skip : (i : ℕ) → p (s i) ≡ false → edges_if p g s (i + 1) ≡ edges_if p g s i
  unfolding edges_if
  edges_skip i t = rw (add-one, t)

  -- an edge from c to d that passes, and its number
  pub record Passes (m c d : ℕ) : Type 0 where
    pub number : ℕ
    pub below : number < m
    pub passes : p (s number) ≡ true
    pub from : get_or g.us number 0 ≡ c
    pub into : get_or g.vs number 0 ≡ d

  passes_more : (m c d : ℕ) → Passes m c d → Passes (suc m) c d
  passes_more m c d k = record { number = k.number; below = omega (arith, k.below); passes = k.passes; from = k.from; into = k.into }

  passes_last : (m c d : ℕ) → p (s m) ≡ true → edge c d ≡ edge_at g m → Passes (suc m) c d
  passes_last m c d t q =
      let o = edge_ends {c = c} {d = d} {e = edge_at g m} q in
      record { number = m; below = omega arith; passes = t; from = sym o.0; into = sym o.1 }

  pub in_edges : (m c d : ℕ) → Has (edges_if p g s m) c d → Passes m c d
  unfolding edges_if
  in_edges zero c d h = absurd h
  in_edges (suc m) c d h =
      ⊎_elim
      (λ (t : p (s m) ≡ true). ⊎_elim (λ q. passes_last m c d t q) (λ k. passes_more m c d (in_edges m c d k)) (rw t at h))
      (λ (t : p (s m) ≡ false). passes_more m c d (in_edges m c d (rw t at h)))
      (true_or_false (p (s m)))

  pub edges_in : (m i : ℕ) → i < m → p (s i) ≡ true → Has (edges_if p g s m) (get_or g.us i 0) (get_or g.vs i 0)
  unfolding edges_if
  edges_in zero i h t = omega arith
  edges_in (suc m) i h t =
      ⊎_elim
      (λ (l : m ≤ i). let e : m ≡ i = omega arith in rw (e, t) (inl refl))
      (λ (l : i < m).
      let k : Has (edges_if p g s m) (get_or g.us i 0) (get_or g.vs i 0) = edges_in m i l t in
      ⊎_elim (λ (e : p (s m) ≡ true). rw e (inr k)) (λ (e : p (s m) ≡ false). rw e k) (true_or_false (p (s m))))
      (le_or_lt m i)

  pub edges_within : (n m : ℕ) → ((i : ℕ) → i < m → get_or g.us i 0 < n) → ((i : ℕ) → i < m → get_or g.vs i 0 < n) → Within n (edges_if p g s m)
  edges_within n m hu hv =
      within n (edges_if p g s m) (λ c d k. let o = in_edges m c d k in (rw o.from at (hu o.number o.below), rw o.into at (hv o.number o.below)))

-- where all that passes passes again, there are no more parts
pub parts_fewer : (p q : ℕ → Bool) (g : Graph) (s t : ℕ → ℕ) → ((i : ℕ) → i < g.edges → p (s i) ≡ true → q (t i) ≡ true) → parts_if q g t ≤ parts_if p g s
unfolding parts_if
parts_fewer p q g s t h =
    begun_more (edges_if p g s g.edges) (edges_if q g t g.edges)
    (λ c d k.
    let o = in_edges p g s g.edges c d k in
    over (rw (o.from, o.into) at (edges_in q g t g.edges o.number o.below (h o.number o.below o.passes))))
    g.vertices

-- the first i edges leave no fewer parts than all
pub parts_all : (p : ℕ → Bool) (g : Graph) (s : ℕ → ℕ) (i : ℕ) → i ≤ g.edges → parts_if p g s ≤ begun (edges_if p g s i) g.vertices
unfolding parts_if
parts_all p g s i l =
    begun_more (edges_if p g s i) (edges_if p g s g.edges)
    (λ c d k. let o = in_edges p g s i c d k in over (rw (o.from, o.into) at (edges_in p g s g.edges o.number (omega (arith, o.below)) o.passes)))
    g.vertices

-- the parts depend on the states of the graph's edges alone
edges_agree : (p : ℕ → Bool) (g : Graph) (s t : ℕ → ℕ) (m : ℕ) → ((i : ℕ) → i < m → s i ≡ t i) → edges_if p g s m ≡ edges_if p g t m
unfolding edges_if
edges_agree p g s t zero h = refl
edges_agree p g s t (suc m) h = rw (h m (omega arith), edges_agree p g s t m (λ i l. h i (omega arith)))

pub parts_agree : (p : ℕ → Bool) (g : Graph) (s t : ℕ → ℕ) → ((i : ℕ) → i < g.edges → s i ≡ t i) → parts_if p g s ≡ parts_if p g t
unfolding parts_if
parts_agree p g s t h = ap (λ E. begun E g.vertices) (edges_agree p g s t g.edges h)

-- and on the ends of those edges
edges_ends : (p : ℕ → Bool) (g h : Graph) (s : ℕ → ℕ) (m : ℕ) → ((i : ℕ) → i < m → edge_at g i ≡ edge_at h i) → edges_if p g s m ≡ edges_if p h s m
unfolding edges_if
edges_ends p g h s zero k = refl
edges_ends p g h s (suc m) k = rw (k m (omega arith), edges_ends p g h s m (λ i l. k i (omega arith)))

pub parts_ends : (p : ℕ → Bool) (n m : ℕ) (us vs us' vs' : List ℕ) (s : ℕ → ℕ) → ((i : ℕ) → i < m → get_or us i 0 ≡ get_or us' i 0)
    → ((i : ℕ) → i < m → get_or vs i 0 ≡ get_or vs' i 0) → parts_if p (graph n m us vs) s ≡ parts_if p (graph n m us' vs') s
unfolding parts_if
parts_ends p n m us vs us' vs' s hu hv =
    ap (λ E. begun E n) (edges_ends p (graph n m us vs) (graph n m us' vs') s m (λ i l. rw (hu i l, hv i l)))
