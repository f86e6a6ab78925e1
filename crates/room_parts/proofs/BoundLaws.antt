-- Bounds of the parts: each edge takes one part at most; and a marked vertex is joined to an earlier one and begins no part, so that no more
-- parts begin than vertices have no mark. Assumes nothing.
use Prim.Native.Nat.{ℕ, zero, suc, ◌+◌, ◌-◌, ◌≤◌, ◌<◌}
use mathlib.Core.Path.{◌≡◌, refl, sym}
use mathlib.Core.Logic.{◌≢◌, ⊎_elim}
use mathlib.Core.Bool.{Bool, true, false}
use mathlib.Core.List.{List, ◌∷◌}
use native.Mathlib.Omega.{arith}
use native.Mathlib.Numerals.{add-one}
use borrow.Author.Tests.{eq-eqb, ne_eqb, ltb-true, lt-ltb}
use lib.Dec.{eqb, ltb}
use lib.ListN.{get_or, set, take, length}
use Rattle.std.proofs.lemmas.List.{get_or-take, length-take-le}
use Rattle.lists.proofs.Cases.{eq_or_ne, true_or_false}
use Rattle.parts.specs.Parts.{Edge, over, root, begun}
use Rattle.parts.specs.Flood.{HasMark, blank}
use Rattle.parts.proofs.PartLaws.{root_le, joined_root, begun_first, begun_later}
use Rattle.parts.proofs.UniteLaws.{begun_none, begun_within, begun_unite}
use Rattle.parts.proofs.FloodLaws.{marked_other}
use Rattle.room_parts.specs.Graph.{Graph, graph, edge_at, states_in, is_state, is_connected, not_wall, edges_if, passing, parts_if, later_marked, Lent}
use Rattle.room_parts.proofs.EdgeLaws.{edges_in}
use Rattle.arcs.proofs.LinkLaws.{zeros, zeros_at}

-- counting the edges whose state passes
module _ (p : ℕ → Bool) (s : ℕ → ℕ) where
  pub passing_le : (m : ℕ) → passing p s m ≤ m
  unfolding passing
  passing_le zero = omega arith
  passing_le (suc m) =
      ⊎_elim
      (λ (t : p (s m) ≡ true). rw t (omega (arith, passing_le m)))
      (λ (t : p (s m) ≡ false). rw t (omega (arith, passing_le m)))
      (true_or_false (p (s m)))

  module _ (r i : ℕ) (e : r ≡ passing p s i) where
    pub passing_one : p (s i) ≡ true → r + 1 ≡ passing p s (i + 1)
    unfolding passing
    passing_one t = rw (add-one i, t) (omega (arith, e))

    pub passing_same : p (s i) ≡ false → r ≡ passing p s (i + 1)
    unfolding passing
    passing_same t = rw (add-one i, t) (omega (arith, e))

-- what is a Wall, and what is not
passing_rest : (s : ℕ → ℕ) (m : ℕ) → passing (is_state 2) s m + passing not_wall s m ≡ m
unfolding passing
passing_rest s zero = refl
passing_rest s (suc m) =
    ⊎_elim
    (λ (t : eqb (s m) 2 ≡ true). rw t (omega (arith, passing_rest s m)))
    (λ (t : eqb (s m) 2 ≡ false). rw t (omega (arith, passing_rest s m)))
    (true_or_false (eqb (s m) 2))

-- an edge takes one part at most
edge_takes : (e : Edge) (E : List Edge) (n : ℕ) → e.one < n → e.other < n → begun E n ≤ begun (e ∷ E) n + 1
edge_takes e E n hu hv =
    ⊎_elim
    (λ (q : root E e.one ≡ root E e.other). omega (arith, begun_within e E n q))
    (λ (q : root E e.one ≢ root E e.other). omega (arith, begun_unite e E q n hu hv))
    (eq_or_ne (root E e.one) (root E e.other))

edges_take : (p : ℕ → Bool) (g : Graph) (s : ℕ → ℕ) (m : ℕ) → ((i : ℕ) → i < m → get_or g.us i 0 < g.vertices) → ((i : ℕ) → i < m → get_or g.vs i 0 < g.vertices)
    → g.vertices ≤ begun (edges_if p g s m) g.vertices + passing p s m
unfolding edges_if passing
edges_take p g s zero hu hv = omega (arith, begun_none g.vertices)
edges_take p g s (suc m) hu hv =
    let w = edges_take p g s m (λ i l. hu i (omega arith)) (λ i l. hv i (omega arith)) in
    ⊎_elim
    (λ (t : p (s m) ≡ true). rw t (omega (arith, w, edge_takes (edge_at g m) (edges_if p g s m) g.vertices (hu m (omega arith)) (hv m (omega arith)))))
    (λ (t : p (s m) ≡ false). rw t (omega (arith, w)))
    (true_or_false (p (s m)))

module _ {n m : ℕ} {us vs states : List ℕ} (k : Lent n m us vs states) where
  pub connected_least : {r c : ℕ} → r ≡ n - c → c ≡ passing (is_state 1) (states_in states) m → r ≤ parts_if is_connected (graph n m us vs) (states_in states)
  unfolding parts_if
  connected_least er ec = omega (arith, er, ec, edges_take is_connected (graph n m us vs) (states_in states) m k.us_exist k.vs_exist)

  pub joined_least : {r w : ℕ} → r ≡ n - (m - w) → w ≡ passing (is_state 2) (states_in states) m → r ≤ parts_if not_wall (graph n m us vs) (states_in states)
  unfolding parts_if
  joined_least er ew =
      omega (arith, er, ew, passing_rest (states_in states) m, edges_take not_wall (graph n m us vs) (states_in states) m k.us_exist k.vs_exist)

-- no marked vertex begins a part of E
abbrev pub Behind : List Edge → List ℕ → Type 0
Behind E marks = (c : ℕ) → HasMark 0 marks c → root E c ≢ c

behind_set : (E : List Edge) (marks : List ℕ) (d : ℕ) → root E d ≢ d → Behind E marks → Behind E (set marks d 1)
behind_set E marks d z w c m = ⊎_elim (λ (e : c ≡ d). rw e z) (λ (e : c ≢ d). w c (marked_other 0 marks d 1 c e m)) (eq_or_ne c d)

begun_next : (E : List Edge) (n : ℕ) → begun E (suc n) ≤ begun E n + 1
begun_next E n =
    ⊎_elim
    (λ (p : root E n ≡ n). omega (arith, begun_first E n p))
    (λ (p : root E n ≢ n). omega (arith, begun_later E n p))
    (eq_or_ne (root E n) n)

pub begun_blank : (E : List Edge) (marks : List ℕ) (n : ℕ) → Behind E marks → begun E n ≤ blank 0 n marks
unfolding blank
begun_blank E marks zero w = unfold begun in omega arith
begun_blank E marks (suc n) w =
    ⊎_elim
    (λ (p : get_or marks n 0 ≡ 0). rw (eq-eqb (get_or marks n 0) 0 p) (omega (arith, begun_next E n, begun_blank E marks n w)))
    (λ (p : get_or marks n 0 ≢ 0). rw (ne_eqb (get_or marks n 0) 0 p) (omega (arith, begun_later E n (w n p), begun_blank E marks n w)))
    (eq_or_ne (get_or marks n 0) 0)

-- counting the vertices without a mark
pub passing_blank : (n : ℕ) (marks : List ℕ) → passing (is_state 0) (states_in marks) n ≡ blank 0 n marks
unfolding passing blank
passing_blank zero marks = refl
passing_blank (suc n) marks = rw (passing_blank n marks)

-- what stands behind the vertices does not count
blank_front : (k n : ℕ) (marks : List ℕ) → k ≤ n → blank 0 k (take n marks) ≡ blank 0 k marks
unfolding blank
blank_front zero n marks l = refl
blank_front (suc k) n marks l = rw (get_or-take n marks k 0 (omega arith), blank_front k n marks (omega arith)) refl

pub blank_taken : (n : ℕ) (marks : List ℕ) → n ≤ length marks → blank 0 (length (take n marks)) (take n marks) ≡ blank 0 n marks
blank_taken n marks l = rw (length-take-le n marks l) (blank_front n n marks (omega arith))

module _ (g : Graph) (s : ℕ → ℕ) where
  abbrev open_edges : List Edge
  open_edges = edges_if not_wall g s g.edges

  -- the marks after some edges
  abbrev pub Marks : List ℕ → Type 0
  Marks marks = Behind open_edges marks

  pub marks_none : Marks (zeros 1024)
  marks_none c m = absurd (m (zeros_at 1024 c))

  pub marks_more : (marks : List ℕ) (i u v : ℕ) → i < g.edges → u ≡ get_or g.us i 0 → v ≡ get_or g.vs i 0 → Marks marks → Marks (later_marked (s i) u v marks)
  marks_more marks i u v h eu ev w =
      ⊎_elim
      (λ (t : not_wall (s i) ≡ true).
      let j : root open_edges u ≡ root open_edges v = rw (eu, ev) (joined_root (over (edges_in not_wall g s g.edges i h t))) in
      rw t (ends j))
      (λ (t : not_wall (s i) ≡ false). rw t w)
      (true_or_false (not_wall (s i)))
    where
      ends : root open_edges u ≡ root open_edges v → Marks (later_marked 0 u v marks)
      ends j =
          ⊎_elim
          (λ (a : ltb u v ≡ true). rw a (behind_set open_edges marks v (λ q. omega (arith, ltb-true u v a, root_le open_edges u)) w))
          (λ (a : ltb u v ≡ false).
          ⊎_elim
          (λ (b : ltb v u ≡ true). rw (a, b) (behind_set open_edges marks u (λ q. omega (arith, ltb-true v u b, root_le open_edges v)) w))
          (λ (b : ltb v u ≡ false). rw (a, b) w)
          (true_or_false (ltb v u)))
          (true_or_false (ltb u v))

  pub marks_bound : (marks : List ℕ) (r : ℕ) → Marks marks → r ≡ blank 0 g.vertices marks → parts_if not_wall g s ≤ r
  unfolding parts_if
  marks_bound marks r w e = rw e (begun_blank open_edges marks g.vertices w)

-- what a bound tells
pub above_least : (count r : ℕ) {x : ℕ} → count < r → r ≤ x → true ≡ ltb count x
above_least count r {x} h l = sym (lt-ltb count x (omega arith))
