-- The edges of a graph without its Walls, linked one after the other. Assumes nothing.
use Prim.Native.Nat.{ℕ, ◌+◌, ◌≤◌, ◌<◌}
use mathlib.Core.Path.{◌≡◌, ap}
use mathlib.Core.Logic.{◌≢◌}
use mathlib.Core.Bool.{not}
use mathlib.Core.List.{List, []}
use native.Mathlib.Omega.{arith}
use borrow.Author.Tests.{eq-eqb, ne_eqb}
use lib.ListN.{get_or, set}
use Rattle.limits.specs.Limits.{most_cells}
use Rattle.arcs.specs.Walk.{Arcs, Sweep, Counted}
use Rattle.arcs.specs.Linked.{Linked, arcs_of}
use Rattle.arcs.proofs.LinkLaws.{link_edge, link_all}
use Rattle.room_parts.specs.Graph.{Graph, graph, states_in, edges_if, not_wall, joined_parts, parts_if, Lent}
use Rattle.room_parts.proofs.EdgeLaws.{edges_pass, edges_skip}

-- after the first i edges
pub record Linking (g : Graph) (s : ℕ → ℕ) (head next to : List ℕ) (count i : ℕ) : Type 0 where
  pub few : count ≤ i + i
  pub linked : Linked (arcs_of (edges_if not_wall g s i)) g.vertices count head next to

module _ {n m : ℕ} {us vs states : List ℕ} (k : Lent n m us vs states) where
  abbrev g : Graph
  g = graph n m us vs

  abbrev s : ℕ → ℕ
  s = states_in states

  pub linking_none : {head next to : List ℕ} → ((n : ℕ) → n ≤ most_cells → Linked [] n 0 head next to) → Linking g s head next to 0 0
  unfolding edges_if arcs_of
  linking_none f = record { few = omega arith; linked = f n k.few_vertices }

  module _ {head next to : List ℕ} {count i : ℕ} (w : Linking g s head next to count i) where
    pub linking_skip : s i ≡ 2 → Linking g s head next to count (i + 1)
    linking_skip e =
        record { few = omega (arith, w.few); linked = rw (edges_skip not_wall g s i (ap not (eq-eqb _ 2 e))) w.linked }

    module _ (h : i < m) {u v : ℕ} (eu : u ≡ get_or us i 0) (ev : v ≡ get_or vs i 0) where
      pub linking_more : s i ≢ 2 → {head₁ next₁ to₁ head₂ next₂ to₂ : List ℕ} → head₁ ≡ set head u (count + 1)
          → next₁ ≡ set next count (get_or head u 0) → to₁ ≡ set to count v → head₂ ≡ set head₁ v (count + 1 + 1) → next₂ ≡ set next₁ (count + 1) (get_or head₁ v 0)
          → to₂ ≡ set to₁ (count + 1) u → Linking g s head₂ next₂ to₂ (count + 2) (i + 1)
      linking_more z a b c d e f =
          let hu : u < n = rw eu (k.us_exist i h) in
          let hv : v < n = rw ev (k.vs_exist i h) in
          let room : count + 1 < 3968 = omega (arith, w.few, k.few_edges) in
          record {
            few = omega (arith, w.few);
            linked = rw (edges_pass not_wall g s i (ap not (ne_eqb _ 2 z)), ← eu, ← ev)
                (link_edge (edges_if not_wall g s i) n count head next to w.linked u v hu hv room _ _ _ _ _ _ a b c d e f);
          }

    -- all edges are linked, and the sweep can begin
    module _ (e : i ≡ m) where
      all_arcs : Arcs (edges_if not_wall g s m) n head next to
      all_arcs =
          link_all (edges_if not_wall g s m) n count head next to k.few_vertices (omega (arith, w.few, k.few_edges, e)) (rw e at w.linked)

      pub sweep_ready : Sweep n head next to
      sweep_ready = record { edges = edges_if not_wall g s m; arcs = all_arcs }

      pub counted : {r : ℕ} → Counted n head next to r → r ≡ joined_parts g s
      unfolding parts_if
      counted f = f (edges_if not_wall g s m) all_arcs
