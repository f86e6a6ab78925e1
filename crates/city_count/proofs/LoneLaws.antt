-- THE THEOREMS of the lone room check (SPEC 15), over every state of the graph's edges and every count: a fault's list stands as listed, rules out the
-- count wherever it stands, and is a fault there again; a fully decided graph is clear exactly when its parts equal the count. Assumes nothing.
use Prim.Native.Nat.{ℕ, ◌/◌, ◌≤◌, ◌<◌}
use mathlib.Core.Path.{◌≡◌, sym, ◌∙◌}
use mathlib.Core.Logic.{◌≢◌, ◌↔◌, ⊎_elim}
use mathlib.Core.List.{List, []}
use mathlib.Core.Option.{none, some, some-injective, some-ne-none}
use native.Mathlib.Omega.{arith}
use borrow.Author.Tests.{lt-ltb, le-ltb}
use lib.ListN.{length, get_or}
use Rattle.lists.specs.Lists.{In}
use Rattle.lists.proofs.Cases.{le_or_lt}
use Rattle.borders.specs.Entry.{Standing}
use Rattle.parts.proofs.PartLaws.{begun_small}
use Rattle.room_parts.specs.Graph.{Graph, graph, Full, is_connected, edges_if, parts_if, connected_parts}
use Rattle.city_count.specs.Fault.{room_fault, lone_fault}
use Rattle.city_count.proofs.FaultLaws.{room_listed, room_inside, room_short, room_again, room_excludes, room_decides, room_agrees, room_ends}

module _ (g : Graph) (count : ℕ) (s : ℕ → ℕ) where
  -- which of the two decides
  pub lone_above : g.vertices < count → lone_fault g count s ≡ some []
  unfolding lone_fault
  lone_above h = rw (lt-ltb g.vertices count h)

  pub lone_within : count ≤ g.vertices → lone_fault g count s ≡ room_fault g count s
  unfolding lone_fault
  lone_within h = rw (le-ltb g.vertices count h)

  -- a law of a fault's list holds if it holds of the empty list where the count is above the vertices, and of every list of the room count
  by_kind : (L : List ℕ) → lone_fault g count s ≡ some L → (P : List ℕ → Type 0) → (g.vertices < count → P []) → (room_fault g count s ≡ some L → P L) → P L
  by_kind L q P above counted =
      ⊎_elim
      (λ (h : count ≤ g.vertices). counted (sym (lone_within h) ∙ q))
      (λ (h : g.vertices < count). rw (some-injective [] L (sym (lone_above h) ∙ q)) at (above h))
      (le_or_lt count g.vertices)

  -- the edges leave no more parts than there are vertices
  pub parts_most : connected_parts g s ≤ g.vertices
  unfolding parts_if
  parts_most = begun_small (edges_if is_connected g s g.edges) g.vertices

  -- LISTED: each listed entry stands as listed
  pub lone_listed : (L : List ℕ) → lone_fault g count s ≡ some L → Standing s L
  lone_listed L q = by_kind L q (Standing s) (λ h l m. absurd m) (room_listed g count s L)

  -- it is an edge of the graph, and there are no more than edges
  pub lone_inside : (L : List ℕ) → lone_fault g count s ≡ some L → (l : ℕ) → In l L → l / 2 < g.edges
  lone_inside L q = by_kind L q (λ M. (l : ℕ) → In l M → l / 2 < g.edges) (λ h l m. absurd m) (room_inside g count s L)

  pub lone_short : (L : List ℕ) → lone_fault g count s ≡ some L → length L ≤ g.edges
  lone_short L q = by_kind L q (λ M. length M ≤ g.edges) (λ h. omega arith) (room_short g count s L)

-- AGAIN: in every state of the graph in which the listed entries stand, the check finds a fault
pub lone_again : (g : Graph) (count : ℕ) (s : ℕ → ℕ) (L : List ℕ) → lone_fault g count s ≡ some L → (t : ℕ → ℕ) → Standing t L
    → (M : List ℕ) × (lone_fault g count t ≡ some M)
lone_again g count s L q t st =
    ⊎_elim
    (λ (h : count ≤ g.vertices).
    let o = room_again g count s L (sym (lone_within g count s h) ∙ q) t st in (o.0, lone_within g count t h ∙ o.1))
    (λ (h : g.vertices < count). ([], lone_above g count t h))
    (le_or_lt count g.vertices)

-- EXCLUDES: in every state of the graph in which the listed entries stand, full or not, the parts over Connected edges are not the count
pub lone_excludes : (g : Graph) (count : ℕ) (s : ℕ → ℕ) (L : List ℕ) → lone_fault g count s ≡ some L → (t : ℕ → ℕ) → Standing t L → connected_parts g t ≢ count
lone_excludes g count s L q t st e =
    ⊎_elim
    (λ (h : count ≤ g.vertices). room_excludes g count s L (sym (lone_within g count s h) ∙ q) t st e)
    (λ (h : g.vertices < count). omega (arith, parts_most g count t))
    (le_or_lt count g.vertices)

-- FULL: a fully decided graph is clear exactly when its parts equal the count, whatever the count
pub lone_decides : (g : Graph) (count : ℕ) (s : ℕ → ℕ) → Full g s → (lone_fault g count s ≡ none) ↔ (connected_parts g s ≡ count)
lone_decides g count s full =
    ⊎_elim
    (λ (h : count ≤ g.vertices). rw (lone_within g count s h) (room_decides g count s h full))
    (λ (h : g.vertices < count). (
      λ q. absurd (some-ne-none [] (sym (lone_above g count s h) ∙ q)),
      λ e. absurd (omega (arith, parts_most g count s)),
    ))
    (le_or_lt count g.vertices)

-- the check depends on the states of the graph's edges alone
pub lone_agrees : (g : Graph) (count : ℕ) (s t : ℕ → ℕ) → ((i : ℕ) → i < g.edges → s i ≡ t i) → lone_fault g count s ≡ lone_fault g count t
unfolding lone_fault
lone_agrees g count s t h = rw (room_agrees g count s t h)

-- and on the ends of those edges
pub lone_ends : (n m : ℕ) (us vs us' vs' : List ℕ) (count : ℕ) (s : ℕ → ℕ) → ((i : ℕ) → i < m → get_or us i 0 ≡ get_or us' i 0)
    → ((i : ℕ) → i < m → get_or vs i 0 ≡ get_or vs' i 0) → lone_fault (graph n m us vs) count s ≡ lone_fault (graph n m us' vs') count s
unfolding lone_fault
lone_ends n m us vs us' vs' count s h k = rw (room_ends n m us vs us' vs' count s h k)
