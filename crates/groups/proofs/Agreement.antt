-- Groups by two tests that agree on the board's borders; where no border is undecided, potential units are units. Assumes nothing.
use Prim.Native.Nat.{ℕ, ◌<◌}
use mathlib.Core.Path.{◌≡◌, ap}
use mathlib.Core.Bool.{Bool, true, false, not}
use mathlib.Core.List.{List}
use native.Mathlib.Omega.{arith}
use lib.Seq.{get_or-take, length-take-le}
use Rattle.std.proofs.lemmas.Bool.{not-true}
use lib.Dec.{eqb}
use lib.ListN.{get_or, length, take}
use Rattle.lists.specs.Choice.{when}
use Rattle.lists.specs.Lists.{range, gather}
use Rattle.lists.proofs.ListLaws.{in_range, all_true, get_d_in}
use Rattle.grid.specs.declared.Grid.{Grid}
use Rattle.grid.specs.Grid.{cells, goes_on, next, border, border_count}
use Rattle.grid.specs.Orders.{forward}
use Rattle.grid.proofs.Geometry.{goes_step, border_lt}
use Rattle.borders.specs.Border.{state_of, decided}
use Rattle.borders.specs.Fits.{Fits}
use Rattle.borders.proofs.Congruence.{both_same, gather_same}
use Rattle.parts.specs.Parts.{Edge, edge, roots, begun_in, parts}
use Rattle.groups.specs.Groups.{passes, edge_at, edges_over, edges, group_ids, group_count}

-- edges by tests that agree on the board's borders
pub edges_agree : (g : Grid) (p q : ℕ → Bool) → ((e : ℕ) → e < border_count g → p e ≡ q e) → edges_over g p ≡ edges_over g q
unfolding edges_over edge_at
edges_agree g p q same =
    gather_same (λ c. gather (edge_at g p c) forward) (λ c. gather (edge_at g q c) forward) (range (cells g))
    (λ c m.
    gather_same (edge_at g p c) (edge_at g q c) forward
    (λ d i.
    ap (λ t. when t (edge c (next g d c)))
    (both_same (goes_on g d c) (p (border g d c)) (q (border g d c)) (λ on. same (border g d c) (border_lt g d c (next g d c) (border g d c) (goes_step g d c (in_range (cells g) c m) on))))))

module _ (g : Grid) (states : List ℕ) (fits : Fits g states) (full : decided g states ≡ true) where
  -- the test for potential units on a decided border
  same_test : (s : ℕ) → not (eqb s 0) ≡ true → passes true s ≡ passes false s
  unfolding passes
  same_test s q = rw (not-true (eqb s 0) q)

  same_at : (e : ℕ) → e < border_count g → passes true (state_of states e) ≡ passes false (state_of states e)
  same_at e h =
      let front = take (border_count g) states in
      let there : e < length front = omega (arith, length-take-le (border_count g) states fits.borders) in
      same_test (state_of states e)
      (rw (get_or-take (border_count g) states e 0 h) at (all_true (λ s. not (eqb s 0)) front full (get_or front e 0) (get_d_in 0 front e there)))

  same_edges : edges g states true ≡ edges g states false
  same_edges = edges_agree g (λ e. passes true (state_of states e)) (λ e. passes false (state_of states e)) same_at

  pub decided_ids : group_ids g states true ≡ group_ids g states false
  unfolding group_ids
  decided_ids = ap (parts (cells g)) same_edges

  pub decided_count : group_count g states true ≡ group_count g states false
  unfolding group_count
  decided_count = ap (λ (E : List Edge). begun_in (roots (cells g) E) (cells g)) same_edges
