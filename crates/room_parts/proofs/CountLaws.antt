-- The count by a union: what is left is the number of parts that the edges so far make, and it has not gone below the count. Assumes nothing.
use Prim.Native.Nat.{ℕ, ◌+◌, ◌-◌, ◌≤◌, ◌<◌}
use mathlib.Core.Path.{◌≡◌, refl, sym, ap, ◌∙◌}
use mathlib.Core.Logic.{◌≢◌, ⊎_elim}
use mathlib.Core.Bool.{Bool, true, false}
use mathlib.Core.List.{List}
use native.Mathlib.Omega.{arith}
use borrow.Author.Tests.{eq-eqb, ne_eqb, lt-ltb, le-ltb}
use lib.Dec.{ltb}
use lib.ListN.{get_or, length, length-replicate}
use lib.Seq.{sets}
use Rattle.lists.specs.Choice.{both, pick}
use Rattle.lists.specs.Lists.{range}
use Rattle.lists.proofs.Cases.{le_or_lt, true_or_false}
use Rattle.lists.proofs.ChoiceLaws.{true_both}
use Rattle.parts.specs.Parts.{begun}
use Rattle.parts.proofs.PartLaws.{begun_small}
use Rattle.parts.proofs.UniteLaws.{begun_none}
use Rattle.union_find.specs.Chains.{united, hung}
use Rattle.union_find.specs.declared.UnionFind.{UnionFind}
use Rattle.union_find.specs.UnionFind.{zeros, union_of}
use Rattle.union_find.proofs.AloneLaws.{alone_up}
use Rattle.union_find.proofs.JoinLaws.{Joins, joins_none, joins_unite, joins_count}
use Rattle.room_parts.specs.Graph.{Graph, is_connected, edges_if, parts_if, tipped_of, Lent}
use Rattle.room_parts.proofs.EdgeLaws.{edges_pass, edges_skip, parts_all}

first_false : (a b : Bool) → a ≡ false → both a b ≡ false
first_false a b e = rw e

second_false : (a b : Bool) → b ≡ false → both a b ≡ false
second_false true b e = e
second_false false b e = refl

-- after the first i edges
pub record Taken (g : Graph) (count : ℕ) (s : ℕ → ℕ) (union : UnionFind) (left i : ℕ) : Type 0 where
  pub same_n : union.n ≡ g.vertices
  pub joins : Joins g.vertices union.parent (edges_if is_connected g s i)
  pub left_is : left ≡ begun (edges_if is_connected g s i) g.vertices
  pub above : left < g.vertices → count ≤ left

-- what the answer r for edge i says of what is left
pub record Turn (g : Graph) (count : ℕ) (s : ℕ → ℕ) (left i : ℕ) (union' : UnionFind) (r : Bool) : Type 0 where
  pub some : r ≡ true → 1 ≤ left
  pub less : r ≡ true → count ≤ left - 1 → Taken g count s union' (left - 1) (i + 1)
  pub same : r ≡ false → Taken g count s union' left (i + 1)
  pub tips : r ≡ true → i < g.edges → left - 1 < count → true ≡ tipped_of g count s

zeros_long : length zeros ≡ 1024
unfolding zeros
zeros_long = length-replicate {A = ℕ} 1024 0

pub taken_none : (g : Graph) (count : ℕ) (s : ℕ → ℕ) {union : UnionFind} → g.vertices ≤ 1024 → union ≡ union_of (sets zeros 0 (range g.vertices)) g.vertices → Taken g count s union g.vertices 0
unfolding edges_if
taken_none g count s {union} l e =
    record {
      same_n = rw e refl;
      joins = joins_none g.vertices union.parent (rw e (alone_up g.vertices zeros (rw zeros_long l)));
      left_is = sym (begun_none g.vertices);
      above = λ h. omega arith;
    }

module _ {g : Graph} {count : ℕ} {s : ℕ → ℕ} {union : UnionFind} {left i : ℕ} (w : Taken g count s union left i) where
  -- one edge more
  module _ (union' : UnionFind) (u v : ℕ) (r : Bool) (same : union'.n ≡ g.vertices) (hu : get_or g.us i 0 < g.vertices) (hv : get_or g.vs i 0 < g.vertices)
      (eu : u ≡ get_or g.us i 0) (ev : v ≡ get_or g.vs i 0) (er : r ≡ both (is_connected (s i)) (united g.vertices union.parent u v))
      (ep : union'.parent ≡ pick (is_connected (s i)) (hung g.vertices union.parent u v) union.parent) where
    next_joins : Joins g.vertices union'.parent (edges_if is_connected g s (i + 1))
    next_joins =
        ⊎_elim
        (λ (t : is_connected (s i) ≡ true).
        rw (edges_pass is_connected g s i t, ep, t, eu, ev) (joins_unite g.vertices union.parent (edges_if is_connected g s i) w.joins _ _ hu hv))
        (λ (t : is_connected (s i) ≡ false). rw (edges_skip is_connected g s i t, ep, t) w.joins)
        (true_or_false (is_connected (s i)))

    next_left : begun (edges_if is_connected g s (i + 1)) g.vertices + pick r 1 0 ≡ left
    next_left =
        ⊎_elim
        (λ (t : is_connected (s i) ≡ true).
        rw (edges_pass is_connected g s i t, er, t, eu, ev, w.left_is) (joins_count g.vertices union.parent (edges_if is_connected g s i) w.joins _ _ hu hv))
        (λ (t : is_connected (s i) ≡ false). rw (edges_skip is_connected g s i t, er, t) (omega (arith, w.left_is)))
        (true_or_false (is_connected (s i)))

    taken_some : r ≡ true → 1 ≤ left
    taken_some t = let q = rw t at next_left in omega (arith, q)

    taken_less : r ≡ true → count ≤ left - 1 → Taken g count s union' (left - 1) (i + 1)
    taken_less t l =
        let q = rw t at next_left in record { same_n = same; joins = next_joins; left_is = omega (arith, q); above = λ h. l }

    taken_same : r ≡ false → Taken g count s union' left (i + 1)
    taken_same t = let q = rw t at next_left in record { same_n = same; joins = next_joins; left_is = omega (arith, q); above = w.above }

    taken_tips : r ≡ true → i < g.edges → left - 1 < count → true ≡ tipped_of g count s
    unfolding tipped_of
    taken_tips t h c =
        let q = rw t at next_left in
        let a : parts_if is_connected g s ≤ left - 1 = omega (arith, q, parts_all is_connected g s (i + 1) (omega arith)) in
        let b : parts_if is_connected g s < count = omega arith in
        let d : parts_if is_connected g s < g.vertices = omega (arith, q, w.left_is, begun_small (edges_if is_connected g s i) g.vertices) in
        sym (true_both _ _ (lt-ltb _ _ b) (lt-ltb _ _ d))

    taken_turn : Turn g count s left i union' r
    taken_turn = record { some = taken_some; less = taken_less; same = taken_same; tips = taken_tips }

  -- a Connected edge, whose ends were joined, and another one
  pub join_turn : {states : List ℕ} {union' : UnionFind} {u v : ℕ} {r : Bool} → Lent g.vertices g.edges g.us g.vs states → i < g.edges → s i ≡ 1
      → u ≡ get_or g.us i 0 → v ≡ get_or g.vs i 0 → r ≡ united union.n union.parent u v → union' ≡ union_of (hung union.n union.parent u v) union.n
      → Turn g count s left i union' r
  join_turn {union'} {u} {v} {r} l h t eu ev er ep =
      let k : is_connected (s i) ≡ true = eq-eqb (s i) 1 t in
      taken_turn union' u v r (rw ep w.same_n) (l.us_exist i h) (l.vs_exist i h) eu ev (rw (k, ← w.same_n) er) (rw (k, ep, w.same_n))

  pub skip_turn : s i ≢ 1 → Taken g count s union left (i + 1)
  skip_turn z =
      let k : edges_if is_connected g s (i + 1) ≡ edges_if is_connected g s i = edges_skip is_connected g s i (ne_eqb (s i) 1 z) in
      record { same_n = w.same_n; joins = rw k w.joins; left_is = rw k w.left_is; above = w.above }

  pub taken_all : i ≡ g.edges → false ≡ tipped_of g count s
  unfolding tipped_of parts_if
  taken_all e =
      let q : parts_if is_connected g s ≡ left = ap (λ k. begun (edges_if is_connected g s k) g.vertices) (sym e) ∙ sym w.left_is in
      ⊎_elim
      (λ (h : g.vertices ≤ left).
      let k : g.vertices ≤ parts_if is_connected g s = rw q h in
      sym (second_false (ltb (parts_if is_connected g s) (count)) (ltb (parts_if is_connected g s) g.vertices) (le-ltb _ _ k)))
      (λ (h : left < g.vertices).
      let k : count ≤ parts_if is_connected g s = rw q (w.above h) in
      sym (first_false (ltb (parts_if is_connected g s) (count)) (ltb (parts_if is_connected g s) g.vertices) (le-ltb _ _ k)))
      (le_or_lt g.vertices left)

-- no count is gone below where no more than the parts are wanted
pub not_tipped : (g : Graph) (count : ℕ) (s : ℕ → ℕ) → count ≤ parts_if is_connected g s → false ≡ tipped_of g count s
unfolding tipped_of
not_tipped g count s h = sym (first_false (ltb (parts_if is_connected g s) count) (ltb (parts_if is_connected g s) g.vertices) (le-ltb _ _ h))
