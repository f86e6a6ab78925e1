-- Marks that are written by a list, and those of adjacent potential units. Assumes nothing.
use Prim.Native.Nat.{ℕ, ◌+◌, ◌-◌, ◌≤◌, ◌<◌}
use mathlib.Core.Path.{◌≡◌, refl, ap, sym, ◌∙◌}
use mathlib.Core.Logic.{◌≢◌, ⊎_elim}
use mathlib.Core.Bool.{Bool, true, false}
use mathlib.Core.List.{List}
use native.Mathlib.Omega.{arith}
use borrow.Author.Tests.{eqb-true, eq-eqb, ne_eqb, not-false}
use lib.Dec.{eqb}
use lib.ListN.{get_or, length, set, take, drop, length-drop, get_or-eq_default}
use lib.Seq.{get_or-set_same, get_or-set_other, get_or-take, get_or-drop, length-take-le}
use Rattle.lists.specs.Choice.{either}
use Rattle.lists.specs.Lists.{In}
use Rattle.lists.specs.Writes.{puts, Below}
use Rattle.lists.proofs.Cases.{eq_or_ne, le_or_lt, true_or_false, not_both}
use Rattle.lists.proofs.ListLaws.{get_d_in, in_get_d}
use Rattle.lists.proofs.WritesLaws.{at_below, puts_here, puts_other, puts_length}
use Rattle.grid.specs.declared.Grid.{Grid}
use Rattle.groups.specs.Groups.{cells_of}
use Rattle.shape.specs.Shape.{parted, adjacent}
use Rattle.adjacency.specs.Adjacency.{Written, Adjacency, Unmarked, MarksOf}

-- what is written by a part of the list
module _ (list : List ℕ) {from to : ℕ} (h : from ≤ to) (l : to ≤ length list) where
  part_long : length (take (to - from) (drop from list)) ≡ to - from
  part_long = length-take-le (to - from) (drop from list) (simp length-drop (omega arith))

  part_at : (i : ℕ) → i < to - from → get_or (take (to - from) (drop from list)) i 0 ≡ get_or list (from + i) 0
  part_at i k = get_or-take (to - from) (drop from list) i 0 k ∙ get_or-drop from list i 0

  pub part_below : {n : ℕ} → ((i : ℕ) → from ≤ i → i < to → get_or list i 0 < n) → Below n (take (to - from) (drop from list))
  part_below s =
      at_below _ _ (λ i k. let j : i < to - from = rw part_long at k in rw (part_at i j) (s (from + i) (omega arith) (omega arith)))

  -- each place of the part has the mark
  pub part_written : {mark : ℕ} {marks marks' : List ℕ} → Below (length marks) (take (to - from) (drop from list)) → marks' ≡ puts (take (to - from) (drop from list)) mark marks
      → Written list from to mark marks marks'
  part_written {mark} {marks} b e =
      let part = take (to - from) (drop from list) in
      rw e
      record {
        here = λ i a k.
            let j : i - from < to - from = omega arith in
            let z : from + (i - from) ≡ i = omega arith in
            let m : In (get_or list i 0) part = rw (part_at (i - from) j, z) at (get_d_in 0 part (i - from) (rw part_long j)) in
            puts_here part mark marks b (get_or list i 0) m;
        other = λ q n.
            puts_other part mark marks b q
            (λ m. let o = in_get_d 0 q part m in
            let j : o.0 < to - from = rw part_long at o.1 in
            n (from + o.0) (omega arith) (omega arith) (sym (part_at o.0 j) ∙ o.2));
        long = puts_length part mark marks;
      }

module _ (g : Grid) (states pids : List ℕ) (p q : ℕ) where
  adjacent_parted : adjacent g states pids p q ≡ either (eqb p q) (parted g states pids (cells_of g pids p) q)
  unfolding adjacent
  adjacent_parted = refl

  self : q ≡ p → adjacent g states pids p q ≡ true
  self e = rw (adjacent_parted, eq-eqb p q (sym e))

  not_self : q ≢ p → adjacent g states pids p q ≡ parted g states pids (cells_of g pids p) q
  not_self z = rw (adjacent_parted, ne_eqb p q (λ e. z (sym e)))

-- a mark is written at those behind p's Walls, and at no other
module _ {g : Grid} {states pids : List ℕ} {count : ℕ} {starts list : List ℕ} (a : Adjacency g states pids count starts list) (p : ℕ) (k : p < count) where
  beyond : ℕ → Bool
  beyond = parted g states pids (cells_of g pids p)

  module _ {mark : ℕ} {marks marks' : List ℕ} (w : Written list (get_or starts p 0) (get_or starts (p + 1) 0) mark marks marks') (q : ℕ) where
    at_parted : q ≢ p → beyond q ≡ true → get_or marks' q 0 ≡ mark
    unfolding beyond
    at_parted z t = let o = a.has p q k z t in rw o.3 at (w.here o.0 o.1 o.2)

    at_other : beyond q ≡ false → get_or marks' q 0 ≡ get_or marks q 0
    unfolding beyond
    at_other t = w.other q (λ i x y e. not_both (beyond q) (ap beyond (sym e) ∙ a.only p i k x y) t)

  pub marked : {marks marks' : List ℕ} → Written list (get_or starts p 0) (get_or starts (p + 1) 0) 1 marks marks' → Unmarked marks → p < length marks
      → MarksOf g states pids p (set marks' p 1)
  unfolding beyond
  marked {marks} {marks'} w u l q h =
      ⊎_elim
      (λ (e : q ≡ p).
      let b : p < length marks' = omega (arith, w.long) in
      rw (self g states pids p q e, e, get_or-set_same marks' p 1 0 b))
      (λ (z : q ≢ p).
      rw (not_self g states pids p q z, get_or-set_other marks' p q 1 0 z)
      (⊎_elim
      (λ (t : beyond q ≡ true). rw (at_parted w q z t) (sym t))
      (λ (t : beyond q ≡ false). rw (at_other w q t, u q) (sym t))
      (true_or_false (beyond q))))
      (eq_or_ne q p)

  pub unmarked : {marks marks' : List ℕ} → Written list (get_or starts p 0) (get_or starts (p + 1) 0) 0 marks marks' → p < length marks → MarksOf g states pids p marks
      → Unmarked (set marks' p 0)
  unfolding beyond
  unmarked {marks} {marks'} w l m q =
      ⊎_elim
      (λ (e : q ≡ p). let b : p < length marks' = omega (arith, w.long) in rw (e, get_or-set_same marks' p 0 0 b))
      (λ (z : q ≢ p).
      rw (get_or-set_other marks' p q 0 0 z)
      (⊎_elim
      (λ (t : beyond q ≡ true). at_parted w q z t)
      (λ (t : beyond q ≡ false).
      at_other w q t
      ∙ ⊎_elim
      (λ (b : length marks ≤ q). get_or-eq_default marks 0 {n = q} b)
      (λ (b : q < length marks). eqb-true (get_or marks q 0) 0 (not-false (eqb (get_or marks q 0) 0) (m q b ∙ not_self g states pids p q z ∙ t)))
      (le_or_lt (length marks) q))
      (true_or_false (beyond q))))
      (eq_or_ne q p)
