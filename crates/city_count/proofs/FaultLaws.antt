-- THE THEOREMS of the room count (SPEC 4.14), over every state of the graph's edges: what a fault's list says of the graph it was found on and
-- of every other in which it stands, and what a fully decided graph's answer means. Assumes nothing.
use Prim.Native.Nat.{ℕ, ◌/◌, ◌≤◌, ◌<◌}
use mathlib.Core.Path.{◌≡◌, ap}
use mathlib.Core.Logic.{◌⊎◌, inl, inr, ◌≢◌, ◌↔◌, ⊎_elim}
use mathlib.Core.Bool.{true, not}
use mathlib.Core.List.{List}
use mathlib.Core.Option.{Option, none, some}
use native.Mathlib.Omega.{arith}
use borrow.Author.Tests.{eqb-true, eqb-false, eq-eqb, ne_eqb, ltb-true, lt-ltb, not-true}
use lib.Dec.{ltb}
use lib.ListN.{length, get_or}
use Rattle.lists.specs.Choice.{give}
use Rattle.lists.specs.Lists.{In}
use Rattle.lists.proofs.Cases.{le_or_lt, eq_or_ne, not_both}
use Rattle.lists.proofs.ChoiceLaws.{both_true, true_both, give_some, give_none, or_else_none, or_else_some, none_or_some}
use Rattle.borders.specs.Entry.{connected_entry, wall_entry, Standing}
use Rattle.borders.proofs.EntryLaws.{stands_wall, wall_stands, stands_connected, connected_stands}
use Rattle.room_parts.specs.Graph.{Graph, graph, Full, is_connected, not_wall, connected_parts, joined_parts, tipped_of}
use Rattle.room_parts.proofs.EdgeLaws.{parts_fewer, parts_agree, parts_ends}
use Rattle.city_count.specs.Fault.{entries_of, room_fault}
use Rattle.city_count.proofs.EntryLaws.{in_entries, entries_in, entries_few, entries_agree}

-- the two kinds of fault
pub record Tipped (g : Graph) (count : ℕ) (s : ℕ → ℕ) (L : List ℕ) : Type 0 where
  pub below : connected_parts g s < count
  pub united : connected_parts g s < g.vertices
  pub list : L ≡ entries_of connected_entry 1 g.edges s

pub record Many (g : Graph) (count : ℕ) (s : ℕ → ℕ) (L : List ℕ) : Type 0 where
  pub above : count < joined_parts g s
  pub list : L ≡ entries_of wall_entry 2 g.edges s

module _ (g : Graph) (count : ℕ) (s : ℕ → ℕ) where
  tip : Option (List ℕ)
  tip = give (tipped_of g count s) (entries_of connected_entry 1 g.edges s)

  many : Option (List ℕ)
  many = give (ltb count (joined_parts g s)) (entries_of wall_entry 2 g.edges s)

  tipped_facts : tipped_of g count s ≡ true → (connected_parts g s < count) × (connected_parts g s < g.vertices)
  unfolding tipped_of
  tipped_facts t =
      let o = both_true (ltb (connected_parts g s) count) (ltb (connected_parts g s) g.vertices) t in (ltb-true _ _ o.0, ltb-true _ _ o.1)

  pub fault_cases : (L : List ℕ) → room_fault g count s ≡ some L → Tipped g count s L ⊎ Many g count s L
  unfolding room_fault tip many
  fault_cases L q =
      ⊎_elim
      (λ k.
      let o = give_some (tipped_of g count s) (entries_of connected_entry 1 g.edges s) L k in
      let f = tipped_facts o.0 in
      inl (record { below = f.0; united = f.1; list = o.1 }))
      (λ k.
      let o = give_some (ltb count (joined_parts g s)) (entries_of wall_entry 2 g.edges s) L k in
      inr (record { above = ltb-true _ _ o.0; list = o.1 }))
      (or_else_some tip many L q)

  -- a clear graph: neither
  pub clear_facts : room_fault g count s ≡ none → (connected_parts g s < count → connected_parts g s < g.vertices → ⊥) × (count < joined_parts g s → ⊥)
  unfolding room_fault tip many tipped_of
  clear_facts q =
      let o = or_else_none tip many q in (
        λ a c. not_both (tipped_of g count s) (true_both _ _ (lt-ltb _ _ a) (lt-ltb _ _ c)) (give_none (tipped_of g count s) (entries_of connected_entry 1 g.edges s) o.0),
        λ a. not_both (ltb count (joined_parts g s)) (lt-ltb _ _ a) (give_none (ltb count (joined_parts g s)) (entries_of wall_entry 2 g.edges s) o.1),
      )

  -- LISTED: each listed entry stands as listed
  pub room_listed : (L : List ℕ) → room_fault g count s ≡ some L → Standing s L
  room_listed L q l m =
      ⊎_elim
      (λ (k : Tipped g count s L).
      let o = in_entries connected_entry 1 g.edges s l (rw k.list at m) in rw o.3 (connected_stands s o.0 o.2))
      (λ (k : Many g count s L). let o = in_entries wall_entry 2 g.edges s l (rw k.list at m) in rw o.3 (wall_stands s o.0 o.2))
      (fault_cases L q)

  -- it is an edge of the graph, and there are no more than edges
  pub room_inside : (L : List ℕ) → room_fault g count s ≡ some L → (l : ℕ) → In l L → l / 2 < g.edges
  room_inside L q l m =
      ⊎_elim
      (λ (k : Tipped g count s L). let o = in_entries connected_entry 1 g.edges s l (rw k.list at m) in omega (arith, o.1, o.3))
      (λ (k : Many g count s L). let o = in_entries wall_entry 2 g.edges s l (rw k.list at m) in omega (arith, o.1, o.3))
      (fault_cases L q)

  pub room_short : (L : List ℕ) → room_fault g count s ≡ some L → length L ≤ g.edges
  room_short L q =
      ⊎_elim
      (λ (k : Tipped g count s L). rw k.list (entries_few connected_entry 1 g.edges s))
      (λ (k : Many g count s L). rw k.list (entries_few wall_entry 2 g.edges s))
      (fault_cases L q)

  -- where the list stands, no fewer edges are Connected, or no fewer are Walls
  fewer : (L : List ℕ) → Tipped g count s L → (t : ℕ → ℕ) → Standing t L → connected_parts g t ≤ connected_parts g s
  fewer L k t st =
      parts_fewer is_connected is_connected g s t
      (λ i h e.
      let m : In (connected_entry i) L = rw k.list (entries_in connected_entry 1 g.edges s i h (eqb-true (s i) 1 e)) in
      eq-eqb (t i) 1 (stands_connected t i (st (connected_entry i) m)))

  more : (L : List ℕ) → Many g count s L → (t : ℕ → ℕ) → Standing t L → joined_parts g s ≤ joined_parts g t
  more L k t st =
      parts_fewer not_wall not_wall g t s
      (λ i h e.
      ⊎_elim
      (λ (w : s i ≡ 2).
      let m : In (wall_entry i) L = rw k.list (entries_in wall_entry 2 g.edges s i h w) in
      absurd (eqb-false (t i) 2 (not-true _ e) (stands_wall t i (st (wall_entry i) m))))
      (λ (w : s i ≢ 2). ap not (ne_eqb (s i) 2 w))
      (eq_or_ne (s i) 2))

-- AGAIN: in every state of the graph in which the listed entries stand, the check finds a fault
pub room_again : (g : Graph) (count : ℕ) (s : ℕ → ℕ) (L : List ℕ) → room_fault g count s ≡ some L → (t : ℕ → ℕ) → Standing t L
    → (M : List ℕ) × (room_fault g count t ≡ some M)
room_again g count s L q t st =
    ⊎_elim
    (λ (e : room_fault g count t ≡ none).
    let r = clear_facts g count t e in
    absurd
    (⊎_elim
    (λ (k : Tipped g count s L). let l = fewer g count s L k t st in r.0 (omega (arith, k.below)) (omega (arith, k.united)))
    (λ (k : Many g count s L). r.1 (omega (arith, more g count s L k t st, k.above)))
    (fault_cases g count s L q)))
    (λ k. k)
    (none_or_some (room_fault g count t))

-- Connected edges are no Walls, so that they leave no fewer parts
connected_joined : (g : Graph) (t : ℕ → ℕ) → joined_parts g t ≤ connected_parts g t
connected_joined g t =
    parts_fewer is_connected not_wall g t t (λ i h e. ap not (ne_eqb (t i) 2 (λ (w : t i ≡ 2). omega (arith, eqb-true (t i) 1 e))))

-- EXCLUDES: in every state of the graph in which the listed entries stand, full or not, the parts over Connected edges are not the count
pub room_excludes : (g : Graph) (count : ℕ) (s : ℕ → ℕ) (L : List ℕ) → room_fault g count s ≡ some L → (t : ℕ → ℕ) → Standing t L → connected_parts g t ≢ count
room_excludes g count s L q t st e =
    ⊎_elim
    (λ (k : Tipped g count s L). omega (arith, fewer g count s L k t st, k.below))
    (λ (k : Many g count s L). omega (arith, more g count s L k t st, k.above, connected_joined g t))
    (fault_cases g count s L q)

-- FULL: a fully decided graph whose count is at most its vertices is clear exactly when its parts equal the count
pub room_decides : (g : Graph) (count : ℕ) (s : ℕ → ℕ) → count ≤ g.vertices → Full g s → (room_fault g count s ≡ none) ↔ (connected_parts g s ≡ count)
room_decides g count s small full =
    let lo : joined_parts g s ≤ connected_parts g s = connected_joined g s in
    let hi : connected_parts g s ≤ joined_parts g s =
    parts_fewer not_wall is_connected g s s
    (λ i h e. ⊎_elim (λ (w : s i ≡ 1). eq-eqb (s i) 1 w) (λ (w : s i ≡ 2). absurd (eqb-false (s i) 2 (not-true _ e) w)) (full i h)) in (
      λ q.
          let r = clear_facts g count s q in
          ⊎_elim
          (λ (k : count ≤ connected_parts g s).
          ⊎_elim (λ (j : connected_parts g s ≤ count). omega arith) (λ (j : count < connected_parts g s). absurd (r.1 (omega arith))) (le_or_lt (connected_parts g s) count))
          (λ (k : connected_parts g s < count). absurd (r.0 k (omega arith)))
          (le_or_lt count (connected_parts g s)),
      λ e.
          ⊎_elim
          (λ q. q)
          (λ (k : (L : List ℕ) × (room_fault g count s ≡ some L)).
          absurd
          (⊎_elim (λ (y : Tipped g count s k.0). omega (arith, y.below)) (λ (y : Many g count s k.0). omega (arith, y.above)) (fault_cases g count s k.0 k.1)))
          (none_or_some (room_fault g count s)),
    )

-- the check depends on the states of the graph's edges alone
pub room_agrees : (g : Graph) (count : ℕ) (s t : ℕ → ℕ) → ((i : ℕ) → i < g.edges → s i ≡ t i) → room_fault g count s ≡ room_fault g count t
unfolding room_fault tipped_of
room_agrees g count s t h =
    let a : connected_parts g s ≡ connected_parts g t = parts_agree is_connected g s t h in
    let b : joined_parts g s ≡ joined_parts g t = parts_agree not_wall g s t h in
    let c = entries_agree connected_entry 1 g.edges s t h in
    let d = entries_agree wall_entry 2 g.edges s t h in
    rw (a, b, c, d)

-- and on the ends of those edges
pub room_ends : (n m : ℕ) (us vs us' vs' : List ℕ) (count : ℕ) (s : ℕ → ℕ) → ((i : ℕ) → i < m → get_or us i 0 ≡ get_or us' i 0)
    → ((i : ℕ) → i < m → get_or vs i 0 ≡ get_or vs' i 0) → room_fault (graph n m us vs) count s ≡ room_fault (graph n m us' vs') count s
unfolding room_fault tipped_of
room_ends n m us vs us' vs' count s hu hv =
    let a : connected_parts (graph n m us vs) s ≡ connected_parts (graph n m us' vs') s = parts_ends is_connected n m us vs us' vs' s hu hv in
    let b : joined_parts (graph n m us vs) s ≡ joined_parts (graph n m us' vs') s = parts_ends not_wall n m us vs us' vs' s hu hv in
    rw (a, b)
