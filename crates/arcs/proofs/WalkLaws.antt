-- A walk from u: the arcs of u's list that were tried lead to marked vertices, and the marks grow as a flood from u does. Assumes nothing.
use Prim.Native.Nat.{ℕ, suc, ◌+◌, ◌-◌, ◌≤◌, ◌<◌}
use mathlib.Core.Path.{◌≡◌, refl, ap, ◌∙◌}
use mathlib.Core.Logic.{◌⊎◌, inl, inr, ◌≢◌, ⊎_elim}
use mathlib.Core.List.{List}
use native.Mathlib.Omega.{arith}
use lib.ListN.{get_or, set, length, length-set}
use Rattle.limits.specs.Limits.{most_cells}
use Rattle.parts.specs.Parts.{Edge, begun}
use Rattle.parts.specs.Flood.{HasMark, Link, blank, Grown, Flooded, Swept}
use Rattle.parts.proofs.PartLists.{within_ends}
use Rattle.parts.proofs.FloodLaws.{link_joined, blank_le, blank_keeps, blank_set, grown_keeps, grow_start, grow_shut, grow_more, sweep_start, sweep_flood, sweep_skip}
use Rattle.arcs.specs.Walk.{OnList, here, later, Arcs, Walk, Walked, Sweep, Counted}

-- the first of a list, or one behind it
pub on_cases : (next : List ℕ) (at j : ℕ) → OnList next at j → (at ≡ suc j) ⊎ ((k : ℕ) × (at ≡ suc k) × OnList next (get_or next k 0) j)
on_cases next at j (here e) = inl e
on_cases next at j (later {k = k} e o) = inr (k, e, o)

none_on : (next : List ℕ) (at j : ℕ) → at ≤ 0 → OnList next at j → ⊥
none_on next at j z (here e) = omega arith
none_on next at j z (later e o) = omega arith

-- while u's list is tried: `at` is where what is left of it begins
pub record Trying (head next to : List ℕ) (u : ℕ) (seen₀ seen : List ℕ) (at : ℕ) : Type 0 where
  pub tail : (j : ℕ) → OnList next at j → OnList next (get_or head u 0) j
  pub tried : (j : ℕ) → OnList next (get_or head u 0) j → OnList next at j ⊎ HasMark 0 seen (get_or to j 0)
  pub kept : (c : ℕ) → HasMark 0 seen₀ c → HasMark 0 seen c
  pub size : length seen ≡ length seen₀
  pub grows : (E : List Edge) (n : ℕ) (X : List ℕ) → Arcs E n head next to → u < n → Grown E 0 n u 1 (λ c. c ≡ u) X seen₀
      → Grown E 0 n u 1 (λ c. c ≡ u) X seen

pub try_start : {head next to seen : List ℕ} {u at : ℕ} → at ≡ get_or head u 0 → Trying head next to u seen seen at
try_start e =
    record { tail = λ j o. rw e at o; tried = λ j o. inl (rw e o); kept = λ c m. m; size = refl; grows = λ E n X a h g. g }

module _ {head next to entry : List ℕ} {u left : ℕ} (w : Walk head next to entry u left) where
  fewer : blank 0 w.size (set entry u 1) + 1 ≡ blank 0 w.size entry
  fewer = blank_set 0 w.size entry u 1 w.from (omega (arith, w.from, w.long)) w.free (λ q. omega arith)

  pub some_left : 1 ≤ left
  some_left = omega (arith, fewer, w.deep)

  module _ {seen : List ℕ} {at : ℕ} (k : Trying head next to u (set entry u 1) seen at) (h : 0 < at) where
    first : OnList next (get_or head u 0) (at - 1)
    first = k.tail (at - 1) (here (omega arith))

    pub arc_low : (at - 1 < 3968) × (get_or next (at - 1) 0 ≤ at - 1)
    arc_low = w.arcs.low u (at - 1) w.from first

    -- the arc leads to a neighbour of u
    module _ {v : ℕ} (ev : v ≡ get_or to (at - 1) 0) where
      leads : (E : List Edge) (n : ℕ) → Arcs E n head next to → u < n → Link E u v
      leads E n a l = rw ev (a.sound u (at - 1) l first)

      below : (E : List Edge) (n : ℕ) → Arcs E n head next to → u < n → v < n
      below E n a l =
          ⊎_elim (λ m. (within_ends n E u v a.within m).1) (λ m. (within_ends n E v u a.within m).0) (leads E n a l)

      pub arc_on : v < most_cells
      arc_on = omega (arith, below w.edges w.size w.arcs w.from, w.arcs.few)

      -- what the walk from v asks
      pub walk_next : get_or seen v 0 ≡ 0 → Walk head next to seen v (left - 1)
      walk_next z =
          record {
            edges = w.edges;
            size = w.size;
            arcs = w.arcs;
            from = below w.edges w.size w.arcs w.from;
            free = z;
            long = omega (arith, k.size, length-set entry u 1, w.long);
            deep = omega (arith, fewer, w.deep, blank_keeps 0 w.size (set entry u 1) seen k.kept);
          }

      -- the rest of the list, once v is marked and no mark is lost
      rest : (seen' : List ℕ) (at' : ℕ) → at' ≡ get_or next (at - 1) 0 → HasMark 0 seen' v → ((c : ℕ) → HasMark 0 seen c → HasMark 0 seen' c)
          → (j : ℕ) → OnList next (get_or head u 0) j → OnList next at' j ⊎ HasMark 0 seen' (get_or to j 0)
      rest seen' at' e m f j o =
          ⊎_elim
          (λ i.
          ⊎_elim
          (λ (q : at ≡ suc j). let q' : j ≡ at - 1 = omega arith in inr (rw (q', ← ev) m))
          (λ (y : (l : ℕ) × (at ≡ suc l) × OnList next (get_or next l 0) j).
          let q' : y.0 ≡ at - 1 = omega (arith, y.1) in inl (rw e (rw q' at y.2)))
          (on_cases next at j i))
          (λ i. inr (f (get_or to j 0) i))
          (k.tried j o)

      onward : (at' : ℕ) → at' ≡ get_or next (at - 1) 0 → (j : ℕ) → OnList next at' j → OnList next (get_or head u 0) j
      onward at' e j o = k.tail j (later {k = at - 1} (omega arith) (rw e at o))

      pub try_pass : {at' : ℕ} → at' ≡ get_or next (at - 1) 0 → get_or seen v 0 ≢ 0 → Trying head next to u (set entry u 1) seen at'
      try_pass {at'} e z =
          record { tail = onward at' e; tried = rest seen at' e z (λ c m. m); kept = k.kept; size = k.size; grows = k.grows }

      pub try_walk : {seen' : List ℕ} {at' : ℕ} → at' ≡ get_or next (at - 1) 0 → get_or seen v 0 ≡ 0 → Walked head next to seen v seen'
          → Trying head next to u (set entry u 1) seen' at'
      try_walk {seen'} {at'} e z f =
          let long : w.size ≤ length seen = omega (arith, k.size, length-set entry u 1, w.long) in
          let own : Flooded w.edges 0 w.size v 1 seen seen' = f w.edges w.size w.arcs (below w.edges w.size w.arcs w.from) long z in
          record {
            tail = onward at' e;
            tried = rest seen' at' e own.here (grown_keeps own);
            kept = λ c m. grown_keeps own c (k.kept c m);
            size = own.size ∙ k.size;
            grows = λ E n X a l g.
                let g' : Grown E 0 n u 1 (λ c. c ≡ u) X seen = k.grows E n X a l g in
                grow_more g' v (link_joined E u v (leads E n a l)) (f E n a (below E n a l) g'.long z);
          }

  pub walk_done : {seen : List ℕ} {at : ℕ} → Trying head next to u (set entry u 1) seen at → at ≤ 0 → Walked head next to entry u seen
  walk_done {seen} {at} k z E n a l long free =
      let g : Grown E 0 n u 1 (λ c. c ≡ u) entry seen = k.grows E n entry a l (grow_start E 0 n u 1 entry l long free (λ q. omega arith)) in
      grow_shut g
      (λ c (q : c ≡ u).
      inr
      (λ d i.
      let o = a.whole u d (rw q at i) in
      ⊎_elim (λ y. absurd (none_on next at o.0 z y)) (λ m. rw o.2 at m) (k.tried o.0 o.1)))

-- a sweep: the vertices before s have been seeds, and `parts` parts begin there
pub record Sweeping (n : ℕ) (head next to seen : List ℕ) (parts s : ℕ) : Type 0 where
  pub few : parts ≤ s
  pub long : n ≤ length seen
  pub swept : (E : List Edge) → Arcs E n head next to → Swept E 0 n s parts seen

module _ {n : ℕ} {head next to : List ℕ} (w : Sweep n head next to) where
  pub sweep_none : (seen : List ℕ) → n ≤ length seen → ((c : ℕ) → get_or seen c 0 ≡ 0) → Sweeping n head next to seen 0 0
  sweep_none seen l z =
      record { few = omega arith; long = l; swept = λ E a. sweep_start E 0 n seen a.within l (λ c h. z c) }

  module _ {seen : List ℕ} {parts s : ℕ} (k : Sweeping n head next to seen parts s) where
    pub sweep_walk : s < n → get_or seen s 0 ≡ 0 → Walk head next to seen s n
    sweep_walk l z =
        record { edges = w.edges; size = n; arcs = w.arcs; from = l; free = z; long = k.long; deep = blank_le 0 n seen }

    pub sweep_more : {seen' : List ℕ} → s < n → get_or seen s 0 ≡ 0 → Walked head next to seen s seen' → Sweeping n head next to seen' (parts + 1) (s + 1)
    sweep_more l z f =
        record {
          few = omega (arith, k.few);
          long = (f w.edges n w.arcs l k.long z).long;
          swept = λ E a. sweep_flood (k.swept E a) z (f E n a l k.long z);
        }

    pub sweep_pass : s < n → get_or seen s 0 ≢ 0 → Sweeping n head next to seen parts (s + 1)
    sweep_pass l m = record { few = omega (arith, k.few); long = k.long; swept = λ E a. sweep_skip (k.swept E a) l m }

    pub sweep_all : s ≡ n → Counted n head next to parts
    sweep_all e E a = (k.swept E a).count ∙ ap (begun E) e
