-- A loop over the numbers below n that appends a list for each: at its turn i, the lists from i on are left. Assumes nothing.
use Prim.Native.Nat.{ℕ, ◌+◌, ◌-◌, ◌≤◌, ◌<◌}
use mathlib.Core.Path.{◌≡◌}
use mathlib.Core.List.{List, [], ◌++◌}
use native.Mathlib.Nat.{sub-zero}
use lib.ListN.{length}
use Rattle.lists.specs.Lists.{count_from, range, gather}
use Rattle.lists.proofs.ListLaws.{count_from_step, count_from_end}
use Rattle.boundary.specs.declared.Entries.{Entries}
use Rattle.boundary.specs.Writes.{Writes}
use Rattle.boundary.proofs.AppendLaws.{Leaves, leaves_all, leaves_room, leaves_on, leaves_end}

module _ (f : ℕ → List ℕ) (n : ℕ) where
  abbrev pub Left : Entries → Entries → ℕ → Type 0
  Left before now i = Leaves before (gather f (range n)) now (gather f (count_from i (n - i)))

  pub left_all : (p : Entries) → Left p p 0
  unfolding range
  left_all p = rw (sub-zero n) (leaves_all p (gather f (range n)))

  module _ {before now : Entries} {i : ℕ} (w : Left before now i) where
    next : i < n → Leaves before (gather f (range n)) now (f i ++ gather f (count_from (i + 1) (n - (i + 1))))
    unfolding gather
    next h = rw (count_from_step n i h) at w

    pub left_room : i < n → before.len + length (gather f (range n)) ≤ length before.buffer.now → now.len + length (f i) ≤ length now.buffer.now
    left_room h = leaves_room (f i) (gather f (count_from (i + 1) (n - (i + 1)))) (next h)

    pub left_on : i < n → {after : Entries} → Writes (f i) now after → Left before after (i + 1)
    left_on h = leaves_on (f i) (gather f (count_from (i + 1) (n - (i + 1)))) (next h)

    pub left_end : n ≤ i → Writes (gather f (range n)) before now
    unfolding gather
    left_end h = let e : gather f (count_from i (n - i)) ≡ [] = rw (count_from_end n i h) in leaves_end (rw e at w)
