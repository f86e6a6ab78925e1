-- The end of the loop that copies the edges' ends, and that a graph's limit refuses what is copied of a longer list. Assumes nothing.
use Prim.Native.Nat.{ℕ, ◌≤◌, ◌<◌}
use mathlib.Core.Path.{◌≡◌, sym, ◌∙◌}
use mathlib.Core.Logic.{⊎_elim}
use mathlib.Core.List.{List}
use native.Mathlib.Omega.{arith}
use borrow.Author.Tests.{le-leb, lt-leb}
use lib.ListN.{length, take, length-map}
use lib.Seq.{take_all, length-take-le}
use Rattle.limits.specs.Limits.{most_cells, most_borders}
use Rattle.lists.proofs.Cases.{le_or_lt}
use Rattle.city_count.specs.Room.{make_of}
use Rattle.city_count.proofs.RoomLaws.{make_vertices, make_edges}
use Rattle.edge_list.specs.declared.Edge.{Edge}
use Rattle.edge_list.specs.EdgeList.{firsts, seconds, held_of}

-- the first i edges of es have their ends in us and vs
pub record Copied (es : List Edge) (i : ℕ) (us vs : List ℕ) : Type 0 where
  pub us_places : length us ≡ 1985
  pub vs_places : length vs ≡ 1985
  pub us_copied : take i us ≡ take i (firsts es)
  pub vs_copied : take i vs ≡ take i (seconds es)

-- of two lists of l numbers, what has a place makes the same graph
module _ (n : ℕ) (xs ys : List ℕ) (l count : ℕ) (p : length xs ≡ l) (q : length ys ≡ l) where
  short : l ≤ 1985 → make_of n (take (held_of l) xs) (take (held_of l) ys) count ≡ make_of n xs ys count
  short h = rw (le-leb l 1985 h, take_all l xs (omega (arith, p)), take_all l ys (omega (arith, q)))

  long : 1985 < l → make_of n (take (held_of l) xs) (take (held_of l) ys) count ≡ make_of n xs ys count
  long h =
      let k : most_borders < length (take 1985 xs) = rw (length-take-le 1985 xs (omega (arith, p))) (omega arith) in
      rw (lt-leb l 1985 h)
      (⊎_elim
      (λ (m : n ≤ most_cells). sym (make_edges n (take 1985 xs) (take 1985 ys) count m k) ∙ make_edges n xs ys count m (omega (arith, p)))
      (λ (m : most_cells < n). sym (make_vertices n (take 1985 xs) (take 1985 ys) count m) ∙ make_vertices n xs ys count m)
      (le_or_lt n most_cells))

  made_alike : make_of n (take (held_of l) xs) (take (held_of l) ys) count ≡ make_of n xs ys count
  made_alike = ⊎_elim (λ (h : l ≤ 1985). short h) (λ (h : 1985 < l). long h) (le_or_lt l 1985)

-- the end: all edges that have a place are copied
pub copied_all : (n : ℕ) (es : List Edge) (count : ℕ) (us vs : List ℕ) → Copied es (held_of (length es)) us vs
    → make_of n (take (held_of (length es)) us) (take (held_of (length es)) vs) count ≡ make_of n (firsts es) (seconds es) count
copied_all n es count us vs c =
    rw (c.us_copied, c.vs_copied)
    (made_alike n (firsts es) (seconds es) (length es) count (length-map es (λ (e : Edge). e.u)) (length-map es (λ (e : Edge). e.v)))
