-- Each cell's vertex, from 1: the loop that writes it, and what stands at each cell then. Assumes nothing.
use Prim.Native.Nat.{ℕ, suc, ◌+◌, ◌≤◌, ◌<◌}
use mathlib.Core.Path.{◌≡◌, refl, ap, sym, ◌∙◌}
use mathlib.Core.Logic.{inl, inr, ◌≢◌, ⊎_elim}
use mathlib.Core.Bool.{Bool, true, false, not}
use mathlib.Core.List.{List, [], ◌∷◌}
use native.Mathlib.Omega.{arith}
use native.Mathlib.Numerals.{add-one}
use borrow.Author.Tests.{eq-eqb, ne_eqb}
use lib.Dec.{eqb}
use lib.ListN.{length, get_or, drop, set, length-set, drop_of_length-le, length-replicate}
use lib.Seq.{get_or-set_same, get_or-set_other, drop-cons}
use Rattle.limits.specs.Limits.{most_cells}
use Rattle.lists.specs.Choice.{pick}
use Rattle.lists.specs.Lists.{In, any, count}
use Rattle.lists.proofs.Cases.{eq_or_ne, true_or_false}
use Rattle.lists.proofs.ListLaws.{zeros_at}
use Rattle.lists.proofs.CountLaws.{count_here, count_other, in_count}
use Rattle.rooms.specs.RoomGraph.{is_in, place}
use Rattle.rooms.specs.Lent.{nowhere, numbered, marked_in}
use Rattle.rooms.proofs.RoomLaws.{is_in_lem, in_is}

-- a turn of the loop, and its end
pub number_turn : (cs : List ℕ) (i : ℕ) (xs : List ℕ) → i < length cs → numbered (drop i cs) (i + 1) xs ≡ numbered (drop (i + 1) cs) (i + 1 + 1) (set xs (get_or cs i 0) (i + 1))
unfolding numbered
number_turn cs i xs h = rw (drop-cons cs i 0 h, add-one, add-one)

pub number_end : (cs : List ℕ) (i k : ℕ) (xs : List ℕ) → length cs ≤ i → numbered (drop i cs) k xs ≡ xs
unfolding numbered
number_end cs i k xs h = rw (drop_of_length-le cs {i = i} h)

-- where no cell stands twice, each has its place
pub numbered_at : (cs : List ℕ) (k : ℕ) (xs : List ℕ) → ((c : ℕ) → count c cs ≤ 1) → ((c : ℕ) → In c cs → c < length xs) → (c : ℕ)
    → get_or (numbered cs k xs) c 0 ≡ pick (is_in cs c) (k + place cs c) (get_or xs c 0)
unfolding numbered is_in any place
numbered_at [] k xs one small c = refl
numbered_at (x ∷ cs) k xs one small c =
    let rest = numbered_at cs (suc k) (set xs x k) (λ y. omega (arith, one y, more y)) (λ y m. simp length-set (small y (inr m))) c in
    ⊎_elim
    (λ (q : c ≡ x).
    let out : is_in cs x ≡ false = ⊎_elim (λ (t : is_in cs x ≡ true). absurd (omega (arith, one x, count_here x cs, in_count x cs (is_in_lem cs x t)))) (λ t. t) (true_or_false (is_in cs x)) in
    rest ∙ rw (q, out, eq-eqb x x refl, get_or-set_same xs x k 0 (small x (inl refl))) (omega arith))
    (λ (z : c ≢ x). rest ∙ rw (ne_eqb c x z, ne_eqb x c (λ e. z (sym e)), get_or-set_other xs x c k 0 z) (ap (λ n. pick (is_in cs c) n (get_or xs c 0)) (omega arith)))
    (eq_or_ne c x)
  where
    more : (y : ℕ) → count y cs ≤ count y (x ∷ cs)
    more y = ⊎_elim (λ (q : x ≡ y). rw q (omega (arith, count_here y cs))) (λ (z : x ≢ y). omega (arith, count_other y x cs z)) (eq_or_ne x y)

pub nowhere_length : length nowhere ≡ most_cells
unfolding nowhere
nowhere_length = length-replicate {A = ℕ} most_cells 0

nowhere_at : (c : ℕ) → get_or nowhere c 0 ≡ 0
unfolding nowhere
nowhere_at = zeros_at most_cells

-- a cell has a vertex exactly if it is one of the room's, and then its place among them
module _ (cs : List ℕ) (one : (c : ℕ) → count c cs ≤ 1) (small : (c : ℕ) → In c cs → c < most_cells) where
  vertex_at : (c : ℕ) → get_or (numbered cs 1 nowhere) c 0 ≡ pick (is_in cs c) (1 + place cs c) 0
  vertex_at c = numbered_at cs 1 nowhere one (λ x m. rw nowhere_length (small x m)) c ∙ ap (pick (is_in cs c) (1 + place cs c)) (nowhere_at c)

  pub vertex_marked : (c : ℕ) → marked_in (numbered cs 1 nowhere) c ≡ is_in cs c
  vertex_marked c = rw (vertex_at c) (go (is_in cs c))
    where
      go : (t : Bool) → not (eqb (pick t (1 + place cs c) 0) 0) ≡ t
      go true = ap not (ne_eqb (1 + place cs c) 0 (λ e. omega arith))
      go false = refl

  pub vertex_is : (c : ℕ) → In c cs → get_or (numbered cs 1 nowhere) c 0 ≡ 1 + place cs c
  vertex_is c m = vertex_at c ∙ rw (in_is cs c m)
