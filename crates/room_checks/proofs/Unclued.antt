-- Rooms of which none has a clue: the test's loop, and that their counts find nothing. Assumes nothing.
use Prim.Native.Nat.{ℕ}
use mathlib.Core.Path.{◌≡◌, refl, ◌∙◌}
use mathlib.Core.Bool.{Bool, true}
use mathlib.Core.List.{List, [], ◌∷◌}
use mathlib.Core.Option.{none}
use borrow.Author.Tests.{eqb-true, eq-eqb}
use lib.Dec.{eqb}
use lib.ListN.{length, get_or}
use Rattle.limits.specs.Limits.{no_clue}
use Rattle.lists.specs.Choice.{or_else}
use Rattle.lists.specs.Lists.{range, first}
use Rattle.lists.proofs.ListLaws.{all_true, get_d_in, in_range}
use Rattle.borders.proofs.Congruence.{first_same}
use Rattle.grid.specs.declared.Grid.{Grid}
use Rattle.room_checks.specs.RoomChecks.{none_clued, clue_list, Faulty, fault_at, rooms_fault}

nothing_first : (xs : List ℕ) → first {B = Faulty} (λ r. none) xs ≡ none
unfolding first or_else
nothing_first [] = refl
nothing_first (x ∷ xs) = nothing_first xs

pub none_found : (g : Grid) (given : ℕ → Bool) (cs : ℕ → List ℕ) (clues : List ℕ) (s : ℕ → ℕ) → none_clued clues ≡ true → rooms_fault g given cs clues s ≡ none
unfolding rooms_fault none_clued fault_at clue_list
none_found g given cs clues s q =
    first_same (λ r. fault_at r (clue_list g given (cs r) (get_or clues r 0) s)) (λ r. none) (range (length clues))
    (λ r m.
    let unclued : get_or clues r 0 ≡ no_clue = eqb-true (get_or clues r 0) no_clue (all_true (λ c. eqb c no_clue) clues q (get_or clues r 0) (get_d_in 0 clues r (in_range (length clues) r m))) in
    rw (eq-eqb (get_or clues r 0) no_clue unclued))
    ∙ nothing_first (range (length clues))
