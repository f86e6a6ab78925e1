-- The first-in first-out search (SPEC 4.3). A found cell is kept with its list: the entries from it back to the start. Assumes nothing.
use Rattle.std.specs.Prelude.{ℕ, zero, suc, Bool, true, false, List, [], ◌∷◌, ◌++◌, eqb, get_or, set, replicate}
use Rattle.std.proofs.Math.Option.{Option, none, some}
use Rattle.lists.specs.Choice.{both, pick}
use Rattle.answers.specs.Answers.{list_of}
use Rattle.grid.specs.declared.Direction.{Direction}
use Rattle.grid.specs.declared.Grid.{Grid}
use Rattle.grid.specs.Grid.{cells, next, border}
use Rattle.grid.specs.Orders.{around}
use Rattle.borders.specs.Entry.{connected_entry}
use Rattle.borders.specs.Border.{stands}

-- for each cell its list, or nothing while it is not found
abbrev pub Lists : Type 0
Lists = List (Option (List ℕ))

-- the cells that wait to be taken out, the first in front, and what is found
pub record Search : Type 0 where
  pub queue : List ℕ
  pub found : Lists

unfoldable pub is_new : Option (List ℕ) → Bool
is_new none = true
is_new (some p) = false

-- x is marked with its list and put at the queue's end
unfoldable pub mark : ℕ → List ℕ → Search → Search
mark x p s = record { queue = s.queue ++ (x ∷ []); found = set s.found x (some p) }

-- the neighbour in that direction is new, and Connected
unfoldable pub finds : Grid → List ℕ → ℕ → Direction → Search → Bool
unfolding stands next is_new
finds g states c d s = both (stands g states 1 d c) (is_new (get_or s.found (next g d c) none))

-- c, whose list is p, looks in one direction: it finds what no one has found (SPEC 4.3)
unfoldable pub look : Grid → List ℕ → ℕ → List ℕ → Direction → Search → Search
unfolding finds mark border next
look g states c p d s = pick (finds g states c d s) (mark (next g d c) (connected_entry (border g d c) ∷ p) s) s

-- c looks in each of these directions, one after the other
unfoldable pub looks : Grid → List ℕ → ℕ → List ℕ → List Direction → Search → Search
unfolding look
looks g states c p [] s = s
looks g states c p (d ∷ ds) s = looks g states c p ds (look g states c p d s)

-- up, down, left, right
unfoldable pub look_all : Grid → List ℕ → ℕ → List ℕ → Search → Search
unfolding looks
look_all g states c p s = looks g states c p around s

-- c looks round, with the list that it was found with
unfoldable pub look_round : Grid → List ℕ → ℕ → Search → Search
unfolding look_all
look_round g states c s = look_all g states c (list_of (get_or s.found c none)) s

-- at most `fuel` cells are taken out, up to the target
unfoldable pub search_from : Grid → List ℕ → ℕ → ℕ → List ℕ → Lists → Lists
unfolding look_round
search_from g states target zero queue found = found
search_from g states target (suc fuel) [] found = found
search_from g states target (suc fuel) (c ∷ queue) found =
    pick (eqb c target) found (let s = look_round g states c (record { queue = queue; found = found }) in search_from g states target fuel s.queue s.found)

-- the start is found, with the empty list, and waits alone; each cell is taken out once at most
unfoldable pub search : Grid → List ℕ → ℕ → ℕ → Lists
unfolding search_from
search g states start target = search_from g states target (cells g) (start ∷ []) (set (replicate (cells g) none) start (some []))

-- the target's list, from the target back to the start; nothing where the search does not find it
unfoldable pub path_of : Grid → List ℕ → ℕ → ℕ → Option (List ℕ)
unfolding search
path_of g states start target = get_or (search g states start target) target none

unfoldable pub path_list : Grid → List ℕ → ℕ → ℕ → List ℕ
unfolding path_of
path_list g states start target = list_of (path_of g states start target)
