-- Closed examples: the edges 0-1 and 1-2 of SPEC 7.6, and a loop. Assumes nothing.
use Rattle.std.specs.Prelude.{◌≡◌, refl, true, false, [], ◌∷◌}
use Rattle.room_parts.specs.Graph.{Graph, graph, states_in, connected_parts, joined_parts, parts_if, tipped_of}

path : Graph
path = graph 3 2 (0 ∷ 1 ∷ []) (1 ∷ 2 ∷ [])

undecided : (connected_parts path (states_in (0 ∷ 0 ∷ [])) ≡ 3) × (joined_parts path (states_in (0 ∷ 0 ∷ [])) ≡ 1)
unfolding path parts_if
undecided = (refl, refl)

first_wall : (connected_parts path (states_in (2 ∷ 1 ∷ [])) ≡ 2) × (joined_parts path (states_in (2 ∷ 1 ∷ [])) ≡ 2)
unfolding path parts_if
first_wall = (refl, refl)

-- below the count only once an edge has united
tips : (tipped_of path 3 (states_in (1 ∷ 1 ∷ [])) ≡ true) × (tipped_of path 4 (states_in (0 ∷ 0 ∷ [])) ≡ false)
unfolding path tipped_of
tips = (refl, refl)

-- a loop unites nothing
loop : connected_parts (graph 2 1 (1 ∷ []) (1 ∷ [])) (states_in (1 ∷ [])) ≡ 2
unfolding parts_if
loop = refl
