-- Groups of small boards, computed. Assumes nothing.
use Rattle.std.specs.Prelude.{◌≡◌, refl, true, false, [], ◌∷◌}
use Rattle.grid.specs.Grid.{grid}
use Rattle.groups.specs.Groups.{group_ids, group_count}
use Rattle.groups.specs.Turn.{in_turn, starts_of, sizes_of}

-- 1 by 3, Wall, Connected
row_units : group_ids (grid 1 3) (2 ∷ 1 ∷ []) false ≡ 0 ∷ 1 ∷ 1 ∷ []
unfolding group_ids
row_units = refl

row_starts : starts_of 3 (0 ∷ 1 ∷ 1 ∷ []) 2 ≡ 0 ∷ 1 ∷ []
unfolding starts_of
row_starts = refl

row_sizes : sizes_of 3 (0 ∷ 1 ∷ 1 ∷ []) 2 ≡ 1 ∷ 2 ∷ []
unfolding sizes_of
row_sizes = refl

-- 2 by 2: the upper border undecided, the left one Connected, the lower and the right one Walls
square_units : group_ids (grid 2 2) (0 ∷ 2 ∷ 1 ∷ 2 ∷ []) false ≡ 0 ∷ 1 ∷ 0 ∷ 2 ∷ []
unfolding group_ids
square_units = refl

square_potential : group_ids (grid 2 2) (0 ∷ 2 ∷ 1 ∷ 2 ∷ []) true ≡ 0 ∷ 0 ∷ 0 ∷ 1 ∷ []
unfolding group_ids
square_potential = refl

square_count : group_count (grid 2 2) (0 ∷ 2 ∷ 1 ∷ 2 ∷ []) false ≡ 3
unfolding group_count
square_count = refl

-- a group's cells need not lie together in row order
square_turn : in_turn 4 (0 ∷ 1 ∷ 0 ∷ 2 ∷ []) 3 ≡ 0 ∷ 2 ∷ 1 ∷ 3 ∷ []
unfolding in_turn
square_turn = refl
