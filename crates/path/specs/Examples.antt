-- Closed examples of paths. Assumes nothing.
use Rattle.std.specs.Prelude.{◌≡◌, refl, [], ◌∷◌}
use Rattle.std.proofs.Math.Option.{none, some}
use Rattle.grid.specs.Grid.{grid}
use Rattle.path.specs.Path.{path_of}

-- SPEC 7.4's 2 by 2, with borders 0, 1, 2 Connected and 3 a Wall: round the Wall below cell 1, from cell 3 back to cell 1
round_the_wall : path_of (grid 2 2) (1 ∷ 1 ∷ 1 ∷ 2 ∷ []) 1 3 ≡ some (2 ∷ 4 ∷ 0 ∷ [])
unfolding path_of
round_the_wall = refl

-- two ways of one length: down comes before right, so cell 2 is taken out before cell 1 and finds cell 3
first_finder : path_of (grid 2 2) (1 ∷ 1 ∷ 1 ∷ 1 ∷ []) 0 3 ≡ some (2 ∷ 4 ∷ [])
unfolding path_of
first_finder = refl

one_cell : path_of (grid 1 1) [] 0 0 ≡ some []
unfolding path_of
one_cell = refl

-- an undecided border joins nothing
not_joined : path_of (grid 1 2) (0 ∷ []) 0 1 ≡ none
unfolding path_of
not_joined = refl
