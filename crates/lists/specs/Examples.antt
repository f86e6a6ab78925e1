-- Closed examples: one number written at several places. Assumes nothing.
use Rattle.std.specs.Prelude.{◌≡◌, refl, [], ◌∷◌}
use Rattle.lists.specs.Writes.{puts}

-- the other places stay
two_places : puts (3 ∷ 0 ∷ []) 7 (1 ∷ 2 ∷ 3 ∷ 4 ∷ []) ≡ 7 ∷ 2 ∷ 3 ∷ 7 ∷ []
unfolding puts
two_places = refl

-- a place that stands twice
same_place : puts (1 ∷ 1 ∷ []) 0 (5 ∷ 6 ∷ 7 ∷ []) ≡ 5 ∷ 0 ∷ 7 ∷ []
unfolding puts
same_place = refl

no_place : puts [] 7 (1 ∷ 2 ∷ []) ≡ 1 ∷ 2 ∷ []
unfolding puts
no_place = refl
