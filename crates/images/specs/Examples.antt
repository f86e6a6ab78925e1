-- Closed examples: the first cell of a picture of 2 by 3, and the directions up and right, in each of the eight images. Assumes nothing.
use Rattle.std.specs.Prelude.{ℕ, ◌≡◌, refl, [], ◌∷◌, map}
use Rattle.lists.specs.Lists.{range}
use Rattle.grid.specs.declared.Direction.TheVariants.{Up, Down, Left, Right}
use Rattle.grid.specs.Grid.{grid}
use Rattle.images.specs.declared.Spot.{Spot}
use Rattle.images.specs.Images.{image, all_images, spot_in, direction_in}

abbrev at : ℕ → ℕ → Spot
at y x = record { row = y; col = x }

in_order : all_images ≡ image 0 ∷ image 1 ∷ image 2 ∷ image 3 ∷ image 4 ∷ image 5 ∷ image 6 ∷ image 7 ∷ []
unfolding range
in_order = refl

first_cell : map (λ m. spot_in (grid 2 3) m (at 0 0)) all_images ≡ at 0 0 ∷ at 0 1 ∷ at 1 2 ∷ at 2 0 ∷ at 0 2 ∷ at 2 1 ∷ at 1 0 ∷ at 0 0 ∷ []
unfolding range
first_cell = refl

up : map (λ m. direction_in m Up) all_images ≡ Up ∷ Right ∷ Down ∷ Left ∷ Up ∷ Right ∷ Down ∷ Left ∷ []
unfolding range
up = refl

right : map (λ m. direction_in m Right) all_images ≡ Right ∷ Down ∷ Left ∷ Up ∷ Left ∷ Up ∷ Right ∷ Down ∷ []
unfolding range
right = refl
