-- The eight images of a square (SPEC 14.1), by pictures: an image takes the place of a cell in a picture to its place in the turned one. Assumes nothing.
use Rattle.std.specs.Prelude.{ℕ, zero, suc, ◌-◌, ◌%◌, List, [], ◌∷◌, map, leb}
use Rattle.lists.specs.Choice.{pick}
use Rattle.lists.specs.Lists.{range}
use Rattle.grid.specs.declared.Direction.{Direction}
use Rattle.grid.specs.declared.Direction.TheVariants.{Up, Down, Left, Right}
use Rattle.grid.specs.declared.Grid.{Grid}
use Rattle.grid.specs.Grid.{grid, row, col}
use Rattle.images.specs.declared.Spot.{Spot}
use Rattle.images.specs.declared.Image.{Image}

-- a cell in a picture: the picture's height and width, and the cell's row and column
pub record Picture : Type 0 where
  pub size : Grid
  pub spot : Spot

-- a left-right mirror
abbrev pub mirrored : Picture → Picture
mirrored p = record { size = p.size; spot = record { row = p.spot.row; col = p.size.width - 1 - p.spot.col } }

-- a quarter turn clockwise: columns become rows, and the first row the last column
abbrev pub clockwise : Picture → Picture
clockwise p = record { size = grid p.size.width p.size.height; spot = record { row = p.spot.col; col = p.size.height - 1 - p.spot.row } }

-- so many quarter turns clockwise
abbrev pub turned : ℕ → Picture → Picture
turned zero p = p
turned (suc n) p = clockwise (turned n p)

-- images 0 to 3 are quarter turns clockwise, 4 to 7 the same after a left-right mirror
abbrev pub image_of : Image → Picture → Picture
image_of m p = turned (m.number % 4) (pick (leb 4 m.number) (mirrored p) p)

-- the same of a direction
abbrev pub mirrored_to : Direction → Direction
mirrored_to Up = Up
mirrored_to Down = Down
mirrored_to Left = Right
mirrored_to Right = Left

abbrev pub clockwise_to : Direction → Direction
clockwise_to Up = Right
clockwise_to Right = Down
clockwise_to Down = Left
clockwise_to Left = Up

abbrev pub turned_to : ℕ → Direction → Direction
turned_to zero d = d
turned_to (suc n) d = clockwise_to (turned_to n d)

abbrev pub direction_in : Image → Direction → Direction
direction_in m d = turned_to (m.number % 4) (pick (leb 4 m.number) (mirrored_to d) d)

-- the row and the column of a cell of a board
abbrev pub spot : Grid → ℕ → Spot
spot g c = record { row = row g c; col = col g c }

-- where the cell of a spot stands in an image of the board
abbrev pub spot_in : Grid → Image → Spot → Spot
spot_in g m p = (image_of m (record { size = g; spot = p })).spot

-- the image of a number
abbrev pub image : ℕ → Image
image k = record { number = k }

-- the one image of translates, and all eight, in the order in which they are tried
abbrev pub translate : Image
translate = image 0

abbrev pub translates : List Image
translates = translate ∷ []

abbrev pub all_images : List Image
all_images = map image (range 8)
