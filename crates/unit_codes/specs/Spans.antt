-- Where a unit's cells stand in an image of the board, and which rows they span there (SPEC 14.1). Assumes nothing.
use Rattle.std.specs.Prelude.{ℕ, ◌+◌, ◌≤◌, ◌≡◌, ◌<◌, true, eqb, List}
use Rattle.lists.specs.Lists.{In, any}
use Rattle.grid.specs.declared.Grid.{Grid}
use Rattle.images.specs.declared.Image.{Image}
use Rattle.images.specs.declared.Spot.{Spot}
use Rattle.unit_codes.specs.declared.turned.Rows.{Rows}
use Rattle.images.specs.Images.{spot, spot_in}

-- the row and the column of cell c in image m
unfoldable pub image_row : Image → Grid → ℕ → ℕ
image_row m g c = (spot_in g m (spot g c)).row

unfoldable pub image_col : Image → Grid → ℕ → ℕ
image_col m g c = (spot_in g m (spot g c)).col

-- c is one of these cells
abbrev pub Has : List ℕ → ℕ → Type 0
Has cs c = any (eqb c) cs ≡ true

-- it stands there
pub record Stands (m : Image) (g : Grid) (c : ℕ) (at : Spot) : Type 0 where
  pub row_is : at.row ≡ image_row m g c
  pub col_is : at.col ≡ image_col m g c

-- of a unit's cells, `top` is in the first row of the image, on `from`, and one in its last row, `tall` rows further down
pub record Spans (m : Image) (g : Grid) (cs : List ℕ) (rows : Rows) : Type 0 where
  pub top_in : Has cs rows.top
  pub top_at : Stands m g rows.top rows.from
  pub within : (c : ℕ) → In c cs → (image_row m g rows.top ≤ image_row m g c) × (image_row m g c ≤ image_row m g rows.top + rows.tall)
  pub ends : any (λ c. eqb (image_row m g c) (image_row m g rows.top + rows.tall)) cs ≡ true

-- a cell of a unit, and where it stands in the image
pub record MemberAt (m : Image) (g : Grid) (cs : List ℕ) (c : ℕ) (at : Spot) : Type 0 where
  pub member : Has cs c
  pub stands : Stands m g c at

-- a place in an image, and that of a cell in its first row
pub record Spaced (at from : Spot) : Type 0 where
  pub below : from.row ≤ at.row
  pub row_low : at.row < 32
  pub col_low : at.col < 32
  pub from_low : from.col < 32
