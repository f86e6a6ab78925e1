-- The code of one cell and of one border, by what stands in the table. Assumes nothing.
use Prim.Native.Nat.{ℕ, ◌+◌, ◌-◌, ◌*◌, ◌≤◌}
use mathlib.Core.Path.{◌≡◌, ◌∙◌}
use mathlib.Core.Bool.{Bool, true, false}
use native.Mathlib.Omega.{arith}
use Rattle.grid.specs.declared.Direction.{Direction}
use Rattle.grid.specs.declared.Direction.TheVariants.{Up, Down, Left, Right}
use Rattle.grid.specs.declared.Grid.{Grid}
use Rattle.images.specs.declared.Image.{Image}
use Rattle.images.specs.declared.Spot.{Spot}
use Rattle.words.specs.Layout.{base_of, side_at, back_of}
use Rattle.unit_codes.specs.Codes.{cell_code, border_code}
use Rattle.unit_codes.specs.Spans.{Stands}

-- the parts of a code are small
pub base_low : (d : Direction) → base_of d ≤ 33
base_low Up = omega arith
base_low Down = omega arith
base_low Left = omega arith
base_low Right = omega arith

pub side_low : (walls : Bool) (d : Direction) → side_at walls d ≤ 99
side_low true d = omega (arith, base_low d)
side_low false d = omega (arith, base_low d)

pub back_low : (d : Direction) → back_of d ≤ 1
back_low Up = omega arith
back_low Down = omega arith
back_low Left = omega arith
back_low Right = omega arith

-- the codes that come of a cell's place in an image, and of that of the cell from which they count
module _ {m : Image} {g : Grid} {f c : ℕ} {from at : Spot} (p : Stands m g f from) (q : Stands m g c at) where
  pub cell_coded : {r : ℕ} → r ≡ 64 * (at.row - from.row) + (32 + at.col - from.col) → r ≡ cell_code m g f c
  cell_coded e = e ∙ rw (q.row_is, q.col_is, p.row_is, p.col_is)

  pub border_coded : (inner : Bool) (d : Direction) {r : ℕ} → r ≡ 64 * (side_at inner d + (at.row - from.row)) + (32 + at.col - back_of d - from.col) → r ≡ border_code m g f inner c d
  border_coded inner d e = e ∙ rw (q.row_is, q.col_is, p.row_is, p.col_is)
