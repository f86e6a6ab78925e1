-- A unit's image as codes that read row words: of its cells, and of those of its borders that must land well (SPEC 13.3, 14.2). The codes count
-- from the place in the image of `f`, a cell of the unit in the image's first row. Assumes nothing.
use Rattle.std.specs.Prelude.{ℕ, ◌+◌, ◌-◌, ◌*◌, Bool, true, false, List, [], ◌∷◌, ◌++◌}
use Rattle.lists.specs.Choice.{when}
use Rattle.lists.specs.Lists.{gather}
use Rattle.grid.specs.declared.Direction.{Direction}
use Rattle.grid.specs.declared.Grid.{Grid}
use Rattle.images.specs.declared.Image.{Image}
use Rattle.images.specs.Images.{direction_in}
use Rattle.shape.specs.Shape.{head_or0}
use Rattle.offsets.specs.declared.table.CellInfo.{CellInfo}
use Rattle.offsets.specs.Table.{unit_in, units_in}
use Rattle.offsets.specs.Landings.{kept_of, directions_of}
use Rattle.words.specs.Layout.{side_at, back_of}
use Rattle.unit_codes.specs.Spans.{image_row, image_col}

-- the code of cell c: its rows behind f's, and 32 more than its columns behind f's
abbrev pub cell_code : Image → Grid → ℕ → ℕ → ℕ
cell_code m g f c = 64 * (image_row m g c - image_row m g f) + (32 + image_col m g c - image_col m g f)

-- the code of its border, an inner one of the unit or else a Wall or edge, that lies in direction d of the image
abbrev pub border_code : Image → Grid → ℕ → Bool → ℕ → Direction → ℕ
border_code m g f inner c d = 64 * (side_at inner d + (image_row m g c - image_row m g f)) + (32 + image_col m g c - back_of d - image_col m g f)

-- the codes of a cell's borders that must land well (SPEC 4.9): a direction of the board lies in its image's direction
unfoldable pub codes_at : Image → Grid → List ℕ → List ℕ → ℕ → ℕ → Bool → ℕ → List ℕ
unfolding gather when kept_of
codes_at m g states ids unit f inner c = gather (λ d. when (kept_of g states ids inner unit c d) (border_code m g f inner c (direction_in m d))) (directions_of inner)

-- the codes of a unit's cells, and of its borders: inner ones, then Walls and edges
unfoldable pub cell_codes : Image → Grid → ℕ → List ℕ → List ℕ
unfolding gather
cell_codes m g f cs = gather (λ c. cell_code m g f c ∷ []) cs

unfoldable pub border_codes : Image → Grid → List ℕ → List CellInfo → ℕ → List ℕ → List ℕ
unfolding gather codes_at
border_codes m g states table f cs =
    let codes = codes_at m g states (units_in g table) (unit_in table (head_or0 cs)) f in
    gather (codes true) cs ++ gather (codes false) cs

-- of the unit with these cells: the code of cell c's border, if it must land well; those of all its borders; and those of all the unit's cells
abbrev pub code_at : Image → Grid → List ℕ → List CellInfo → List ℕ → ℕ → Bool → ℕ → Direction → List ℕ
code_at m g states table cs f inner c d = when (kept_of g states (units_in g table) inner (unit_in table (head_or0 cs)) c d) (border_code m g f inner c (direction_in m d))

abbrev pub codes_of : Image → Grid → List ℕ → List CellInfo → List ℕ → ℕ → Bool → ℕ → List ℕ
codes_of m g states table cs f inner c = codes_at m g states (units_in g table) (unit_in table (head_or0 cs)) f inner c

abbrev pub part_codes : Image → Grid → List ℕ → List CellInfo → List ℕ → ℕ → Bool → List ℕ
part_codes m g states table cs f inner = gather (codes_of m g states table cs f inner) cs
