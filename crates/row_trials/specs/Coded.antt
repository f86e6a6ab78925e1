-- A unit's image whose codes are written, and what its trial asks. Assumes nothing.
use Rattle.std.specs.Prelude.{ℕ, ◌+◌, ◌*◌, ◌%◌, ◌≤◌, ◌≡◌, List, length}
use Rattle.lists.specs.Choice.{both}
use Rattle.lists.specs.Lists.{all}
use Rattle.grid.specs.declared.Grid.{Grid}
use Rattle.images.specs.declared.Image.{Image}
use Rattle.shape.specs.Shape.{head_or0}
use Rattle.offsets.specs.declared.table.CellInfo.{CellInfo}
use Rattle.offsets.specs.Table.{unit_in, units_in}
use Rattle.words.specs.Words.{bit, Full}
use Rattle.border_words.specs.Sides.{BorderWords}
use Rattle.unit_codes.specs.declared.turned.Rows.{Rows}
use Rattle.unit_codes.specs.Spans.{Spans}
use Rattle.unit_codes.specs.Codes.{cell_codes, border_codes}
use Rattle.cell_words.specs.Cells.{Inside}

-- the rows of a unit's image, its codes, counted from the cell `top` of the first row, the words of the unit's own cells and of the board's
-- borders; `on` has the offsets at which all cells stay in their rows
pub record CodedUnit (m : Image) (g : Grid) (states : List ℕ) (table : List CellInfo) (cs : List ℕ) (rows : Rows) (codes borders : List ℕ) (full : ℕ) (words inside : List ℕ) (on : ℕ) : Type 0 where
  pub span : Spans m g cs rows
  pub cells_are : codes ≡ cell_codes m g rows.top cs
  pub borders_are : borders ≡ border_codes m g states table rows.top cs
  pub whole : Full g.width full
  pub on_is : (x : ℕ) → bit on x ≡ both (bit full (x + 32)) (all (λ e. bit full (x + e % 64)) (cell_codes m g rows.top cs))
  pub words_are : BorderWords g states words
  pub inside_is : Inside g (units_in g table) (unit_in table (head_or0 cs)) inside

-- the words of the board's borders and of a whole row, and room for the unit's codes
pub record Asking (g : Grid) (states cs : List ℕ) (full : ℕ) (words : List ℕ) (codes borders : ℕ) : Type 0 where
  pub whole : Full g.width full
  pub words_are : BorderWords g states words
  pub codes_long : length cs ≤ codes
  pub borders_long : 6 * length cs ≤ borders
