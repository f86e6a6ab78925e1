-- What trials by words of a board's units are handed, and what one leaves of it. Assumes nothing.
use Rattle.std.specs.Prelude.{ℕ, ◌*◌, ◌≤◌, ◌≡◌, List, length}
use Rattle.grid.specs.declared.Grid.{Grid}
use Rattle.grid.specs.Grid.{cells}
use Rattle.words.specs.Words.{Full}
use Rattle.border_words.specs.Sides.{BorderWords}
use Rattle.offsets.specs.declared.table.CellInfo.{CellInfo}
use Rattle.offsets.specs.Table.{potentials_in}
use Rattle.cell_words.specs.Cells.{Stamped}
use Rattle.row_trials.specs.declared.unit_words.UnitWords.{UnitWords}
use Rattle.row_trials.specs.Rows.{Held}

-- the words of a whole row and of the board's borders, room for the codes of any unit, and words of near cells that are as their stamps say
pub record Prepared (g : Grid) (states : List ℕ) (table : List CellInfo) (w : UnitWords) : Type 0 where
  pub whole : Full g.width w.full
  pub words_are : BorderWords g states w.board.now
  pub codes_long : cells g ≤ length w.codes.now
  pub borders_long : 6 * cells g ≤ length w.borders.now
  pub stamped : Stamped g states (potentials_in g table) w.near

-- the words of a row and of the board's borders, the room for codes and the lists of near words are those that were handed
pub record Left (g : Grid) (states : List ℕ) (table : List CellInfo) (w w' : UnitWords) : Type 0 where
  pub whole : w'.full ≡ w.full
  pub words_are : w'.board.now ≡ w.board.now
  pub codes_as_long : length w'.codes.now ≡ length w.codes.now
  pub borders_as_long : length w'.borders.now ≡ length w.borders.now
  pub held : Held g states (potentials_in g table) w.near w'.near
