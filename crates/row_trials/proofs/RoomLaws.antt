-- What trials by words of a board's units are handed is what each asks, and what one leaves of it is handed to the next. Assumes nothing.
use Prim.Native.Nat.{ℕ, ◌≤◌}
use mathlib.Core.List.{List}
use native.Mathlib.Omega.{arith}
use lib.ListN.{length}
use Rattle.grid.specs.declared.Grid.{Grid}
use Rattle.grid.specs.Grid.{cells}
use Rattle.boundary.proofs.BoundaryLaws.{cells_most}
use Rattle.offsets.specs.declared.table.CellInfo.{CellInfo}
use Rattle.shape.specs.Shape.{head_or0}
use Rattle.offsets.specs.Table.{unit_in, units_in}
use Rattle.offsets.specs.Trial.{Unit}
use Rattle.row_trials.specs.Coded.{Asking}
use Rattle.row_trials.specs.declared.unit_words.UnitWords.{UnitWords}
use Rattle.row_trials.specs.Words.{Prepared, Left}

-- there is room for the codes of a unit
pub asking : {g : Grid} {states : List ℕ} {table : List CellInfo} {w : UnitWords} → Prepared g states table w → {cs : List ℕ} → Unit g table cs
    → Asking g states cs w.full w.board.now (length w.codes.now) (length w.borders.now)
asking {g} {table = table} p {cs} u =
    let k : length cs ≤ cells g = rw u.cells_are (cells_most g (units_in g table) (unit_in table (head_or0 cs))) in
    record { whole = p.whole; words_are = p.words_are; codes_long = omega (arith, k, p.codes_long); borders_long = omega (arith, k, p.borders_long) }

-- what a trial leaves serves the next
pub left_prepared : {g : Grid} {states : List ℕ} {table : List CellInfo} {w w' : UnitWords} → Prepared g states table w → Left g states table w w' → Prepared g states table w'
left_prepared p l =
    record {
      whole = rw l.whole p.whole;
      words_are = rw l.words_are p.words_are;
      codes_long = omega (arith, p.codes_long, l.codes_as_long);
      borders_long = omega (arith, p.borders_long, l.borders_as_long);
      stamped = l.held.stamped;
    }
