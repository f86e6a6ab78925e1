-- `path::reason_for_path` meets its contract: a law for each question, and what `list` ensures. Assumes nothing.
use native.Mathlib.Omega.{arith}
use Rattle.path.proofs.reason_for_path.Goals as goal

pub list-requires : goal.list-requires
list-requires c = rw c.borders.ensures.grid (record { cells = (omega (arith, c.cell_count-cells.ensures), omega (arith, c.cell_count-cells.ensures)); width_in_bounds = omega (arith, c.cell_count-cells.ensures) })
