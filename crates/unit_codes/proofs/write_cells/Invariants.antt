-- `unit_codes::write_cells` meets its contract: at each turn the codes of the cells that are left are still to write. Assumes nothing.
use Prim.Native.Nat.{ℕ}
use mathlib.Core.List.{[], ◌∷◌}
use lib.ListN.{drop}
use Rattle.lists.specs.Lists.{gather}
use Rattle.boundary.proofs.AppendLaws.{Rest}
use Rattle.unit_codes.specs.Codes.{cell_code}
use Rattle.unit_codes.proofs.write_cells.Given as goal

abbrev pub invariant-loop-i : goal.invariant-loop-i
invariant-loop-i l =
    let t = l.turned in
    let of = λ (c : ℕ). cell_code t.image t.unit.chart.borders.grid t.rows.top c ∷ [] in
    Rest l.initial.codes 0 (gather of l.cells) l.codes l.i (gather of (drop l.i l.cells))
