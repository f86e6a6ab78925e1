-- `offsets::unit::UnitCells::lands_well` meets its contract: the cells passed land well. Assumes nothing.
use mathlib.Core.Path.{◌≡◌}
use lib.ListN.{drop}
use Rattle.lists.specs.Lists.{all}
use Rattle.offsets.specs.Table.{units_in}
use Rattle.offsets.specs.Landings.{lands_well}
use Rattle.offsets.proofs.unit.UnitCells.lands_well.Given as goal

abbrev pub invariant-loop-cell : goal.invariant-loop-cell
invariant-loop-cell l =
    let test = lands_well l.borders.grid l.shift l.borders.states.now (units_in l.borders.grid l.table) in
    all test (drop l.cell-index l.cell-items) ≡ all test l.cell-items
