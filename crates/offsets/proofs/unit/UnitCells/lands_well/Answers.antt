-- `offsets::unit::UnitCells::lands_well` meets its contract: the cells passed land well. Assumes nothing.
use native.Mathlib.Omega.{arith}
use Rattle.offsets.proofs.WellLaws.{cell_on, fall_asks, turn_off, fall_on, turn_bad, turn_well, all_well}
use Rattle.offsets.proofs.unit.UnitCells.lands_well.Goals as goal

pub bounds-table-cell : goal.bounds-table-cell
bounds-table-cell c =
    let u = c.args.self.chart in
    omega (arith, cell_on u.borders.states.now u.table_of c.requires c.loop-cell-test.true c.from-cell.ensures, u.table_of.long)

pub falls-requires : goal.falls-requires
falls-requires c = let u = c.args.self.chart in fall_asks u.borders.states.now u.table_of c.requires c.loop-cell-test.true c.from-cell.ensures c.spot.ensures

pub returns-in_default : goal.returns-in_default
returns-in_default c =
    let u = c.args.self.chart in
    turn_off u.borders.states.now u.table_of c.requires c.loop-cell-test.true c.from-cell.ensures c.spot.ensures c.falls.ensures c.in_default.is c.loop-cell.invariant

pub has_bad-requires : goal.has_bad-requires
has_bad-requires c =
    let u = c.args.self.chart in
    let st = u.borders.states.now in
    (cell_on st u.table_of c.requires c.loop-cell-test.true c.from-cell.ensures, fall_on st u.table_of c.requires c.loop-cell-test.true c.from-cell.ensures c.spot.ensures c.falls.ensures c.in-Some.is)

pub returns-then-has_bad : goal.returns-then-has_bad
returns-then-has_bad c =
    let u = c.args.self.chart in
    turn_bad u.borders.states.now u.table_of c.requires c.loop-cell-test.true c.from-cell.ensures c.spot.ensures c.falls.ensures c.in-Some.is c.has_bad.ensures c.if-has_bad.true c.loop-cell.invariant

pub loop-cell-preserved : goal.loop-cell-preserved
loop-cell-preserved c =
    let u = c.args.self.chart in
    turn_well u.borders.states.now u.table_of c.requires c.loop-cell-test.true c.from-cell.ensures c.spot.ensures c.falls.ensures c.in-Some.is c.has_bad.ensures c.if-has_bad.false c.loop-cell.invariant

pub returns : goal.returns
returns c = all_well _ _ _ c.loop-cell-test.false c.loop-cell.invariant
