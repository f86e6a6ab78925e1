-- `offsets::trial::Trial::reaches` meets its contract: the loop's invariant is `Walk`, what is left of the test. Assumes nothing.
use mathlib.Core.Path.{refl}
use native.Mathlib.Omega.{arith}
use Rattle.grid.proofs.Geometry.{cells_le}
use Rattle.offsets.proofs.ReachLaws.{walk_start, walk_end, on_board_lem, fall_small, walk_off, fall_cell, walk_unit, walk_more}
use Rattle.offsets.proofs.TrialLaws.{unit_cell}
use Rattle.offsets.proofs.trial.Trial.reaches.Goals as goal

pub loop-cell-init : goal.loop-cell-init
loop-cell-init c = walk_start _ _ _ _ _ _

pub bounds-table-from : goal.bounds-table-from
bounds-table-from c =
    let u = c.args.self.unit in
    omega (arith, on_board_lem u.unit.table_of c.requires (unit_cell u.unit) c.loop-cell.invariant c.loop-cell-test.true c.from.ensures, u.unit.table_of.long)

pub falls-requires : goal.falls-requires
falls-requires c =
    let u = c.args.self.unit in
    fall_small u.unit.table_of c.requires (unit_cell u.unit) c.loop-cell.invariant c.loop-cell-test.true c.from.ensures c.spot-spot.ensures

pub returns-in_default : goal.returns-in_default
returns-in_default c =
    let u = c.args.self.unit in
    walk_off u.unit.table_of c.requires (unit_cell u.unit) c.loop-cell.invariant c.loop-cell-test.true c.from.ensures c.spot-spot.ensures c.falls.ensures c.in_default.is

pub offset_bounds-table-fallen : goal.offset_bounds-table-fallen
offset_bounds-table-fallen c =
    let u = c.args.self.unit in
    omega (arith, fall_cell u.unit.table_of c.requires (unit_cell u.unit) c.loop-cell.invariant c.loop-cell-test.true c.from.ensures c.spot-spot.ensures c.falls.ensures c.in-Some.is, cells_le _ c.requires.limits)

pub bounds-table-fallen : goal.bounds-table-fallen
bounds-table-fallen c =
    let u = c.args.self.unit in
    omega (arith, fall_cell u.unit.table_of c.requires (unit_cell u.unit) c.loop-cell.invariant c.loop-cell-test.true c.from.ensures c.spot-spot.ensures c.falls.ensures c.in-Some.is, u.unit.table_of.long)

pub returns-then-beneath-shift : goal.returns-then-beneath-shift
returns-then-beneath-shift c =
    let u = c.args.self.unit in
    walk_unit u.unit.table_of c.requires (unit_cell u.unit) c.loop-cell.invariant c.loop-cell-test.true c.from.ensures c.spot-spot.ensures c.falls.ensures c.in-Some.is refl c.if-beneath-shift.true

pub bounds-self-from : goal.bounds-self-from
bounds-self-from c =
    let u = c.args.self.unit in
    rw c.from-in-loop-cell.ensures
    (c.args.self.placed.marks_long _ (fall_cell u.unit.table_of c.requires (unit_cell u.unit) c.loop-cell.invariant c.loop-cell-test.true c.from.ensures c.spot-spot.ensures c.falls.ensures c.in-Some.is))

pub loop-cell-preserved : goal.loop-cell-preserved
loop-cell-preserved c =
    let u = c.args.self.unit in
    walk_more u.unit.table_of c.requires (unit_cell u.unit) c.loop-cell.invariant c.loop-cell-test.true c.from.ensures c.spot-spot.ensures c.falls.ensures c.in-Some.is refl c.if-beneath-shift.false c.from-in-loop-cell.ensures

pub returns : goal.returns
returns c = walk_end _ _ _ _ _ c.loop-cell.invariant c.loop-cell-test.false
