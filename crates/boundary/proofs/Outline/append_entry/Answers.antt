-- `boundary::Outline::append_entry` meets its contract: one law of `ListingLaws` for each way out. Assumes nothing.
use mathlib.Core.Path.{refl}
use native.Mathlib.Omega.{arith}
use Rattle.boundary.proofs.AppendLaws.{writes_none}
use Rattle.boundary.proofs.ListingLaws.{fitting, at_end, found, passed_over, room_left, written}
use Rattle.boundary.proofs.Outline.append_entry.Goals as goal

pub returns-in_default : goal.returns-in_default
returns-in_default c =
    let o = c.args.self in writes_none (at_end o.number (fitting o.borders.fits o.ids_long) c.requires c.args.kind c.args.direction refl c.step.ensures c.in_default.not-Some)

pub bounds-states-border : goal.bounds-states-border
bounds-states-border c =
    let o = c.args.self in (found o.number (fitting o.borders.fits o.ids_long) c.requires c.args.kind c.args.direction refl c.step.ensures c.in-Some.is).border_fits

pub bounds-self-other : goal.bounds-self-other
bounds-self-other c =
    let o = c.args.self in (found o.number (fitting o.borders.fits o.ids_long) c.requires c.args.kind c.args.direction refl c.step.ensures c.in-Some.is).cell_fits

pub entry-requires : goal.entry-requires
entry-requires c =
    let o = c.args.self in (found o.number (fitting o.borders.fits o.ids_long) c.requires c.args.kind c.args.direction refl c.step.ensures c.in-Some.is).border_small

pub push-requires : goal.push-requires
push-requires c =
    let o = c.args.self in
    room_left o.number (fitting o.borders.fits o.ids_long) c.requires c.args.kind c.args.direction refl c.step.ensures c.in-Some.is c.from.ensures c.lists.ensures c.if-lists.true

pub returns-then-lists : goal.returns-then-lists
returns-then-lists c =
    let o = c.args.self in
    rw (written o.number (fitting o.borders.fits o.ids_long) c.requires c.args.kind c.args.direction refl c.step.ensures c.in-Some.is c.from.ensures c.lists.ensures c.if-lists.true c.entry.ensures) at c.push.ensures

pub returns-else-lists : goal.returns-else-lists
returns-else-lists c =
    let o = c.args.self in
    writes_none (passed_over o.number (fitting o.borders.fits o.ids_long) c.requires c.args.kind c.args.direction refl c.step.ensures c.in-Some.is c.from.ensures c.lists.ensures c.if-lists.false)

pub offset_bounds-self-other : goal.offset_bounds-self-other
offset_bounds-self-other c =
    let o = c.args.self in
    omega (arith, (found o.number (fitting o.borders.fits o.ids_long) c.requires c.args.kind c.args.direction refl c.step.ensures c.in-Some.is).cell_fits, c.ranges.self)
