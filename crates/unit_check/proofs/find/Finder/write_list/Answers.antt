-- `unit_check::find::Finder::write_list` meets its contract: three pieces, one behind the other. Assumes nothing.
use mathlib.Core.Path.{refl}
use Rattle.std.proofs.Common.{rules}
use Rattle.unit_check.proofs.HeldLaws.{landings_fit, unit_fits, near_fits, unit_written}
use Rattle.unit_check.proofs.find.Finder.write_list.Goals as goal

pub write_images-requires : goal.write_images-requires
write_images-requires c =
    let e = c.trial.ensures in
    rw (e.chart_is, e.cells_are) (landings_fit c.args.self.now.stage c.requires.unit_exists c.requires.marked c.args.self.now.marks_long c.requires.enough refl)

pub append-requires : goal.append-requires
append-requires c =
    let e = c.trial.ensures in
    let o = c.of.ensures in
    rw (o.borders_are, o.ids_are, o.potential_is, o.number_is) (unit_fits c.args.self.now.stage c.requires.unit_exists c.requires.marked c.args.self.now.marks_long c.requires.enough refl refl (rw (e.chart_is, e.cells_are) at c.write_images.ensures))

pub append_near-requires : goal.append_near-requires
append_near-requires c =
    let e = c.trial.ensures in
    let o = c.of.ensures in
    near_fits c.args.self.now.stage c.requires.unit_exists c.requires.marked c.args.self.now.marks_long c.requires.enough refl refl (rw (e.chart_is, e.cells_are) at c.write_images.ensures) (rw (o.borders_are, o.ids_are, o.potential_is, o.number_is) at c.append.ensures)

pub returns : goal.returns
returns c =
    let e = c.trial.ensures in
    let o = c.of.ensures in
    let w = unit_written c.args.self.now.stage c.requires.unit_exists c.requires.marked c.args.self.now.marks_long c.requires.enough refl refl (rw (e.chart_is, e.cells_are) at c.write_images.ensures) (rw (o.borders_are, o.ids_are, o.potential_is, o.number_is) at c.append.ensures) c.append_near.ensures in
    record { place = w.appended.place; stored = search rules }
