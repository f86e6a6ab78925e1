-- `unit_codes::write_borders` meets its contract: inner borders, then Walls and edges. Assumes nothing.
use mathlib.Core.Path.{◌≡◌, refl}
use Rattle.std.proofs.Common.{rules}
use lib.Seq.{sets}
use Rattle.unit_codes.specs.Codes.{border_codes}
use Rattle.unit_codes.proofs.WriteLaws.{inner_asks, outer_asks, both_noted}
use Rattle.unit_codes.proofs.write_borders.Goals as goal

pub note_cells-requires : goal.note_cells-requires
note_cells-requires c = inner_asks _ _ _ _ _ _ _ c.requires

pub note_cells-requires-2 : goal.note_cells-requires-2
note_cells-requires-2 c = outer_asks _ _ _ _ _ _ _ c.requires c.note_cells.ensures refl refl

pub returns : goal.returns
returns c =
    let a = both_noted _ _ _ _ _ _ _ c.requires c.note_cells.ensures c.note_cells-2.ensures in
    let t = c.args.turned in
    let u = t.unit in
    let xs = border_codes t.image u.chart.borders.grid u.chart.borders.states.now u.chart.table.now t.rows.top u.cells.now in
    let stored : c.note_cells-2.new.list.buffer.now ≡ sets c.args.codes.now 0 xs = a.stored in
    record { place = a.place; stored = search rules }
