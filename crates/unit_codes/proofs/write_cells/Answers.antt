-- `unit_codes::write_cells` meets its contract: at each turn the codes of the cells that are left are still to write. Assumes nothing.
use mathlib.Core.Path.{◌≡◌}
use native.Mathlib.Omega.{arith}
use lib.ListN.{length}
use Rattle.boundary.proofs.AppendLaws.{rest_all, turn_on, turns_end}
use Rattle.offsets.proofs.TrialLaws.{cell_of}
use Rattle.unit_codes.proofs.CodeLaws.{cell_coded}
use Rattle.unit_codes.proofs.SpanLaws.{has_at, has_in, spaced}
use Rattle.unit_codes.proofs.WriteLaws.{cell_put, cells_in_turn}
use Rattle.unit_codes.proofs.write_cells.Goals as goal

pub loop-i-init : goal.loop-i-init
loop-i-init c = rest_all _ _ _

pub place-at-requires : goal.place-at-requires
place-at-requires c = cell_of c.args.turned.unit.unit c.loop-i-test.true c.from.ensures

pub cell_code-requires : goal.cell_code-requires
cell_code-requires c =
    let t = c.args.turned in
    spaced t.unit.unit t.spans (has_in _ _ (has_at _ c.loop-i.i c.loop-i-test.true c.from.ensures)) c.place-at.ensures

pub loop-i-preserved : goal.loop-i-preserved
loop-i-preserved c =
    let t = c.args.turned in
    turn_on _ _ 0 c.loop-i.i c.loop-i.invariant c.loop-i-test.true
    (cell_put t.image t.unit.chart.borders.grid t.rows.top c.from.ensures (cell_coded t.spans.top_at c.place-at.ensures c.cell_code.ensures))

pub returns : goal.returns
returns c =
    let t = c.args.turned in
    let e : c.loop-i.i ≡ length t.unit.cells.now = omega arith in
    rw (cells_in_turn t.image t.unit.chart.borders.grid t.rows.top t.unit.cells.now, e) at (turns_end _ _ 0 c.loop-i.i c.loop-i.invariant c.loop-i-test.false)
