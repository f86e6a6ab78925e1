-- `unit_codes::turned::sought_rows` meets its contract: the first and the last row of the cells so far. Assumes nothing.
use Rattle.lists.proofs.ListLaws.{get_d_in}
use Rattle.offsets.proofs.TrialLaws.{cell_of}
use Rattle.unit_codes.proofs.SpanLaws.{widens_start, widens_up, widens_down, widens_not, widens_end}
use Rattle.unit_codes.proofs.turned.sought_rows.Goals.{then-at-from, else-at-from+then-last-at, else-at-from+else-last-at}
use Rattle.unit_codes.proofs.turned.sought_rows.Goals as goal

pub place-from-requires : goal.place-from-requires
place-from-requires c = let u = c.args.unit.unit in cell_of u u.some c.from-top.ensures

pub loop-cell-init : goal.loop-cell-init
loop-cell-init c = widens_start (rw c.from-top.ensures (get_d_in 0 _ 0 c.args.unit.unit.some)) c.place-from.ensures

pub place-at-requires : goal.place-at-requires
place-at-requires c = cell_of c.args.unit.unit c.loop-cell-test.true c.from-cell.ensures

pub loop-cell-preserved : goal.loop-cell-preserved
loop-cell-preserved c =
    let w = c.loop-cell.invariant in
    let h = c.loop-cell-test.true in
    let q = c.from-cell.ensures in
    let s = c.place-at.ensures in
    elim c.if-at-from.branch [
      | then-at-from b ↦ rw (b.top-is, b.from-is, b.last-is) (widens_up w h q s b.if-at-from.true)
      | else-at-from+then-last-at b ↦ rw (b.top-is, b.from-is, b.last-is) (widens_down w h q s b.if-at-from.false b.if-last-at.true)
      | else-at-from+else-last-at b ↦ rw (b.top-is, b.from-is, b.last-is) (widens_not w h q s b.if-at-from.false b.if-last-at.false)
    ]

pub returns : goal.returns
returns c = widens_end c.loop-cell.invariant c.loop-cell-test.false
