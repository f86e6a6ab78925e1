-- `offsets::table::fill` meets its contract: the cells before this one have theirs. Assumes nothing.
use Rattle.std.proofs.Common.{◌≡◌, ◌+◌, ◌*◌, refl, arith}
use Rattle.offsets.proofs.TableLaws.{filling_turn, filling_end}
use Rattle.offsets.proofs.table.fill.Goals as goal

pub loop-col-preserved : goal.loop-col-preserved
loop-col-preserved c =
    let n = c.loop-row.row * c.args.grid.width in
    rw (let e : n + (c.loop-col.col + 1) ≡ n + c.loop-col.col + 1 = omega arith in e) (filling_turn c.requires c.loop-col.invariant refl c.loop-row-test.true c.loop-col-test.true refl)

pub returns : goal.returns
returns c = filling_end c.requires (let e : c.loop-row.row ≡ c.args.grid.height = omega arith in rw e at c.loop-row.invariant)
