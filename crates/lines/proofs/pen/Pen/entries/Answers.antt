-- `lines::pen::Pen::entries` meets its contract: the invariant `Spacing` says what is written, one law a turn and one at the end. Assumes nothing.
use Rattle.std.proofs.Common.{arith}
use Rattle.lines.proofs.LineLaws.{spaced_none, writes_length, spacing_next, spacing_end, entry_digits}
use Rattle.lines.proofs.pen.Pen.entries.Goals as goal

pub loop-entry-init : goal.loop-entry-init
loop-entry-init c = record { most = omega arith; written_so_far = spaced_none }

pub put-requires : goal.put-requires
put-requires c = omega (arith, c.requires, c.loop-entry.invariant.most, writes_length c.loop-entry.invariant.written_so_far)

pub digits-requires : goal.digits-requires
digits-requires c =
    omega (
      arith,
      c.requires,
      c.loop-entry.invariant.most,
      writes_length c.loop-entry.invariant.written_so_far,
      c.put.ensures.len_after,
      writes_length c.put.ensures,
      entry_digits c.from.result (omega (arith, c.type_inv.list c.loop-entry.entry-index)),
    )

pub loop-entry-preserved : goal.loop-entry-preserved
loop-entry-preserved c =
    spacing_next c.loop-entry.invariant c.loop-entry-test.true c.from.ensures (omega (arith, c.type_inv.list c.loop-entry.entry-index)) c.put.ensures c.digits.ensures

pub returns : goal.returns
returns c = spacing_end c.loop-entry.invariant (omega arith)
