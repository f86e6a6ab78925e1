-- `lines::pen::Pen::number` meets its contract: a number of 8 bits has at most three digits. Assumes nothing.
use Rattle.std.proofs.Common.{arith}
use Rattle.lines.proofs.DecimalLaws.{digits_few}
use Rattle.lines.proofs.pen.Pen.number.Goals as goal

pub digits-requires : goal.digits-requires
digits-requires c = omega (arith, c.requires, c.from.ensures, digits_few 2 20 c.from.result (omega (arith, c.from.ensures, c.ranges.number)))

pub returns : goal.returns
returns c =
    record {
      value = rw (← c.from.ensures) c.digits.ensures;
      room_left = omega (arith, c.digits.ensures.len_after, digits_few 2 20 c.from.result (omega (arith, c.from.ensures, c.ranges.number)));
    }
