-- `lines::pen::Pen::words` meets its contract: the parts of each line stand one behind the other (`writes_both`). Assumes nothing.
use Rattle.std.proofs.Common.{◌+◌, ◌*◌, ◌≤◌, length, arith}
use Rattle.lines.proofs.DecimalLaws.{digits_most}
use Rattle.lines.proofs.LineLaws.{writes_both, writes_length, spaced_short}
use Rattle.lines.proofs.pen.Pen.words.Goals.{After-digits}
use Rattle.lines.proofs.pen.Pen.words.Goals as goal

pub digits-requires : goal.digits-requires
digits-requires c = omega (arith, c.requires, c.put-in-Room.ensures.len_after, writes_length c.put-in-Room.ensures, digits_most 20 c.in-Room.number)

-- behind a room's number the colon, the entries and the feed have their places
left : (c : After-digits) → c.digits.new.self.len + 2 + 6 * length c.args.list.now ≤ length c.digits.new.self.buffer.now
left c =
    omega (
      arith,
      c.requires,
      c.put-in-Room.ensures.len_after,
      writes_length c.put-in-Room.ensures,
      c.digits.ensures.len_after,
      writes_length c.digits.ensures,
      digits_most 20 c.in-Room.number,
    )

pub put-requires-in-Room-2 : goal.put-requires-in-Room-2
put-requires-in-Room-2 c = omega (arith, left (goal.at.put-requires-in-Room-2 c).After-digits)

pub entries-requires-in-Room : goal.entries-requires-in-Room
entries-requires-in-Room c =
    omega (arith, left (goal.at.entries-requires-in-Room c).After-digits, c.put-in-Room-2.ensures.len_after, writes_length c.put-in-Room-2.ensures)

pub returns-in-Shape : goal.returns-in-Shape
returns-in-Shape c =
    record {
      value = rw c.in-Shape.is (writes_both c.put-in-Shape.ensures c.entries.ensures);
      room_left = omega (arith, c.put-in-Shape.ensures.len_after, c.entries.ensures.len_after, spaced_short c.args.list.now c.type_inv.list);
    }

pub returns-in-Room : goal.returns-in-Room
returns-in-Room c =
    record {
      value = rw c.in-Room.is (writes_both (writes_both (writes_both c.put-in-Room.ensures c.digits.ensures) c.put-in-Room-2.ensures) c.entries-in-Room.ensures);
      room_left =
          omega (
            arith,
            c.put-in-Room.ensures.len_after,
            c.digits.ensures.len_after,
            c.put-in-Room-2.ensures.len_after,
            c.entries-in-Room.ensures.len_after,
            digits_most 20 c.in-Room.number,
            spaced_short c.args.list.now c.type_inv.list,
          );
    }

pub returns-in-Refused-clause-value : goal.returns-in-Refused-clause-value
returns-in-Refused-clause-value c = rw c.in-Refused.is (writes_both c.put-in-Refused.ensures c.number.ensures.value)
