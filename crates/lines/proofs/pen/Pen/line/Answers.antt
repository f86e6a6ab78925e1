-- `lines::pen::Pen::line` meets its contract: the feed stands behind the words. Assumes nothing.
use Rattle.std.proofs.Common.{arith}
use Rattle.lines.proofs.LineLaws.{writes_both, writes_length, words_feed}
use Rattle.lines.proofs.pen.Pen.line.Goals as goal

pub put-requires : goal.put-requires
put-requires c = omega (arith, c.requires, c.words.ensures.room_left, writes_length c.words.ensures.value)

pub returns-clause-value : goal.returns-clause-value
returns-clause-value c = rw (words_feed c.args.line c.args.list.now) (writes_both c.words.ensures.value c.put.ensures)

pub returns-clause-room_left : goal.returns-clause-room_left
returns-clause-room_left c = omega (arith, c.words.ensures.room_left, c.put.ensures.len_after)
