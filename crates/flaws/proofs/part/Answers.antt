-- `flaws::part` meets its contract: the length that is read is the count at byte 1. Assumes nothing.
use Rattle.std.proofs.Common.{arith, rules}
use Rattle.flaws.proofs.FlawLaws.{count_told}
use Rattle.flaws.proofs.part.Goals as goal

pub returns-then-ne : goal.returns-then-ne
returns-then-ne c =
    let e = rw (count_told c.args.file.now 1 _ _ c.word.ensures c.map.ensures.cases (omega (arith, c.if-file-lt5.false))) at c.ne.ensures in
    search rules

pub returns : goal.returns
returns c =
    let e = rw (count_told c.args.file.now 1 _ _ c.word.ensures c.map.ensures.cases (omega (arith, c.if-file-lt5.false))) at c.ne.ensures in
    search rules
