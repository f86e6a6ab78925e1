-- `case_file::number` meets its contract: below the count that `reach` answers, the number stands in the file (`number_in`, `number_at`). Assumes nothing.
use Rattle.std.proofs.Common.{sym, ◌∙◌, arith}
use Rattle.case_file.proofs.NumberLaws.{number_in, number_at}
use Rattle.case_file.proofs.number.Goals as goal

pub overflow_mul-k : goal.overflow_mul-k
overflow_mul-k c = let l = c.args.list in omega (arith, number_in c.args.file.now l.at l.count _ c.if-reach-k.false c.reach.ensures)

pub overflow_add-list : goal.overflow_add-list
overflow_add-list c = let l = c.args.list in omega (arith, number_in c.args.file.now l.at l.count _ c.if-reach-k.false c.reach.ensures)

pub word_there-requires : goal.word_there-requires
word_there-requires c = let l = c.args.list in number_in c.args.file.now l.at l.count _ c.if-reach-k.false c.reach.ensures

pub returns : goal.returns
returns c =
    let l = c.args.list in
    c.from.ensures ∙ c.word_there.ensures ∙ sym (number_at c.args.file.now l.at l.count _ c.if-reach-k.false c.reach.ensures)
