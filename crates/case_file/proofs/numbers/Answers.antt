-- `case_file::numbers` meets its contract: the invariant `Copying` says what is left, one law a turn and one at the end. Assumes nothing.
use Rattle.std.proofs.Common.{refl, sym, ◌∙◌, arith}
use lib.Seq.{length-take-le}
use Rattle.case_file.proofs.NumberLaws.{copying_next, copied, number_in, number_at}
use Rattle.case_file.proofs.numbers.Goals as goal

pub overflow_add-list : goal.overflow_add-list
overflow_add-list c = let l = c.args.list in let t = length-take-le _ c.args.buffer.now c.if-buffer-n.false in
    omega (arith, number_in c.args.file.now l.at l.count c.loop-k.k (omega (arith, c.loop-k-test.true, t)) c.reach-n.ensures)

pub word_there-requires : goal.word_there-requires
word_there-requires c = let l = c.args.list in let t = length-take-le _ c.args.buffer.now c.if-buffer-n.false in
    number_in c.args.file.now l.at l.count c.loop-k.k (omega (arith, c.loop-k-test.true, t)) c.reach-n.ensures

pub loop-k-preserved : goal.loop-k-preserved
loop-k-preserved c =
    let l = c.args.list in let t = length-take-le _ c.args.buffer.now c.if-buffer-n.false in
    copying_next c.loop-k.invariant c.word_there.result (omega (arith, c.loop-k-test.true, t)) c.reach-n.ensures
    (c.word_there.ensures ∙ sym (number_at c.args.file.now l.at l.count _ (omega (arith, c.loop-k-test.true, t)) c.reach-n.ensures))

pub returns-clause-buffer_after : goal.returns-clause-buffer_after
returns-clause-buffer_after c = copied c.loop-k.invariant _ c.reach-n.ensures c.if-buffer-n.false refl (omega (arith, c.loop-k-test.false, length-take-le _ c.args.buffer.now c.if-buffer-n.false))
