-- `case_file::numbers_at` meets its contract by the laws of a counted list at a byte. Assumes nothing.
use Rattle.std.proofs.Common.{arith, ◌∙◌}
use Rattle.case_file.proofs.ListLaws.{numbers_none, numbers_cut, numbers_fits}
use Rattle.case_file.proofs.numbers_at.Goals as goal

pub returns-in_err-word : goal.returns-in_err-word
returns-in_err-word c = let a = c.args in rw c.from_residual.ensures (simp (numbers_none a.file.now a.at c.in_err-word.ensures))

pub returns-then-file-end : goal.returns-then-file-end
returns-then-file-end c =
    let a = c.args in let w = c.in_ok-word.ensures in simp (numbers_cut a.file.now a.at w.0 (omega (arith, w.1, c.from-count.ensures)))

pub returns : goal.returns
returns c =
    let a = c.args in
    numbers_fits a.file.now a.at c.from-count.result (c.from-count.ensures ∙ c.in_ok-word.ensures.1) c.if-file-end.false
