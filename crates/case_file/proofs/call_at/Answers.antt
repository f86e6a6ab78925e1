-- `case_file::call_at` meets its contract: one law a kind of call says what the definition reads there. Assumes nothing.
use Rattle.std.proofs.Common.{sym, ◌∙◌, arith}
use Rattle.case_file.proofs.ReadLaws.{call_out, call_undo, call_ask, call_other, call_cut, call_decide}
use Rattle.case_file.proofs.call_at.Goals as goal

pub returns-in_err-kind : goal.returns-in_err-kind
returns-in_err-kind c =
    let a = c.args in rw c.from_residual.ensures (simp (call_out a.file.now a.at c.in_err-kind.ensures.lookup.3))

pub returns-in-0 : goal.returns-in-0
returns-in-0 c =
    let a = c.args in let h = c.in_ok-kind.ensures.lookup.3 in
    simp (call_undo a.file.now a.at h.0 (sym (h.1 0) ∙ c.in-0.is))

pub returns-in-3 : goal.returns-in-3
returns-in-3 c =
    let a = c.args in let h = c.in_ok-kind.ensures.lookup.3 in
    simp (call_ask a.file.now a.at h.0 (sym (h.1 0) ∙ c.in-3.is))

pub returns-then-file-at-lt3 : goal.returns-then-file-at-lt3
returns-then-file-at-lt3 c =
    let a = c.args in let h = c.in_ok-kind.ensures.lookup.3 in
    simp (call_cut a.file.now a.at (omega arith) h.0 (omega (arith, h.1 0)) (omega (arith, h.1 0)) (omega (arith, h.1 0)))

pub returns-else-file-at-lt3 : goal.returns-else-file-at-lt3
returns-else-file-at-lt3 c =
    let a = c.args in let h = c.in_ok-kind.ensures.lookup.3 in
    simp (c.from-border.ensures, c.word_there.ensures, h.1 0, call_decide a.file.now a.at (omega arith) (omega (arith, h.1 0)) (omega (arith, h.1 0)) (omega (arith, h.1 0)))

pub returns-in_default : goal.returns-in_default
returns-in_default c =
    let a = c.args in let h = c.in_ok-kind.ensures.lookup.3 in
    simp (call_other a.file.now a.at h.0 (omega (arith, h.1 0)))
