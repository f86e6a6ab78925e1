-- `case_file::behind` meets its contract: the laws of a call at a byte, by its kind, say where it ends. Assumes nothing.
use Rattle.std.proofs.Common.{arith}
use Rattle.case_file.proofs.ReadLaws.{call_out, call_short, call_other, call_cut, call_decide}
use Rattle.case_file.proofs.behind.Goals as goal

pub returns-in_err-kind : goal.returns-in_err-kind
returns-in_err-kind c =
    let a = c.args in rw c.from_residual.ensures (simp (call_out a.file.now a.at c.in_err-kind.ensures.lookup.3))

pub returns-then-kind-lt2 : goal.returns-then-kind-lt2
returns-then-kind-lt2 c =
    let a = c.args in let h = c.in_ok-kind.ensures.lookup.3 in let d = c.if-kind-lt2.true in
    call_short a.file.now a.at h.0 (omega (arith, h.1 0, d)) (λ e. omega (arith, h.1 0, d)) (λ e. omega (arith, h.1 0, d))

pub returns-then-kind-gt3 : goal.returns-then-kind-gt3
returns-then-kind-gt3 c =
    let a = c.args in let h = c.in_ok-kind.ensures.lookup.3 in
    simp (call_other a.file.now a.at h.0 (omega (arith, h.1 0, c.if-kind-gt3.true)))

pub returns-then-file-at-lt3 : goal.returns-then-file-at-lt3
returns-then-file-at-lt3 c =
    let a = c.args in let h = c.in_ok-kind.ensures.lookup.3 in let d = c.if-kind-lt2.false in let s = c.if-kind-gt3.false in
    simp (call_cut a.file.now a.at (omega arith) h.0 (omega (arith, h.1 0, d)) (omega (arith, h.1 0, s)) (omega (arith, h.1 0, d)))

pub returns : goal.returns
returns c =
    let a = c.args in let h = c.in_ok-kind.ensures.lookup.3 in let d = c.if-kind-lt2.false in let s = c.if-kind-gt3.false in
    simp (call_decide a.file.now a.at (omega arith) (omega (arith, h.1 0, d)) (omega (arith, h.1 0, d)) (omega (arith, h.1 0, s)))
