-- `case_file::calls_at` meets its contract: the invariant `Walking` says what the calls that are left leave behind them. Assumes nothing.
use Rattle.std.proofs.Common.{◌∙◌}
use Rattle.case_file.proofs.ListLaws.{walking_behind, walking_stop, walking_end, behind_unsound, calls_none, calls_cut, calls_fits}
use Rattle.case_file.proofs.calls_at.Goals as goal

pub returns-in_err-word : goal.returns-in_err-word
returns-in_err-word c = let a = c.args in rw c.from_residual.ensures (simp (calls_none a.file.now a.at c.in_err-word.ensures))

pub returns-in_err-next : goal.returns-in_err-next
returns-in_err-next c =
    let a = c.args in
    let u = behind_unsound a.file.now c.loop.next c.in_err-next.ensures in
    let e = calls_cut a.file.now a.at c.from-count.result (c.from-count.ensures ∙ c.in_ok-word.ensures.1) c.in_ok-word.ensures.0 (walking_stop c.loop.invariant c.loop-test.true u) in
    rw c.from_residual-in_err-next.ensures (simp e)

pub loop-preserved : goal.loop-preserved
loop-preserved c = walking_behind c.loop.invariant c.loop-test.true c.in_ok-next.next c.in_ok-next.ensures

pub returns : goal.returns
returns c =
    let a = c.args in
    calls_fits a.file.now a.at c.from-count.result c.loop.next (c.from-count.ensures ∙ c.in_ok-word.ensures.1) c.in_ok-word.ensures.0 c.loop.invariant.inside
    (walking_end c.loop.invariant c.loop-test.false)
