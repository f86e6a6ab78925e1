-- `case_run::do_call` meets its contract: the puzzle's answer, and its line. Assumes nothing.
use Rattle.std.proofs.Common.{ap, ◌∙◌, length, arith}
use lib.Seq.{sets}
use Rattle.case_run.proofs.LineLaws.{turned, told_undo, told_decide}
use Rattle.case_run.proofs.AskLaws.{told_ask}
use Rattle.case_run.proofs.do_call.Goals.{in-Undo, in-Decide}
use Rattle.case_run.proofs.do_call.Goals as goal

pub returns-in-Ask : goal.returns-in-Ask
returns-in-Ask c =
    let t = told_ask c.args.puzzle.now c.args.call c.in-Ask.is in
    let told = c.do_ask.ensures.told in
    record { turned = record { turned = t.0; count = told.0 ∙ ap length t.1; fits = told.1 }; out_after = c.do_ask.ensures.out_after ∙ ap (sets c.args.out.now 0) t.1 }

pub returns : goal.returns
returns c =
    let a = c.args in
    elim c.match-call.branch [
      | in-Undo w ↦ (let t = told_undo a.puzzle.now w.undo.new.self a.call w.done_line-line.result w.in-Undo.is w.undo.ensures w.done_line-line.ensures in
          let x = turned a.puzzle.now _ a.call _ _ a.out.now t.0 t.1 (omega arith) (rw w.line-is at c.put_line.ensures.value, (rw w.line-is at c.put_line.ensures.buffer_after, c.put_line.ensures.fits)) in
          record { turned = rw w.puzzle-is x.0; out_after = x.1 })
      | in-Decide w ↦ (let t = told_decide a.puzzle.now w.decide.new.self a.call _ _ w.done_line-line-in-Decide.result w.in-Decide.is w.decide.ensures w.done_line-line-in-Decide.ensures in
          let x = turned a.puzzle.now _ a.call _ _ a.out.now t.0 t.1 (omega arith) (rw w.line-is at c.put_line.ensures.value, (rw w.line-is at c.put_line.ensures.buffer_after, c.put_line.ensures.fits)) in
          record { turned = rw w.puzzle-is x.0; out_after = x.1 })
    ]
