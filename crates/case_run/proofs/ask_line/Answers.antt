-- `case_run::ask_line` meets its contract: a line for each answer, and a fault's list has the room that hand-over asks. Assumes nothing.
use Rattle.std.proofs.Common.{refl, take, arith}
use Rattle.answers.specs.Refusals.{number_of}
use Rattle.puzzle.specs.Answer.{Clear, Fault, Refused}
use Rattle.case_run.proofs.LineLaws.{listed}
use Rattle.case_run.proofs.AskLaws.{fault_part, clear_line, fault_line, refused_line}
use Rattle.case_run.proofs.ask_line.Goals as goal

pub slice_bounds-hand_over-end : goal.slice_bounds-hand_over-end
slice_bounds-hand_over-end c =
    let f = c.in-Ok-Some.field-0-0 in
    let q = rw c.in-Ok-Some.field-0-is at c.in-Ok-Some.ensures.value in
    (fault_part c.args.puzzle.now c.args.found.now c.requires.enough f.check f.len q c.ask.new.buffer c.ask.auto.buffer c.ask.ensures.buffer_after).within

pub slice_bounds-hand_over-end-in-Ok-Some : goal.slice_bounds-hand_over-end-in-Ok-Some
slice_bounds-hand_over-end-in-Ok-Some c =
    let f = c.in-Ok-Some.field-0-0 in
    let q = rw c.in-Ok-Some.field-0-is at c.in-Ok-Some.ensures.value in
    (fault_part c.args.puzzle.now c.args.found.now c.requires.enough f.check f.len q c.ask.new.buffer c.ask.auto.buffer c.ask.ensures.buffer_after).long

pub returns-in-Ok-Some : goal.returns-in-Ok-Some
returns-in-Ok-Some c =
    let f = c.in-Ok-Some.field-0-0 in
    let p = c.args.puzzle.now in
    let q = rw c.in-Ok-Some.field-0-is at c.in-Ok-Some.ensures.value in
    let part = fault_part p c.args.found.now c.requires.enough f.check f.len q c.ask.new.buffer c.ask.auto.buffer c.ask.ensures.buffer_after in
    let handed = listed (take f.len c.ask.new.buffer) c.args.list.now (omega (arith, part.long, part.within, c.ask.auto.buffer, c.requires.room)) c.hand_over.result _ c.hand_over.ensures.value c.hand_over.ensures.buffer_after in
    let e = fault_line p c.args.found.now c.requires.enough (Fault f.check f.len) c.ask.new.buffer q c.ask.ensures.buffer_after f.check f.len refl in
    record {
      within = rw c.unwrap_or-n.ensures handed.within;
      few = rw c.unwrap_or-n.ensures (omega (arith, handed.counted, part.few));
      bytes = rw (c.unwrap_or-n.ensures, c.check_line.ensures, handed.is) e;
    }

pub returns-in-Ok-None : goal.returns-in-Ok-None
returns-in-Ok-None c =
    let q = rw c.in-Ok-None.field-0-is at c.in-Ok-None.ensures.value in
    record {
      within = omega arith;
      few = omega arith;
      bytes = clear_line c.args.puzzle.now c.args.found.now c.requires.enough Clear c.ask.new.buffer q c.ask.ensures.buffer_after refl;
    }

pub returns-in-Err : goal.returns-in-Err
returns-in-Err c =
    let k = number_of c.in-Err.refusal in
    let e = refused_line c.args.puzzle.now c.args.found.now c.requires.enough (Refused k) c.ask.new.buffer c.in-Err.ensures.value c.ask.ensures.buffer_after k refl in
    record { within = omega arith; few = omega arith; bytes = rw c.from.ensures e }
