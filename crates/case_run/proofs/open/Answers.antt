-- `case_run::open` meets its contract: a sound file's lists are read whole. Assumes nothing.
use Rattle.std.proofs.Common.{◌∙◌, ◌≡◌, take, rules}
use Rattle.std.specs.Prelude.{Ok, Err}
use Rattle.case_file.specs.Sound.{decode_of}
use Rattle.puzzle.specs.declared.Made.{Made}
use Rattle.puzzle.specs.declared.kind.Kind.TheVariants.{Translates}
use Rattle.puzzle.specs.Puzzle.{made, make_of}
use Rattle.case_run.specs.CaseRun.{opened_as, opened_of, opened_in}
use Rattle.case_run.proofs.OpenLaws.{places, walls_read, clues_read, made_file, opened_refused}
use Rattle.case_run.proofs.open.Goals.{In_ok-clue_count}
use Rattle.case_run.proofs.open.Goals as goal

pub returns-in_err-wall_count : goal.returns-in_err-wall_count
unfolding places
returns-in_err-wall_count c =
    let w = c.in_err-wall_count in
    absurd (walls_read c.args.file.now c.in_ok-layout.layout c.in_ok-layout.ensures.value (Err w.field-0.0) c.numbers.new.buffer w.ensures.value w.ensures.buffer_after)

pub returns-in_err-clue_count : goal.returns-in_err-clue_count
unfolding places
returns-in_err-clue_count c =
    let w = c.in_err-clue_count in
    absurd (clues_read c.args.file.now c.in_ok-layout.layout c.in_ok-layout.ensures.value (Err w.field-0.0) c.numbers-2.new.buffer w.ensures.value w.ensures.buffer_after)

file_made : (c : In_ok-clue_count) (m : Made)
    → m ≡ make_of Translates c.in_ok-layout.layout.height c.in_ok-layout.layout.width (take c.in_ok-wall_count.wall_count c.numbers.new.buffer)
    (take c.in_ok-clue_count.clue_count c.numbers-2.new.buffer)
    → opened_as m c.in_ok-layout.layout.calls.at c.in_ok-layout.layout.calls.count ≡ opened_of (decode_of c.args.file.now)
unfolding places
file_made c m e =
    let bs = c.args.file.now in
    let l = c.in_ok-layout in
    let walls = walls_read bs l.layout l.ensures.value (Ok c.in_ok-wall_count.wall_count) c.numbers.new.buffer c.in_ok-wall_count.ensures.value c.in_ok-wall_count.ensures.buffer_after in
    let clues = clues_read bs l.layout l.ensures.value (Ok c.in_ok-clue_count.clue_count) c.numbers-2.new.buffer c.in_ok-clue_count.ensures.value c.in_ok-clue_count.ensures.buffer_after in
    made_file bs l.layout l.ensures.value m _ _ walls clues e

pub returns-in_err-puzzle : goal.returns-in_err-puzzle
returns-in_err-puzzle c =
    let e = c.in_err-puzzle.field-0.0 in
    let said : opened_in c.from_residual-in_err-puzzle.result ≡ opened_in (Err e) = search rules in
    said ∙ opened_refused e _ _ (file_made (goal.at.returns-in_err-puzzle c).In_ok-clue_count (made (Err e)) c.in_err-puzzle.ensures)

pub returns : goal.returns
returns c = file_made (goal.at.returns c).In_ok-clue_count (made (Ok c.in_ok-puzzle.puzzle)) c.in_ok-puzzle.ensures
