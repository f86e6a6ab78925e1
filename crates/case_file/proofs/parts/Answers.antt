-- `case_file::parts` meets its contract: each list that was found is the one that the definition reads (`Found`), and each way out has its law. Assumes nothing.
use Rattle.std.proofs.Common.{◌≡◌, ◌≤◌, ◌∙◌, length, drop, arith}
use Rattle.case_file.specs.Sound.{decode_of, rest_of}
use Rattle.case_file.proofs.FileLaws.{front_short, front_version, front_length, front_good, numbers_found, numbers_end, calls_found, missing, no_walls, no_clues_lem, no_calls, more_left, all_read}
use Rattle.case_file.proofs.parts.Goals.{After-numbers_at, In_ok-walls}
use Rattle.case_file.proofs.parts.Goals as goal

pub returns-in_err-word : goal.returns-in_err-word
returns-in_err-word c = rw c.from_residual.ensures (front_short c.args.file.now c.in_err-word.ensures)

pub returns-then-file-ne1 : goal.returns-then-file-ne1
returns-then-file-ne1 c = front_version c.args.file.now c.in_ok-word.ensures.0 c.if-file-ne1.true

pub returns-then-long-file : goal.returns-then-long-file
returns-then-long-file c =
    front_length c.args.file.now c.in_ok-word.ensures.0 c.if-file-ne1.false (c.from-long.ensures ∙ c.in_ok-word.ensures.1) c.then-long-file.either

good : (c : After-numbers_at) → decode_of c.args.file.now ≡ rest_of (drop 3 c.args.file.now)
good c =
    front_good c.args.file.now c.in_ok-word.ensures.0 c.if-file-ne1.false (c.from-long.ensures ∙ c.in_ok-word.ensures.1) c.if-long-file.false c.if-long-gt60000.false

pub returns-in_err-walls : goal.returns-in_err-walls
returns-in_err-walls c =
    let bs = c.args.file.now in
    rw c.from_residual-in_err-walls.ensures (no_walls bs (good (goal.at.returns-in_err-walls c).After-numbers_at) (missing bs 5 _ c.in_err-walls.ensures))

pub returns-in_err-clues : goal.returns-in_err-clues
returns-in_err-clues c =
    let bs = c.args.file.now in
    rw c.from_residual-in_err-clues.ensures
    (no_clues_lem bs (good (goal.at.returns-in_err-clues c).After-numbers_at) (numbers_found bs _ c.in_ok-walls.ensures) (missing bs _ _ c.in_err-clues.ensures))

pub returns-in_err-calls : goal.returns-in_err-calls
returns-in_err-calls c =
    let bs = c.args.file.now in
    rw c.from_residual-in_err-calls.ensures
    (no_calls bs (good (goal.at.returns-in_err-calls c).After-numbers_at) (numbers_found bs _ c.in_ok-walls.ensures) (numbers_found bs _ c.in_ok-clues.ensures)
    (missing bs _ _ c.in_err-calls.ensures))

pub returns-then-end-file : goal.returns-then-end-file
returns-then-end-file c =
    let bs = c.args.file.now in
    more_left bs (good (goal.at.returns-then-end-file c).After-numbers_at) (numbers_found bs _ c.in_ok-walls.ensures) (numbers_found bs _ c.in_ok-clues.ensures)
    (calls_found bs _ c.in_ok-calls.ensures) c.if-end-file.true

wide : (c : In_ok-walls) → 7 ≤ length c.args.file.now
wide c = let walls = numbers_found c.args.file.now 5 c.in_ok-walls.ensures in omega (arith, walls.inside, numbers_end c.args.file.now 5 walls)

pub bounds-file-3 : goal.bounds-file-3
bounds-file-3 c = omega (arith, wide (goal.at.bounds-file-3 c).In_ok-walls)

pub bounds-file-4 : goal.bounds-file-4
bounds-file-4 c = omega (arith, wide (goal.at.bounds-file-4 c).In_ok-walls)

pub returns : goal.returns
returns c =
    let bs = c.args.file.now in
    rw (c.from.ensures, c.from-2.ensures)
    (all_read bs (good (goal.at.returns c).After-numbers_at) (numbers_found bs _ c.in_ok-walls.ensures) (numbers_found bs _ c.in_ok-clues.ensures)
    (calls_found bs _ c.in_ok-calls.ensures) c.if-end-file.false)
