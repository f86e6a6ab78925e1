-- `enumerate::list_right_boards` meets its contract: a law of `Starting` for each answer. Assumes nothing.
use mathlib.Core.Path.{◌≡◌, refl, ◌∙◌}
use borrow.Author.Rules.{rules}
use native.Mathlib.Omega.{arith}
use Rattle.answers.specs.Refusals.{number_of}
use Rattle.answers.proofs.RefusalLaws.{some_number}
use Rattle.enumerate.proofs.Starting.{no_places, all_listed, cut_fits, cut_long, cut_started}
use Rattle.enumerate.specs.Boards.{answer_in}
use Rattle.enumerate.specs.Boards.{Refused}
use Rattle.enumerate.proofs.list_right_boards.Goals as goal

pub slice_bounds-states-end : goal.slice_bounds-states-end
slice_bounds-states-end c = let b = c.clued_board-board in cut_fits c.args.p.now c.in_ok-check.ensures b.result.borders b.ensures.borders c.border_count.ensures

pub slice_bounds-states-end-2 : goal.slice_bounds-states-end-2
slice_bounds-states-end-2 c = let b = c.clued_board-board in cut_long c.args.p.now c.in_ok-check.ensures b.result.borders b.ensures.borders c.border_count.ensures

pub returns-in_err-check_places : goal.returns-in_err-check_places
returns-in_err-check_places c =
    let b = c.clued_board-board in
    let said : answer_in c.from_residual-in_err-check_places.result ≡ Refused (number_of c.in_err-check_places.field-0.0) = search rules in
    let w = no_places c.args.p.now c.in_ok-check.ensures b.result.borders b.ensures.borders c.border_count.ensures c.args.cap c.args.buffer.now c.in_err-check_places.ensures (λ q. omega (arith, some_number c.in_err-check_places.field-0.0, q)) in
    record { value = said ∙ w.0; buffer_after = w.1 }

pub search-requires : goal.search-requires
search-requires c =
    let b = c.clued_board-board in cut_started c.args.p.now c.in_ok-check.ensures b.result.borders b.ensures.borders c.border_count.ensures c.args.cap c.args.buffer.now c.in_ok-check_places.ensures refl

pub returns : goal.returns
returns c =
    let b = c.clued_board-board in
    let w = all_listed c.args.p.now c.in_ok-check.ensures b.result.borders b.ensures.borders c.border_count.ensures c.args.cap c.args.buffer.now c.in_ok-check_places.ensures refl b.ensures.lists _ _ (c.search.ensures.value, c.search.ensures.boards_after) in
    record { value = w.0; buffer_after = w.1 }
