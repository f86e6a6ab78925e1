-- `puzzle::fault_of` meets its contract: a law of proofs/Finding for each way through. Assumes nothing.
use mathlib.Core.Path.{◌∙◌}
use native.Mathlib.Omega.{arith}
use Rattle.grid.specs.Grid.{cells}
use Rattle.images.specs.Images.{translate}
use Rattle.puzzle.proofs.KindLaws.{nine_each}
use Rattle.puzzle.proofs.Finding.{shape_fault_lem, rooms_answer}
use Rattle.puzzle.proofs.fault_of.Goals as goal

pub returns-in-Some : goal.returns-in-Some
returns-in-Some c =
    let a = c.args.board in
    let w = shape_fault_lem c.args.images.now a.borders.grid a.given.now a.clues.now a.borders.states.now a.one_each c.args.buffer.now _ c.shape_fault.result c.shape_fault.ensures c.in-Some.len c.in-Some.is in
    record { value = w.0; buffer_after = w.1 }

pub returns-in_err-fault : goal.returns-in_err-fault
returns-in_err-fault c =
    let a = c.args.board in
    let w = rooms_answer c.args.images.now a.borders.grid a.given.now a.clues.now a.borders.states.now a.one_each c.args.buffer.now _ c.shape_fault.result c.shape_fault.ensures c.in_default.is c.count_rooms.result _ _ (c.count_rooms.ensures.value, c.count_rooms.ensures.buffer_after) c.in_err-fault.was in
    record { value = c.from_residual.ensures ∙ w.0; buffer_after = w.1 }

pub returns : goal.returns
returns c =
    let a = c.args.board in
    let w = rooms_answer c.args.images.now a.borders.grid a.given.now a.clues.now a.borders.states.now a.one_each c.args.buffer.now _ c.shape_fault.result c.shape_fault.ensures c.in_default.is c.count_rooms.result _ _ (c.count_rooms.ensures.value, c.count_rooms.ensures.buffer_after) c.in_ok-fault.was in
    record { value = w.0; buffer_after = w.1 }

pub count_rooms-requires : goal.count_rooms-requires
count_rooms-requires c = omega (arith, nine_each c.args.images.now translate c.requires.translate (cells c.args.board.borders.grid), c.requires.room)
