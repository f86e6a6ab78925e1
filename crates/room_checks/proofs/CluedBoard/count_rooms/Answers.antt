-- `CluedBoard::count_rooms` meets its contract: nothing is found where no room has a clue, and else what the counts find. Assumes nothing.
use Rattle.std.proofs.Common.{refl, sym, ◌∙◌}
use Rattle.borders.specs.Border.{state_of}
use Rattle.rooms.specs.Rooms.{is_given, room_cells}
use Rattle.room_checks.proofs.Unclued.{none_found}
use Rattle.room_checks.proofs.CluedBoard.count_rooms.Goals as goal

pub returns-then-none_clued : goal.returns-then-none_clued
returns-then-none_clued c =
    let none = none_found c.args.self.borders.grid (is_given c.args.self.given.now) (room_cells c.args.self.borders.grid c.args.self.given.now) c.args.self.clues.now (state_of c.args.self.borders.states.now) (sym c.none_clued.ensures ∙ c.if-none_clued.true) in
    rw none (record { value = refl; buffer_after = refl })
