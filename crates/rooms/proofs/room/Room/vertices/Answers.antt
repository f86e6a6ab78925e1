-- `Room::vertices` meets its contract: what is left to number, numbered from i on, gives the whole. Assumes nothing.
use Rattle.std.proofs.Common.{◌+◌, refl, get_or, sym, ◌∙◌}
use lib.ListN.{length-set}
use Rattle.lists.proofs.ListLaws.{get_d_in}
use Rattle.rooms.specs.Lent.{nowhere}
use Rattle.rooms.proofs.HouseLaws.{cells_below}
use Rattle.rooms.proofs.NumberLaws.{number_turn, number_end, nowhere_length}
use Rattle.rooms.proofs.room.Room.vertices.Goals as goal

pub loop-i-init : goal.loop-i-init
unfolding nowhere
loop-i-init c = record { long = nowhere_length; written = refl }

pub bounds-vertices-from : goal.bounds-vertices-from
bounds-vertices-from c =
    rw c.from.ensures (cells_below c.args.self.housed (get_or c.args.self.cells.now c.loop-i.i 0) (get_d_in 0 c.args.self.cells.now c.loop-i.i c.loop-i-test.true))

pub loop-i-preserved : goal.loop-i-preserved
loop-i-preserved c = record {
  long = simp length-set c.loop-i.invariant.long;
  written = rw c.from.ensures (sym (number_turn c.args.self.cells.now c.loop-i.i c.loop-i.vertices c.loop-i-test.true) ∙ c.loop-i.invariant.written);
}

pub returns : goal.returns
returns c =
    sym (number_end c.args.self.cells.now c.loop-i.i (c.loop-i.i + 1) c.loop-i.vertices c.loop-i-test.false) ∙ c.loop-i.invariant.written
