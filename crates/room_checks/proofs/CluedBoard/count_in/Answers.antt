-- `CluedBoard::count_in` meets its contract: the rooms' cells are put in turn, and the counts over them are those of the board's rooms. Assumes nothing.
use Rattle.std.proofs.Common.{take, ap, ◌∙◌, arith}
use Rattle.grid.proofs.Geometry.{border_count_le}
use Rattle.rooms.specs.Lent.{unmarked}
use Rattle.rooms.proofs.PutLaws.{places, room_asks, room_ids_are, room_turns}
use Rattle.rooms.proofs.RoomLaws.{rooms_few}
use Rattle.room_checks.specs.RoomChecks.{counted_of, leaves}
use Rattle.room_checks.proofs.Housed.{rooms_same}
use Rattle.room_checks.proofs.CluedBoard.count_in.Goals as goal

pub whole_as_front-put_in_turn : goal.whole_as_front-put_in_turn
whole_as_front-put_in_turn g c =
    let few = rooms_few c.args.self.borders.grid c.args.self.given.now in
    (omega (arith, c.rooms_of-count.ensures.count_is, few, c.requires.room.0), omega (arith, c.requires.room.1))

pub put_in_turn-requires : goal.put_in_turn-requires
put_in_turn-requires g c =
    let l = places c.args.self.borders.grid g.row.N c.requires.room.0 in
    let a = room_asks c.args.self.borders.grid c.args.self.given.now c.args.self.walls l c.rooms_of-count.ensures l.ids_long l.sizes_long in
    rw c.cell_count-n.ensures (record { keys = a.0; sized = a.1; sizes_in_bounds = a.2 })

pub write_at-requires : goal.write_at-requires
write_at-requires g c e m =
    let w = c.args.self.walls in omega (arith, w.below e m, border_count_le _ w.limits)

pub invariant_of-groups : goal.invariant_of-groups
invariant_of-groups g c =
    let l = places c.args.self.borders.grid g.row.N c.requires.room.0 in
    record {
      turns = rw c.cell_count-n.ensures
          (room_turns c.args.self.borders.grid c.args.self.given.now c.args.self.walls l c.rooms_of-count.ensures _ _ l.ids_long l.sizes_long
          (rw c.cell_count-n.ensures at c.put_in_turn.ensures.starts_after)
          (rw c.cell_count-n.ensures at c.put_in_turn.ensures.flat_after));
    }

pub returns : goal.returns
unfolding unmarked
returns g c =
    let b = c.args.self.borders in
    let l = places b.grid g.row.N c.requires.room.0 in
    let n = c.cell_count-n.ensures in
    let ids = ap (λ m. take m c.rooms_of-count.new.ids) n
    ∙ room_ids_are b.grid c.args.self.given.now c.args.self.walls l c.rooms_of-count.ensures _ _ l.ids_long l.sizes_long (rw n at c.put_in_turn.ensures.starts_after) (rw n at c.put_in_turn.ensures.flat_after) in
    let same = rooms_same b.grid c.args.self.given.now c.args.self.walls c.write_at.ensures b.states.now c.args.self.clues.now ids in
    record { value = c.count.ensures.value ∙ ap counted_of same; buffer_after = c.count.ensures.buffer_after ∙ ap (λ f. leaves f c.args.buffer.now) same }
