-- `rooms::rooms_in` meets its contract: the potential units of a board with the given walls alone. Assumes nothing.
use Rattle.rooms.proofs.PutLaws.{blank, walls_in, roomed}
use Rattle.rooms.proofs.rooms_in.Goals as goal

pub write_at-requires : goal.write_at-requires
write_at-requires g c = walls_in c.args.grid c.args.given.now c.requires.given (blank c.args.grid g.row.N c.requires.room.0)

pub returns : goal.returns
returns g c =
    roomed c.args.grid c.args.given.now c.requires.given (blank c.args.grid g.row.N c.requires.room.0)
    (rw c.write_at.ensures at c.count_groups.ensures)
