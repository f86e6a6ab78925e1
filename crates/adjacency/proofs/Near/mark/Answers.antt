-- `adjacency::Near::mark` meets its contract: what is written by p's list, and at p itself. Assumes nothing.
use Rattle.adjacency.proofs.MarkLaws.{part_below, part_written, marked}
use Rattle.adjacency.proofs.Near.mark.Goals as goal

pub write_at-requires : goal.write_at-requires
write_at-requires c = let m = c.requires.marking in rw c.of.ensures (part_below _ m.rising m.list_long m.small)

pub returns : goal.returns
returns c =
    let m = c.requires.marking in
    λ g states pids count a k. marked a _ k (part_written _ m.rising m.list_long (part_below _ m.rising m.list_long m.small) (rw c.of.ensures at c.write_at.ensures)) c.requires.unmarked m.own
