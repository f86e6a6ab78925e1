-- `adjacency::Near::unmark` meets its contract: what is written by p's list, and at p itself. Assumes nothing.
use Rattle.adjacency.proofs.MarkLaws.{part_below, part_written, unmarked}
use Rattle.adjacency.proofs.Near.unmark.Goals as goal

pub write_at-requires : goal.write_at-requires
write_at-requires c = let m = c.requires in rw c.of.ensures (part_below _ m.rising m.list_long m.small)

pub returns : goal.returns
returns c =
    let r = c.requires in
    λ g states pids count a k m. unmarked a _ k (part_written _ r.rising r.list_long (part_below _ r.rising r.list_long r.small) (rw c.of.ensures at c.write_at.ensures)) r.own m
