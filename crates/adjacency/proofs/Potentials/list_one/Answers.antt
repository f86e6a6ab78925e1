-- `adjacency::Potentials::list_one` meets its contract: what is looked at is listed, and its marks are taken away. Assumes nothing.
use native.Mathlib.Omega.{arith}
use Rattle.adjacency.proofs.ListingLaws.{parted_cell, noted, listed}
use Rattle.adjacency.proofs.Potentials.list_one.Goals as goal

pub unmark-requires-clause-by_index : goal.unmark-requires-clause-by_index
unmark-requires-clause-by_index c =
    let p = c.requires in
    let e = c.look_all.ensures.looked in
    λ i x y.
    let o = parted_cell _ _ _ _ p.by_index _ ((noted p.unmarked e).only i x y) in
    omega (arith, p.looks.small o.0 o.1, o.2, e.marks_long)

pub returns-clause-listed : goal.returns-clause-listed
returns-clause-listed c =
    let u = c.unmark.ensures in
    rw (u.listed.0, u.listed.1) (listed c.requires.unmarked c.look_all.ensures.looked u.unmarked)
