-- `boundary::list` meets its contract: a group's list fits into the buffer. Assumes nothing.
use native.Mathlib.Omega.{arith}
use Rattle.boundary.proofs.BoundaryLaws.{boundary_most}
use Rattle.boundary.proofs.list.Goals as goal

pub append-requires : goal.append-requires
append-requires c =
    let b = c.borders-borders.result in
    let e = c.of.ensures in
    rw (e.borders_are, e.ids_are, e.potential_is, e.number_is)
    (omega (arith, boundary_most b.grid b.states.now c.group-groups.result.ids.now c.args.is_potential c.args.number, c.cell_count.ensures))
