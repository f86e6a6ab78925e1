-- `groups::GroupArrays::group` meets its contract: what `group_cells` leaves in the arrays is a `Groups`. Assumes nothing.
use Rattle.std.proofs.Common.{rules}
use native.Mathlib.Omega.{arith}
use Rattle.grid.specs.Grid.{cells}
use Rattle.groups.specs.Lent.{Lent}
use Rattle.groups.proofs.Lending.{count_small}
use Rattle.groups.proofs.Theorems.{made, made_ids, made_starts, starts_length}
use Rattle.groups.proofs.arrays.GroupArrays.group.Goals as goal

pub shared_whole_as_front-result-2 : goal.shared_whole_as_front-result-2
shared_whole_as_front-result-2 g c =
    (omega (arith, count_small c.args.borders.grid c.args.borders.states.now c.args.potential, c.group_cells-count.ensures.count_is), search rules)

pub invariant_of-result : goal.invariant_of-result
invariant_of-result g c =
    let l : Lent (cells c.args.borders.grid) c.args.self.now.ids c.args.self.now.starts c.args.self.now.flat = search rules in
    record { turns = rw c.cell_count.ensures (made l c.group_cells-count.ensures) }

pub returns : goal.returns
returns g c =
    let l : Lent (cells c.args.borders.grid) c.args.self.now.ids c.args.self.now.starts c.args.self.now.flat = search rules in
    let b = c.args.borders in
    let s = made_starts l c.group_cells-count.ensures in
    record {
      grid_is = search rules;
      ids_are = rw c.cell_count.ensures (made_ids l c.group_cells-count.ensures);
      count_is = rw s (starts_length b.grid b.states.now c.args.potential);
      starts_are = s;
    }
