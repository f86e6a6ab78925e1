-- `offsets::table::fill` meets its contract: the cells before this one have theirs. Assumes nothing.
use Rattle.std.proofs.Common.{◌+◌, ◌*◌}
use Rattle.offsets.proofs.TableLaws.{Filling}
use Rattle.offsets.proofs.table.fill.Given as goal

abbrev pub invariant-loop-row : goal.invariant-loop-row
invariant-loop-row l = Filling l.grid l.ids l.pids l.initial.table l.table (l.row * l.grid.width)

abbrev pub invariant-loop-col : goal.invariant-loop-col
invariant-loop-col l = Filling l.grid l.ids l.pids l.fn.table l.table (l.row * l.grid.width + l.col)
