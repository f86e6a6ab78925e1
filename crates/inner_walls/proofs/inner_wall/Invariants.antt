-- `inner_walls::inner_wall` meets its contract: the cells passed found nothing. Assumes nothing.
use Rattle.std.proofs.Common.{◌+◌, ◌*◌}
use Rattle.inner_walls.proofs.InnerLaws.{Passed}
use Rattle.inner_walls.proofs.inner_wall.Given as goal

abbrev pub invariant-loop-row : goal.invariant-loop-row
invariant-loop-row l = Passed l.b.grid l.b.states.now l.ids l.initial.buffer l.buffer (l.row * l.b.grid.width)

abbrev pub invariant-loop-col : goal.invariant-loop-col
invariant-loop-col l = Passed l.b.grid l.b.states.now l.ids l.fn.buffer l.buffer (l.row * l.b.grid.width + l.col)
