-- `inner_walls::Units::inner_cell` meets its contract: the directions passed found nothing. Assumes nothing.
use Prim.Native.Nat.{◌+◌, ◌*◌}
use Rattle.grid.specs.declared.Direction.TheVariants.{Up}
use Rattle.grid.specs.Orders.{forward}
use Rattle.shape.specs.Shape.{inner_at}
use Rattle.inner_walls.proofs.FindLaws.{Searched}
use Rattle.inner_walls.proofs.Units.inner_cell.Given as goal

abbrev pub invariant-loop-direction : goal.invariant-loop-direction
invariant-loop-direction l =
    Searched (inner_at l.self.borders.grid l.self.borders.states.now l.self.ids.now (l.row * l.self.borders.grid.width + l.col)) forward Up l.initial.buffer l.buffer l.direction-index
