-- `inner_walls::Units::none_inside` meets its contract: none of the borders passed lies inside a unit. Assumes nothing.
use Rattle.std.proofs.Common.{◌≡◌, true}
use Rattle.inner_walls.specs.Asked.{NoneInside}
use Rattle.inner_walls.proofs.Units.none_inside.Given as goal

abbrev pub invariant-loop-i : goal.invariant-loop-i
invariant-loop-i l = l.none ≡ true → NoneInside l.self.borders.states.now l.self.ids.now l.border l.cell l.step l.i
