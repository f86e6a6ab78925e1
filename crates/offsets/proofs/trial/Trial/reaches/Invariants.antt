-- `offsets::trial::Trial::reaches` meets its contract: the loop's invariant is `Walk`, what is left of the test. Assumes nothing.
use Rattle.offsets.specs.Table.{units_in, potentials_in}
use Rattle.offsets.proofs.ReachLaws.{Walk}
use Rattle.offsets.proofs.trial.Trial.reaches.Given as goal

abbrev pub invariant-loop-cell : goal.invariant-loop-cell
invariant-loop-cell l = let g = l.borders.grid in Walk g l.shift (units_in g l.table) (potentials_in g l.table) l.self.marks.now l.cell-items l.met l.cell-index
