-- `offsets::unit::UnitCells::last` meets its contract: the unit has a last cell. Assumes nothing.
use native.Mathlib.Omega.{arith}
use Rattle.offsets.proofs.TrialLaws.{cell_of}
use Rattle.offsets.proofs.unit.UnitCells.last.Goals as goal

pub bounds-self-from : goal.bounds-self-from
bounds-self-from c = let u = c.args.self.unit in omega (arith, cell_of u (omega (arith, u.some)) c.from.ensures, u.table_of.long)
