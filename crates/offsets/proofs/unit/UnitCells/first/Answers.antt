-- `offsets::unit::UnitCells::first` meets its contract: the unit has a first cell. Assumes nothing.
use mathlib.Core.Path.{ap, ◌∙◌}
use native.Mathlib.Omega.{arith}
use lib.ListN.{get_or}
use Rattle.offsets.specs.Table.{blank}
use Rattle.offsets.proofs.TrialLaws.{cell_of, head_at}
use Rattle.offsets.proofs.unit.UnitCells.first.Goals as goal

pub bounds-self-from : goal.bounds-self-from
bounds-self-from c = let u = c.args.self.unit in omega (arith, cell_of u (omega (arith, u.some)) c.from.ensures, u.table_of.long)

pub returns : goal.returns
returns c = let s = c.args.self in ap (λ f. get_or s.chart.table.now f blank) (c.from.ensures ∙ head_at s.cells.now)
