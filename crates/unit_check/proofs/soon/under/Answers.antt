-- `unit_check::soon::under` meets its contract: the table has the cells' rows and columns, and no product is too large. Assumes nothing.
use native.Mathlib.Omega.{arith}
use mathlib.Core.Path.{refl}
use Rattle.unit_check.proofs.SoonLaws.{under_small}
use Rattle.unit_check.proofs.soon.under.Goals as goal

pub overflow_add-result : goal.overflow_add-result
overflow_add-result c = omega (arith, (under_small c.args.unit.unit c.first-first.ensures c.last-last.ensures c.from.ensures refl).0)

pub overflow_mul-result : goal.overflow_mul-result
overflow_mul-result c = omega (arith, (under_small c.args.unit.unit c.first-first.ensures c.last-last.ensures c.from.ensures refl).1)

pub overflow_add-result-2 : goal.overflow_add-result-2
overflow_add-result-2 c = let s = under_small c.args.unit.unit c.first-first.ensures c.last-last.ensures c.from.ensures c.from-2.ensures in omega (arith, s.1, s.2)
