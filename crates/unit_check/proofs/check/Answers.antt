-- `unit_check::check` meets its contract: the table tells the units and potential units. Assumes nothing.
use Rattle.unit_check.proofs.check.Goals as goal

pub returns : goal.returns
returns g c = rw (c.fill.ensures.units, c.fill.ensures.potentials) at c.list_first.ensures
