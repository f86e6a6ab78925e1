-- `offsets::unit::UnitCells::failure` meets its contract: the first of two. Assumes nothing.
use Rattle.offsets.specs.Landings.{failure_of}
use Rattle.offsets.proofs.ToldLaws.{told_hit, told_later}
use Rattle.offsets.proofs.unit.UnitCells.failure.Goals as goal

pub returns-in-Some : goal.returns-in-Some
unfolding failure_of
returns-in-Some c = told_hit _ _ c.first_failure.ensures c.in-Some.is

pub returns : goal.returns
unfolding failure_of
returns c = told_later _ _ c.first_failure.ensures c.in_default.is c.first_failure-2.ensures
