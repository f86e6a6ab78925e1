-- A record of zeros: its arrays are zeros. Assumes nothing.
use Rattle.std.proofs.Common.{refl}
use Rattle.ledger.specs.Books.{zeros}
use Rattle.city_count.proofs.CityCountConstraintDefault.default.Goals as goal

pub returns : goal.returns
unfolding zeros
returns c = rw c.new.ensures refl
