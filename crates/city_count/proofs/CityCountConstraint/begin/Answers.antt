-- `CityCountConstraint::begin` meets its contract: the edges' ends are copied to the fronts of zeros. Assumes nothing.
use Rattle.std.proofs.Common.{refl, sym, ◌∙◌}
use Rattle.city_count.proofs.RoomLaws.{filled}
use Rattle.city_count.proofs.CityCountConstraint.begin.Goals as goal

pub returns : goal.returns
returns c =
    rw c.put_ends.ensures
    (filled c.args.n c.args.us.now c.args.vs.now c.args.count c.if-n-gt-CELLS.false c.if-us-gt-BORDERS.false c.if-us-vs.false (rw c.requires refl)
    refl refl (sym c.ends_exist.ensures ∙ c.if-not-ends_exist.false))
