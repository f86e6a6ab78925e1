-- `CityCountConstraint::decide` meets its contract: a stroke of one. Assumes nothing.
use Rattle.std.proofs.Common.{◌∙◌}
use Rattle.city_count.proofs.RoomLaws.{one_entry}
use Rattle.city_count.proofs.CityCountConstraint.decide.Goals as goal

pub returns : goal.returns
returns c = c.stroke.ensures ∙ one_entry c.args.self.now c.args.edge c.args.wall c.entry_of.result c.entry_of.ensures
