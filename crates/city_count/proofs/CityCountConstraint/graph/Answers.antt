-- `CityCountConstraint::graph` meets its contract: the record holds together, so that the slices are a room graph's. Assumes nothing.
use Rattle.std.proofs.Common.{◌≡◌, length, take, rules}
use Rattle.city_count.proofs.RoomLaws.{lent_room}
use Rattle.city_count.proofs.CityCountConstraint.graph.Goals as goal

pub invariant_of-result : goal.invariant_of-result
invariant_of-result c =
    let r = c.args.self.now in
    let us_are : length (take r.edges r.us) ≡ r.edges = search rules in
    let vs_are : length (take r.edges r.vs) ≡ r.edges = search rules in
    let states_are : length (take r.edges r.book.states) ≡ r.edges = search rules in
    record { lent = lent_room r c.requires us_are vs_are states_are }
