-- `CityCountConstraint::ask` meets its contract: the questions in their order, and then what the check finds. Assumes nothing.
use Rattle.std.proofs.Common.{sym}
use Rattle.city_count.proofs.RoomLaws.{fault_taken, asked}
use Rattle.city_count.proofs.CityCountConstraint.ask.Goals as goal

pub returns : goal.returns
returns c =
    let r = c.args.self.now in
    let e = c.graph.ensures in
    let w = asked r (sym c.in_ok-check.ensures) c.if-buffer-self.false (fault_taken r e.vertices e.ends.0 e.ends.1 e.states) c.find.ensures in
    record { value = w.0; buffer_after = w.1 }
