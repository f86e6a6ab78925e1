-- `room_checks::none_clued` meets its contract: `all` tests each clue. Assumes nothing.
use Rattle.std.proofs.Common.{◌↔◌, eqb, All, IsTrue, rules}
use Rattle.limits.specs.Limits.{no_clue}
use Rattle.lists.proofs.Bridges.{all_is}
use Rattle.room_checks.specs.RoomChecks.{none_clued}
use Rattle.room_checks.proofs.none_clued.Goals as goal

pub returns : goal.returns
unfolding none_clued
returns c =
    all_is (λ e. eqb e no_clue) c.args.clues.now c.all.result
    (let h : IsTrue c.all.result ↔ All (λ e. IsTrue (eqb e no_clue)) c.args.clues.now = search rules in h)
