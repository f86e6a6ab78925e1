-- `ledger::all_exist` meets its contract. Assumes nothing.
use mathlib.Core.Path.{◌∙◌}
use Rattle.std.proofs.Common.{rules, ◌/◌, ◌↔◌, All, IsTrue}
use lib.Dec.{ltb}
use Rattle.lists.proofs.Bridges.{all_is}
use Rattle.ledger.specs.Ledger.{Decision}
use Rattle.ledger.proofs.Turns.{all_entries}
use Rattle.ledger.proofs.all_exist.Goals as goal

pub returns : goal.returns
returns c =
    all_is (λ x. ltb (x / 2) c.args.n) c.args.entries.now c.all.result (let h : IsTrue c.all.result ↔ All (λ x. IsTrue (ltb (x / 2) c.args.n)) c.args.entries.now = search rules in h)
    ∙ all_entries (λ (d : Decision). ltb d.border c.args.n) c.args.entries.now
