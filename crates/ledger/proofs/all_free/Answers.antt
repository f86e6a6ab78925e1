-- `ledger::all_free` meets its contract: each border that the closure reads has a state. Assumes nothing.
use mathlib.Core.Path.{◌∙◌}
use Rattle.std.proofs.Common.{rules, ◌≡◌, ◌/◌, ◌<◌, ◌↔◌, All, IsTrue, length, get_or, ℕ, List, true}
use lib.Dec.{eqb}
use Rattle.std.proofs.lemmas.List.{get_or_default}
use Rattle.std.proofs.lemmas.Iterator.{YieldsList-from_slice}
use Rattle.std.proofs.lemmas.Iterator.Adapters.{serves_from_places}
use Rattle.lists.proofs.Bridges.{all_is}
use Rattle.ledger.specs.Ledger.{Decision, decisions, all_exist}
use Rattle.ledger.proofs.StrokeLoops.{entry_below}
use Rattle.ledger.proofs.Turns.{all_entries}
use Rattle.ledger.proofs.all_free.Goals as goal

below : (es : List ℕ) (k x n : ℕ) → all_exist n (decisions es) ≡ true → k < length es → x ≡ get_or es k x → x / 2 < n
below es k x n q l e = let s : x ≡ get_or es k 0 = e ∙ get_or_default es k x 0 l in rw s (entry_below es k n q l)

pub all-requires-clause-callable : goal.all-requires-clause-callable
all-requires-clause-callable c =
    serves_from_places (YieldsList-from_slice c.args.entries.now cc) (λ x q r. search rules) (λ x k l e.
    let h : x.now / 2 < length c.args.states.now = below c.args.entries.now k x.now (length c.args.states.now) c.requires l e in search rules)

pub returns : goal.returns
returns c =
    all_is (λ x. eqb (get_or c.args.states.now (x / 2) 0) 0) c.args.entries.now c.all.result (let h : IsTrue c.all.result ↔ All (λ x. IsTrue (eqb (get_or c.args.states.now (x / 2) 0) 0)) c.args.entries.now = search rules in h)
    ∙ all_entries (λ (d : Decision). eqb (get_or c.args.states.now d.border 0) 0) c.args.entries.now
