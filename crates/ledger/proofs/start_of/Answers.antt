-- `ledger::start_of` meets its contract: the last place with a start. Assumes nothing.
use Rattle.std.proofs.Common.{rules}
use Rattle.ledger.proofs.StrokeLoops.{start_told}
use Rattle.ledger.proofs.start_of.Goals as goal

pub returns : goal.returns
returns c = start_told c.args.names.now c.rposition.result (λ i e. (search rules, search rules, λ k l h z. search rules)) (λ e k h z. search rules) c.unwrap_or.ensures
