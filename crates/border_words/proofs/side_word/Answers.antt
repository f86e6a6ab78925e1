-- `border_words::side_word` meets its contract: a border's column is set where it has the state. Assumes nothing.
use Rattle.std.proofs.Common.{rules}
use lib.Dec.{eqb}
use lib.ListN.{get_or}
use Rattle.border_words.proofs.side_word.Goals as goal

pub returns : goal.returns
returns c = c.row.ensures (λ x. eqb (get_or c.args.states.now x 0) c.args.state) (λ x set h p. search rules)
