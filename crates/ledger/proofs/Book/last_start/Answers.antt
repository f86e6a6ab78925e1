-- `ledger::Book::last_start` meets its contract: the first `len` names alone tell. Assumes nothing.
use mathlib.Core.Path.{◌∙◌}
use borrow.Author.Rules.{rules}
use Rattle.ledger.proofs.NameLaws.{start_front}
use Rattle.ledger.proofs.Book.last_start.Goals as goal

pub returns : goal.returns
returns c = let b = c.args.self.now in c.start_of.ensures ∙ start_front b.names b.len (search rules)
