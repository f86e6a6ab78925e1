-- `ledger::Book::check` meets its contract: marks of zeros are those of no given wall. Assumes nothing.
use mathlib.Core.Path.{ap, sym, ◌∙◌}
use Rattle.lists.specs.Choice.{pick}
use Rattle.ledger.specs.Books.{zeros}
use Rattle.ledger.proofs.BookLaws.{no_marks, by_marks}
use Rattle.ledger.proofs.Book.check.Goals as goal

pub holds-requires : goal.holds-requires
unfolding zeros
holds-requires c = no_marks c.args.n c.requires

pub returns-then-not-holds : goal.returns-then-not-holds
unfolding zeros
returns-then-not-holds c = ap (λ t. pick t 0 2) (sym (by_marks c.args.n c.args.self.now c.holds.result c.holds.ensures ∙ c.if-not-holds.true))

pub returns : goal.returns
unfolding zeros
returns c = ap (λ t. pick t 0 2) (sym (by_marks c.args.n c.args.self.now c.holds.result c.holds.ensures ∙ c.if-not-holds.false))
