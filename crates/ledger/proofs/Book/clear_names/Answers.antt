-- `ledger::Book::clear_names` meets its contract: the places are filled with zeros. Assumes nothing.
use mathlib.Core.Path.{ap}
use native.Mathlib.Omega.{arith}
use Rattle.ledger.specs.Books.{book}
use Rattle.ledger.proofs.Turns.{freed}
use Rattle.ledger.proofs.Book.clear_names.Goals as goal

pub returns : goal.returns
returns c =
    let b = c.args.self.now in
    let from = c.args.from in
    ap (λ l. book b.states l from) (freed b.names from b.len c.requires.0 (omega (arith, c.requires.1)) c.fill.new.self c.fill.ensures.len c.fill.ensures.clones)
