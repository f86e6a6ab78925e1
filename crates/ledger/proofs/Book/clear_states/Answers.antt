-- `ledger::Book::clear_states` meets its contract: the names from `from` on are borders that have a state. Assumes nothing.
use mathlib.Core.Path.{◌≡◌, ap, ◌∙◌}
use borrow.Author.Rules.{rules}
use lib.ListN.{length}
use Rattle.limits.specs.Limits.{most_borders}
use Rattle.ledger.specs.Books.{book, clear_all}
use Rattle.ledger.proofs.Turns.{part_below, part_half}
use Rattle.ledger.proofs.Book.clear_states.Goals as goal

pub clear_states-requires : goal.clear_states-requires
clear_states-requires c =
    let b = c.args.self.now in
    let long : length b.states ≡ most_borders = search rules in
    rw long (part_below b.names c.args.from b.len c.requires)

pub returns : goal.returns
returns c =
    let b = c.args.self.now in
    ap (λ s. book s b.names b.len) (c.clear_states.ensures ∙ ap (clear_all b.states) (part_half b.names c.args.from b.len c.requires))
