-- `ledger::Book::undo` meets its contract: the last stroke's names are there. Assumes nothing.
use mathlib.Core.Path.{ap}
use native.Mathlib.Omega.{arith}
use borrow.Author.Rules.{rules}
use Rattle.ledger.specs.declared.Book.{Book}
use Rattle.ledger.proofs.Found.{last_named, few_names}
use Rattle.ledger.proofs.Book.undo.Goals as goal

pub last_start-from-requires : goal.last_start-from-requires
last_start-from-requires c = few_names c.args.self.now c.requires

pub clear_states-requires : goal.clear_states-requires
clear_states-requires c = rw c.last_start-from.ensures (last_named c.args.self.now c.requires (search rules) (search rules))

pub clear_names-requires : goal.clear_names-requires
clear_names-requires c =
    let len = ap (λ (b : Book). b.len) c.clear_states.ensures in
    let named = last_named c.args.self.now c.requires (search rules) (search rules) in
    (omega (arith, len, c.last_start-from.ensures, named.in_turn), omega (arith, len, few_names c.args.self.now c.requires))
