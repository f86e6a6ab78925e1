-- `ledger::Book::stroke` meets its contract: an accepted stroke has places for its borders and room for their names. Assumes nothing.
use mathlib.Core.Path.{sym, ap}
use native.Mathlib.Omega.{arith}
use borrow.Author.Rules.{rules}
use Rattle.ledger.specs.declared.Book.{Book}
use Rattle.ledger.proofs.Found.{room}
use Rattle.ledger.proofs.Book.stroke.Goals as goal

pub place_states-requires : goal.place_states-requires
place_states-requires c = (room c.args.n c.args.self.now c.requires (search rules) (search rules) c.args.entries.now (sym c.in_ok-check_stroke.ensures)).exist

pub place_names-requires : goal.place_names-requires
place_names-requires c =
    let r = room c.args.n c.args.self.now c.requires (search rules) (search rules) c.args.entries.now (sym c.in_ok-check_stroke.ensures) in
    omega (arith, ap (λ (b : Book). b.len) c.place_states.ensures, r.fits)
