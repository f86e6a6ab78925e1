-- `enumerate::count_undecided` meets its contract. Assumes nothing.
use mathlib.Core.Path.{◌≡◌, sym, ◌∙◌}
use borrow.Author.Rules.{rules}
use Rattle.std.specs.Prelude.{count_by, eqb}
use Rattle.enumerate.proofs.Undecided.{counted}
use Rattle.enumerate.proofs.count_undecided.Goals as goal

pub returns : goal.returns
returns c =
    let h : c.count.result ≡ count_by (λ x. eqb x 0) c.args.states.now = search rules in
    h ∙ sym (counted c.args.states.now)
