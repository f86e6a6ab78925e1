-- `enumerate::check_places` meets its contract: what the division tells. Assumes nothing.
use mathlib.Core.Path.{sym, ◌∙◌}
use native.Mathlib.Omega.{arith}
use borrow.Author.Tests.{eqb-false}
use Rattle.enumerate.proofs.Codes.{short_places}
use Rattle.enumerate.proofs.check_places.Goals as goal

pub returns-then-places-states : goal.returns-then-places-states
returns-then-places-states c =
    let a = c.args in
    short_places a.states.now a.cap a.places (omega (arith, c.count_undecided.ensures, c.if-count_undecided-gt-UNDECIDED.false)) (eqb-false _ _ (sym c.is_empty.ensures ∙ c.if-is_empty.false)) c.if-places-states.true
