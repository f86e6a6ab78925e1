-- `ledger::all_fit` meets its contract: the loop's invariant says what is left to test, beside what was found so far. Assumes nothing.
use Rattle.std.proofs.Common.{◌≡◌, ◌-◌, get_or, length}
use Rattle.lists.specs.Choice.{both}
use Rattle.lists.specs.Lists.{count_from, all}
use Rattle.ledger.specs.Marks.{fits_of, fit_all}
use Rattle.ledger.proofs.all_fit.Given as goal

abbrev pub invariant-loop-e : goal.invariant-loop-e
invariant-loop-e l =
    both l.good (all (λ e. fits_of (get_or l.states e 0) (get_or l.marks e 0)) (count_from l.e (length l.states - l.e)))
    ≡ fit_all (length l.states) l.states l.marks
