-- `puzzle::Puzzle::begin` meets its contract: an accepted making's lists have their places. Assumes nothing.
use mathlib.Core.Path.{sym, ◌∙◌}
use Rattle.puzzle.proofs.Making.{accepted, given_short, clues_short, walls_below}
use Rattle.puzzle.proofs.Puzzle.begin.Goals as goal

pub start-requires-clause-below : goal.start-requires-clause-below
start-requires-clause-below c =
    walls_below _ _ _ _ (accepted _ _ _ _ (sym c.is_within_limits.ensures ∙ c.if-not-is_within_limits.false) (sym c.in_ok-check_lists.ensures))

pub start-requires-clause-given_len_bound : goal.start-requires-clause-given_len_bound
start-requires-clause-given_len_bound c =
    let k = accepted _ _ _ _ (sym c.is_within_limits.ensures ∙ c.if-not-is_within_limits.false) (sym c.in_ok-check_lists.ensures) in
    (given_short _ _ _ _ k, clues_short _ _ _ _ k)
