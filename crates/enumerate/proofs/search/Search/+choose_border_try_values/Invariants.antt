-- The measures of the two functions of the search, which call each other: twice the number of undecided borders, and one more where the next
-- border is chosen.
use Prim.Native.Nat.{◌+◌, ◌*◌}
use Rattle.lists.specs.Lists.{count}
use Rattle.enumerate.proofs.search.Search.+choose_border_try_values.Given as goal

abbrev pub decreases-choose_border : goal.decreases-choose_border
decreases-choose_border l = 2 * count 0 l.states.now + 1

abbrev pub decreases-try_values : goal.decreases-try_values
decreases-try_values l = 2 * count 0 l.states.now
