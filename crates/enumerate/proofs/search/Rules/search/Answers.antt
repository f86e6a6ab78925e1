-- `Rules::search` meets its contract: either array is as long as the kind asks. Assumes nothing.
use native.Mathlib.Omega.{arith}
use Rattle.enumerate.proofs.Starting.{translates_fit, images_fit}
use Rattle.enumerate.proofs.search.Rules.search.Goals as goal

pub search_in-requires-clause-room : goal.search_in-requires-clause-room
search_in-requires-clause-room c = let a = c.args.self in (translates_fit a.kind a.grid a.walls.limits c.if-self-eq0.true, omega arith)

pub search_in-requires-else-self-eq0-clause-room : goal.search_in-requires-else-self-eq0-clause-room
search_in-requires-else-self-eq0-clause-room c = let a = c.args.self in (images_fit a.kind a.grid a.walls.limits, omega arith)
