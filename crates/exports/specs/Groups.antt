-- A group's cells, copied. Assumes nothing.
use Rattle.std.specs.Prelude.{ℕ, List, [], leb, length}
use Rattle.lists.specs.Choice.{pick}

-- the part that is handed out, where there are places for all of it (SPEC 3.6); else nothing (SPEC 3.14)
abbrev pub copied_of : List ℕ → ℕ → List ℕ
copied_of part places = pick (leb (length part) places) part []
