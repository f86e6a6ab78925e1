-- The edges of a list of records as two lists of numbers (SPEC 8.5), and how many of them are copied. Assumes nothing.
use Rattle.std.specs.Prelude.{ℕ, List, map, leb}
use Rattle.lists.specs.Choice.{pick}
use Rattle.edge_list.specs.declared.Edge.{Edge}

-- the first end of each edge, and the second
abbrev pub firsts : List Edge → List ℕ
firsts es = map (λ (e : Edge). e.u) es

abbrev pub seconds : List Edge → List ℕ
seconds es = map (λ (e : Edge). e.v) es

-- of n edges, how many are copied: of a list that is longer than a graph's limit enough to stay so, one more than the limit
abbrev pub held_of : ℕ → ℕ
held_of n = pick (leb n 1985) n 1985
