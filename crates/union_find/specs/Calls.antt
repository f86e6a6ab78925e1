-- Lists of find and unite calls, and the pairs that they unite. Assumes nothing.
use Rattle.std.specs.Prelude.{ℕ, List, [], ◌∷◌, ltb}
use Rattle.lists.specs.Choice.{both, pick}
use Rattle.parts.specs.Parts.{Edge, edge}
use Rattle.union_find.specs.Chains.{climb}
use Rattle.union_find.specs.UnionFind.{new_of, find_of, unite_of}
use Rattle.union_find.specs.declared.UnionFind.{UnionFind}

pub data Call : Type 0 where
  find : ℕ → Call
  unite : ℕ → ℕ → Call

-- the root of a vertex: what find answers
abbrev pub root_in : UnionFind → ℕ → ℕ
root_in u x = climb u.n u.parent x

-- the record after a call, refused or not, and after a list of calls
unfoldable pub after : UnionFind → Call → UnionFind
after u (find x) = (find_of u x).union
after u (unite x y) = (unite_of u x y).union

unfoldable pub run : UnionFind → List Call → UnionFind
unfolding after
run u [] = u
run u (c ∷ cs) = run (after u c) cs

-- the record after a list of calls from a fresh union of n vertices
abbrev pub after_calls : ℕ → List Call → UnionFind
after_calls n cs = run (new_of n).union cs

-- the pairs that calls on n vertices unite, worked out from their arguments: both vertices exist. The last pair comes first.
unfoldable pub pairs_after : ℕ → List Edge → Call → List Edge
pairs_after n E (find x) = E
pairs_after n E (unite x y) = pick (both (ltb x n) (ltb y n)) (edge x y ∷ E) E

unfoldable pub pairs_of : ℕ → List Edge → List Call → List Edge
unfolding pairs_after
pairs_of n E [] = E
pairs_of n E (c ∷ cs) = pairs_of n (pairs_after n E c) cs
