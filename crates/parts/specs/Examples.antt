-- Parts of small graphs, computed. Assumes nothing.
use Rattle.std.specs.Prelude.{ℕ, zero, suc, ◌≡◌, refl, List, [], ◌∷◌, map, replicate}
use Rattle.std.proofs.Common.{inl, inr}
use Rattle.lists.specs.Lists.{range, count_from}
use Rattle.parts.specs.Parts.{Edge, edge, Joined, over, back, then, merge, root, begun, part, join, roots, begun_in, parts}

-- six vertices in three parts: a loop, a repeat, a way round, and a vertex alone
abbrev six : List Edge
six = edge 0 3 ∷ edge 3 5 ∷ edge 1 2 ∷ edge 5 0 ∷ edge 2 2 ∷ edge 2 1 ∷ []

six_joined : Joined six 5 0
six_joined = back (then (over (inl refl)) (over (inr (inl refl))))

six_roots : map (root six) (range 6) ≡ 0 ∷ 1 ∷ 1 ∷ 0 ∷ 4 ∷ 0 ∷ []
unfolding root merge range count_from
six_roots = refl

six_parts : map (part six) (range 6) ≡ 0 ∷ 1 ∷ 1 ∷ 0 ∷ 2 ∷ 0 ∷ []
unfolding part begun root merge range count_from
six_parts = refl

six_lists : parts 6 six ≡ 0 ∷ 1 ∷ 1 ∷ 0 ∷ 2 ∷ 0 ∷ []
unfolding parts begun_in roots join merge range count_from
six_lists = refl

-- parts are numbered by first vertex, whatever the order of the edges
late_first : parts 5 (edge 4 1 ∷ edge 3 2 ∷ edge 2 0 ∷ []) ≡ 0 ∷ 1 ∷ 0 ∷ 0 ∷ 1 ∷ []
unfolding parts begun_in roots join merge range count_from
late_first = refl

chain : ℕ → ℕ → List Edge
chain a zero = []
chain a (suc n) = edge a (suc a) ∷ chain (suc a) n

chain_parts : parts 65 (chain 0 64) ≡ replicate 65 0
unfolding parts begun_in roots join merge range count_from chain
chain_parts = refl
