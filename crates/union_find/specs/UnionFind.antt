-- The answers of the three calls: SPEC 3's questions in their order, and the record that comes back. Assumes nothing.
use Rattle.std.specs.Prelude.{ℕ, Bool, false, List, ltb, leb, replicate, Result, Ok, Err}
use Rattle.std.proofs.lemmas.List.Edits.{sets}
use Rattle.limits.specs.Limits.{most_cells}
use Rattle.answers.specs.declared.Refusal.{Refusal}
use Rattle.answers.specs.Refusals.{number_of}
use Rattle.lists.specs.Choice.{both, pick}
use Rattle.lists.specs.Lists.{range}
use Rattle.union_find.specs.Chains.{climb, shortened, united, hung, parents_exist, chains_end}
use Rattle.union_find.specs.declared.UnionFind.{UnionFind}
use Rattle.union_find.specs.declared.Made.{Made}
use Rattle.union_find.specs.declared.Found.{Found}
use Rattle.union_find.specs.declared.United.{United}

unfoldable pub zeros : List ℕ
zeros = replicate most_cells 0

abbrev pub union_of : List ℕ → ℕ → UnionFind
union_of p n = record { parent = p; n = n }

-- question 2
abbrev pub holds_of : ℕ → List ℕ → Bool
holds_of n p = both (parents_exist n p) (chains_end n p)

-- each vertex is its own parent at first (SPEC 1.9); a refused making returns zeros (3.13)
abbrev pub new_of : ℕ → Made
new_of n =
    pick (ltb most_cells n) (record { code = 1; union = union_of zeros 0 })
    (record { code = 0; union = union_of (sets zeros 0 (range n)) n })

abbrev pub not_found : ℕ → UnionFind → Found
not_found k u = record { code = k; root = 0; union = u }

abbrev pub find_of : UnionFind → ℕ → Found
find_of u x =
    pick (ltb most_cells u.n) (not_found 1 u)
    (pick (holds_of u.n u.parent)
    (pick (leb u.n x) (not_found 3 u)
    (record { code = 0; root = climb u.n u.parent x; union = union_of (shortened u.n u.parent x) u.n }))
    (not_found 2 u))

abbrev pub not_united : ℕ → UnionFind → United
not_united k u = record { code = k; united = false; union = u }

abbrev pub unite_of : UnionFind → ℕ → ℕ → United
unite_of u x y =
    pick (ltb most_cells u.n) (not_united 1 u)
    (pick (holds_of u.n u.parent)
    (pick (leb u.n x) (not_united 3 u)
    (pick (leb u.n y) (not_united 3 u)
    (record { code = 0; united = united u.n u.parent x y; union = union_of (hung u.n u.parent x y) u.n })))
    (not_united 2 u))

-- questions 1 and 2 of a union, and question 3 of a vertex: the number of the question that refuses, or 0
abbrev pub check_of : UnionFind → ℕ
check_of u = pick (ltb most_cells u.n) 1 (pick (holds_of u.n u.parent) 0 2)

abbrev pub vertex_of : UnionFind → ℕ → ℕ
vertex_of u x = pick (leb u.n x) 3 0

-- the record of an answer: what a making, a find or a unite answers, with the union that it leaves
abbrev pub made_as : Result UnionFind Refusal → Made
made_as (Ok u) = record { code = 0; union = u }
made_as (Err e) = record { code = number_of e; union = union_of zeros 0 }

abbrev pub found_as : Result ℕ Refusal → UnionFind → Found
found_as (Ok r) u = record { code = 0; root = r; union = u }
found_as (Err e) u = not_found (number_of e) u

abbrev pub united_as : Result Bool Refusal → UnionFind → United
united_as (Ok b) u = record { code = 0; united = b; union = u }
united_as (Err e) u = not_united (number_of e) u
