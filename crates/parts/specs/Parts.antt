-- The parts into which edges join the vertices 0, 1, 2, ..: units (SPEC 2.2), groups (4.1), rooms (1.7) and the parts of a room graph (4.14) are such. Assumes nothing.
use Rattle.std.specs.Prelude.{ℕ, zero, suc, ◌+◌, ◌<◌, min, max, ◌≡◌, List, [], ◌∷◌, map, get_or, eqb}
use Rattle.lists.specs.Choice.{pick}
use Rattle.lists.specs.Lists.{In, range, count_from}

pub record Edge : Type 0 where
  pub one : ℕ
  pub other : ℕ

abbrev pub edge : ℕ → ℕ → Edge
edge c d = record { one = c; other = d }

-- E has an edge from c to d, in this direction
abbrev pub Has : List Edge → ℕ → ℕ → Type 0
Has E c d = In (edge c d) E

-- c and d are joined: by edges of E, either way, one after the other
pub data Joined (E : List Edge) : ℕ → ℕ → Type 0 where
  same : {c d : ℕ} → c ≡ d → Joined E c d
  over : {c d : ℕ} → Has E c d → Joined E c d
  back : {c d : ℕ} → Joined E c d → Joined E d c
  then : {b c d : ℕ} → Joined E b c → Joined E c d → Joined E b d

-- the parts whose first vertices are a and b become one, whose first vertex is the lesser
unfoldable pub merge : ℕ → ℕ → ℕ → ℕ
merge a b x = pick (eqb x (max a b)) (min a b) x

-- the first vertex of c's part
unfoldable pub root : List Edge → ℕ → ℕ
root [] c = c
root (e ∷ E) c = merge (root E e.one) (root E e.other) (root E c)

-- how many parts begin below n
unfoldable pub begun : List Edge → ℕ → ℕ
begun E zero = 0
begun E (suc n) = begun E n + pick (eqb (root E n) n) 1 0

-- the number of c's part: from 0, in the order of first vertices (SPEC 4.1)
unfoldable pub part : List Edge → ℕ → ℕ
part E c = begun E (root E c)

-- every end of an edge is below n
abbrev pub Within : ℕ → List Edge → Type 0
Within n [] = Unit {0}
Within n (e ∷ E) = ((e.one < n) × (e.other < n)) × Within n E

-- the same for all vertices below n at once, by lists that compute
unfoldable pub join : Edge → List ℕ → List ℕ
unfolding merge
join e l = map (merge (get_or l e.one 0) (get_or l e.other 0)) l

unfoldable pub roots : ℕ → List Edge → List ℕ
unfolding range count_from join
roots n [] = range n
roots n (e ∷ E) = join e (roots n E)

unfoldable pub begun_in : List ℕ → ℕ → ℕ
begun_in l zero = 0
begun_in l (suc n) = begun_in l n + pick (eqb (get_or l n 0) n) 1 0

unfoldable pub parts : ℕ → List Edge → List ℕ
unfolding roots begun_in
parts n E = let l : List ℕ = roots n E in map (begun_in l) l
