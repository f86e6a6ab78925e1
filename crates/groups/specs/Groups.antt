-- Groups of cells (SPEC 4.1): the parts into which a board's borders that pass join its cells. Assumes nothing.
use Rattle.std.specs.Prelude.{ℕ, Bool, List, [], ◌∷◌, eqb, get_or}
use Rattle.lists.specs.Choice.{both, either, when}
use Rattle.lists.specs.Lists.{range, keep, gather}
use Rattle.grid.specs.declared.Direction.{Direction}
use Rattle.grid.specs.declared.Direction.TheVariants.{Down, Right}
use Rattle.grid.specs.declared.Grid.{Grid}
use Rattle.grid.specs.Grid.{cells, goes_on, next, border}
use Rattle.borders.specs.Border.{state_of}
use Rattle.parts.specs.Parts.{Edge, edge, roots, begun_in, parts}

-- a border of state s joins its cells: for units a Connected one, for potential units an undecided one too (SPEC 4.1)
unfoldable pub passes : Bool → ℕ → Bool
passes potential s = either (eqb s 1) (both potential (eqb s 0))

-- c and its neighbour in that direction, if the border between passes the test
unfoldable pub edge_at : Grid → (ℕ → Bool) → ℕ → Direction → List Edge
unfolding when goes_on border next
edge_at g pass c d = when (both (goes_on g d c) (pass (border g d c))) (edge c (next g d c))

-- all pairs of cells between which the border passes the test: row by row, down before right
unfoldable pub edges_over : Grid → (ℕ → Bool) → List Edge
unfolding gather range edge_at
edges_over g pass = gather (λ c. gather (edge_at g pass c) (Down ∷ Right ∷ [])) (range (cells g))

-- the edges that make units, or potential units, of a board whose borders have these states
abbrev pub edges : Grid → List ℕ → Bool → List Edge
edges g states potential = edges_over g (λ e. passes potential (state_of states e))

-- each cell's group, numbered from 0 by first cell (SPEC 4.1)
unfoldable pub group_ids : Grid → List ℕ → Bool → List ℕ
unfolding edges_over passes parts
group_ids g states potential = parts (cells g) (edges g states potential)

-- how many groups there are
unfoldable pub group_count : Grid → List ℕ → Bool → ℕ
unfolding edges_over passes roots begun_in
group_count g states potential = begun_in (roots (cells g) (edges g states potential)) (cells g)

-- which of n cells are in group k, in row order; `ids` has each cell's group
unfoldable pub cells_in : ℕ → List ℕ → ℕ → List ℕ
unfolding keep range
cells_in n ids k = keep (λ c. eqb (get_or ids c 0) k) (range n)

-- the cells of group k of a board
abbrev pub cells_of : Grid → List ℕ → ℕ → List ℕ
cells_of g ids k = cells_in (cells g) ids k
