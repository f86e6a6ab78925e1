-- What the functions ask and promise that join a board's cells row by row, each to the cells on its left and above it. Assumes nothing.
use Rattle.std.specs.Prelude.{ℕ, zero, suc, ◌+◌, ◌-◌, ◌≤◌, ◌≡◌, Bool, List, [], ◌∷◌, get_or, length}
use Rattle.lists.specs.Choice.{both, pick}
use Rattle.grid.specs.declared.Direction.{Direction}
use Rattle.grid.specs.declared.Direction.TheVariants.{Up, Left}
use Rattle.grid.specs.declared.Grid.{Grid}
use Rattle.grid.specs.Grid.{cells, Cell, row, col, goes_on, next, border}
use Rattle.borders.specs.Border.{state_of}
use Rattle.parts.specs.Parts.{Edge, edge, root}
use Rattle.parts.specs.Forest.{Forest}
use Rattle.groups.specs.Groups.{passes}
use Rattle.groups.specs.Lent.{Fits}

-- c has a border in that direction, and it joins
unfoldable pub joins : Grid → List ℕ → Bool → Direction → ℕ → Bool
joins g st p d c = both (goes_on g d c) (passes p (state_of st (border g d c)))

-- E, and the edge between c and its neighbour in that direction, if the border there joins
unfoldable pub and_edge : Grid → List ℕ → Bool → Direction → ℕ → List Edge → List Edge
unfolding joins next
and_edge g st p d c E = pick (joins g st p d c) (edge (next g d c) c ∷ E) E

-- the edges between the cells before c
unfoldable pub edges_before : Grid → List ℕ → Bool → ℕ → List Edge
unfolding and_edge
edges_before g st p zero = []
edges_before g st p (suc c) = and_edge g st p Up c (and_edge g st p Left c (edges_before g st p c))

-- and the edge between c and the cell on its left
abbrev pub with_left : Grid → List ℕ → Bool → ℕ → List Edge
with_left g st p c = and_edge g st p Left c (edges_before g st p c)

-- c, at row y and column x, is to be joined; the part of the cell on its left begins with f
pub record Joining (g : Grid) (st : List ℕ) (p : Bool) (y x c f : ℕ) : Type 0 where
  pub fits : Fits g st
  pub cell : Cell g c
  pub row_is : y ≡ row g c
  pub col_is : x ≡ col g c
  pub first_is : 1 ≤ x → f ≡ root (edges_before g st p c) (c - 1)

-- all cells before it are joined
pub record JoinedBefore (g : Grid) (st : List ℕ) (p : Bool) (c : ℕ) (up : List ℕ) : Type 0 where
  pub long : cells g ≤ length up
  pub forest : Forest (edges_before g st p c) c up

-- it is joined to the cell on its left, and hangs from f, the first of their part
pub record JoinedLeft (g : Grid) (st : List ℕ) (p : Bool) (c f : ℕ) (up : List ℕ) : Type 0 where
  pub fits : Fits g st
  pub cell : Cell g c
  pub long : cells g ≤ length up
  pub forest : Forest (with_left g st p c) (c + 1) up
  pub first_is : f ≡ root (with_left g st p c) c

-- places behind the first n are as they were
pub record Behind (n : ℕ) (xs xs' : List ℕ) : Type 0 where
  pub rest : (c : ℕ) → n ≤ c → get_or xs' c 0 ≡ get_or xs c 0
  pub size : length xs' ≡ length xs

-- all cells before c are joined now, and nothing behind the board has changed
pub record JoinedOn (g : Grid) (st : List ℕ) (p : Bool) (c : ℕ) (up up' : List ℕ) : Type 0 where
  pub forest : Forest (edges_before g st p c) c up'
  pub behind : Behind (cells g) up up'

-- it is joined, its part begins with f, and nothing behind it has changed
pub record Hung (g : Grid) (st : List ℕ) (p : Bool) (c : ℕ) (up up' : List ℕ) (f : ℕ) : Type 0 where
  pub forest : Forest (edges_before g st p (c + 1)) (c + 1) up'
  pub first_is : f ≡ root (edges_before g st p (c + 1)) c
  pub behind : Behind (c + 1) up up'
