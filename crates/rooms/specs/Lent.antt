-- What the functions over lent slices ask and promise. Assumes nothing.
use Rattle.std.specs.Prelude.{ℕ, suc, ◌*◌, ◌≤◌, ◌<◌, ◌≡◌, Bool, not, List, [], ◌∷◌, map, eqb, length, get_or, set, replicate, Option, Some, None}
use Rattle.lists.specs.Choice.{pick}
use Rattle.std.proofs.lemmas.List.Edits.{sets}
use Rattle.limits.specs.Limits.{most_borders, most_cells}
use Rattle.lists.specs.Lists.{In}
use Rattle.lists.specs.Writes.{Below}
use Rattle.grid.specs.declared.Grid.{Grid}
use Rattle.grid.specs.Grid.{Limits, Cell, cells, border_count, next, border}
use Rattle.grid.specs.declared.Direction.{Direction}
use Rattle.grid.specs.declared.Neighbour.{Neighbour}
use Rattle.groups.specs.Turn.{sizes_of}
use Rattle.rooms.specs.Rooms.{room_ids, room_count}
use Rattle.rooms.specs.RoomGraph.{in_room, spots, from_of, into_of, border_of}

-- arrays with nothing written: marks of borders, vertices of cells, n edges
unfoldable pub unmarked : List ℕ
unmarked = replicate most_borders 0

unfoldable pub nowhere : List ℕ
nowhere = replicate most_cells 0

abbrev pub blank : ℕ → List ℕ
blank n = replicate n 0

-- k at the first of the places, and one more at each of the next
unfoldable pub numbered : List ℕ → ℕ → List ℕ → List ℕ
numbered [] k xs = xs
numbered (c ∷ cs) k xs = numbered cs (suc k) (set xs c k)

-- given walls of a board within the limits
pub record Given (g : Grid) (given : List ℕ) : Type 0 where
  pub limits : Limits g
  pub below : Below (border_count g) given

-- a place for each border, and 0 in all places
pub record Blank (g : Grid) (xs : List ℕ) : Type 0 where
  pub long : border_count g ≤ length xs
  pub zeros : (e : ℕ) → get_or xs e 0 ≡ 0

-- a place for each cell in both slices
pub record Places (g : Grid) (ids sizes : List ℕ) : Type 0 where
  pub ids_long : cells g ≤ length ids
  pub sizes_long : cells g ≤ length sizes

-- each cell's room and each room's size stand at the fronts of the slices; `count` is how many rooms there are
pub record Roomed (g : Grid) (given ids sizes ids' sizes' : List ℕ) (count : ℕ) : Type 0 where
  pub count_is : count ≡ room_count g given
  pub ids_are : ids' ≡ sets ids 0 (room_ids g given)
  pub sizes_are : sizes' ≡ sets sizes 0 (sizes_of (cells g) (room_ids g given) (room_count g given))

-- not 0 at the place: a border's mark, or a cell's vertex
abbrev pub marked_in : List ℕ → ℕ → Bool
marked_in marks e = not (eqb (get_or marks e 0) 0)

-- the edge there, or none
abbrev pub edge_of : Grid → List ℕ → List ℕ → ℕ → Direction → Option Neighbour
edge_of g marks vertex c d =
    pick (in_room g (marked_in marks) (marked_in vertex) c d) (Some (record { cell = next g d c; border = border g d c })) None

-- the cell there has its place and its vertex, and the border between its place
pub record There (g : Grid) (vertex : List ℕ) (n : Neighbour) : Type 0 where
  pub cell_lt : n.cell < most_cells
  pub has_vertex : 1 ≤ get_or vertex n.cell 0
  pub border_lt : n.border < border_count g
  pub border_most : n.border < most_borders

-- each is greater than the one before
abbrev pub Rising : List ℕ → Type 0
Rising xs = (i j : ℕ) → i < j → j < length xs → get_or xs i 0 < get_or xs j 0

-- a mark and a state for each border, and cells of the board in row order
pub record Housed (g : Grid) (marks states cs : List ℕ) : Type 0 where
  pub limits : Limits g
  pub marks_long : border_count g ≤ length marks
  pub states_long : border_count g ≤ length states
  pub few_cells : length cs ≤ cells g
  pub inside : (c : ℕ) → In c cs → Cell g c
  pub rising : Rising cs

-- the ends and states of a room's edges stand at the fronts; `count` is how many there are
pub record Written (g : Grid) (given : ℕ → Bool) (states cs us vs here us' vs' here' : List ℕ) (count : ℕ) : Type 0 where
  pub count_is : count ≡ length (spots g given cs)
  pub few : count ≤ 2 * length cs
  pub us_are : us' ≡ sets us 0 (map (from_of cs) (spots g given cs))
  pub vs_are : vs' ≡ sets vs 0 (map (into_of g cs) (spots g given cs))
  pub here_are : here' ≡ sets here 0 (map (λ s. get_or states (border_of g s) 0) (spots g given cs))
