-- The shape check (SPEC 4.6 to 4.12, 14.2), over group numbers that are handed in: `ids` has each cell's unit, `pids` its potential unit; and over a
-- list of images, of which translates are the first alone. Assumes nothing.
use Rattle.std.specs.Prelude.{ℕ, ◌+◌, ◌-◌, ◌*◌, Bool, true, false, not, List, [], ◌∷◌, ◌++◌, eqb, leb, ltb, get_or}
use Rattle.std.proofs.Math.Option.{Option, none, some}
use Rattle.lists.specs.Choice.{both, either, pick, give, or_else, holds, through}
use Rattle.lists.specs.Lists.{range, keep, any, all, gather, first}
use Rattle.grid.specs.declared.Direction.{Direction}
use Rattle.grid.specs.Orders.{around, forward}
use Rattle.grid.specs.declared.Grid.{Grid}
use Rattle.grid.specs.Grid.{cells, row, col, goes_on, next, border}
use Rattle.images.specs.declared.Image.{Image}
use Rattle.images.specs.Images.{direction_in, spot, spot_in}
use Rattle.borders.specs.Entry.{connected_entry, wall_entry}
use Rattle.borders.specs.Border.{state_at, stands}
use Rattle.groups.specs.Groups.{group_ids, group_count, cells_in, cells_of}
use Rattle.path.specs.Path.{path_list}
use Rattle.boundary.specs.Boundary.{ahead, unit_boundary, potential_boundary}
use Rattle.shape.specs.declared.Try.{Try}
use Rattle.shape.specs.declared.Try.TheVariants.{Passed, Good, Failed}

-- INNER WALLS
-- a Wall with one unit on both sides: the path between its cells, and then the Wall (SPEC 4.6)
unfoldable pub inner_at : Grid → List ℕ → List ℕ → ℕ → Direction → Option (List ℕ)
unfolding give stands next border path_list
inner_at g states ids c d =
    let list = path_list g states c (next g d c) ++ (wall_entry (border g d c) ∷ []) in
    give (both (stands g states 2 d c) (eqb (get_or ids c 0) (get_or ids (next g d c) 0))) list

-- the first such Wall, cell by cell, down before right (SPEC 4.6)
unfoldable pub inner_wall : Grid → List ℕ → List ℕ → Option (List ℕ)
unfolding first inner_at range
inner_wall g states ids = first (λ c. first (inner_at g states ids c) forward) (range (cells g))

-- ADJACENCY
-- a Wall of c, in that direction, has potential unit q behind it
unfoldable pub wall_to : Grid → List ℕ → List ℕ → ℕ → ℕ → Direction → Bool
unfolding stands next
wall_to g states pids q c d = both (stands g states 2 d c) (ahead g pids q c d)

-- q is behind a Wall of cell c
unfoldable pub behind : Grid → List ℕ → List ℕ → ℕ → ℕ → Bool
unfolding any wall_to
behind g states pids c q = any (wall_to g states pids q c) around

-- q is behind a Wall of one of these cells
unfoldable pub parted : Grid → List ℕ → List ℕ → List ℕ → ℕ → Bool
unfolding any behind
parted g states pids cs q = any (λ c. behind g states pids c q) cs

-- the potential units p and q are one, or a Wall lies between them (SPEC 4.7)
unfoldable pub adjacent : Grid → List ℕ → List ℕ → ℕ → ℕ → Bool
unfolding parted cells_in
adjacent g states pids p q = either (eqb p q) (parted g states pids (cells_of g pids p) q)

-- OFFSETS
-- where u falls on a line of n places when f is put on t; nothing where it leaves the line
unfoldable pub along : ℕ → ℕ → ℕ → ℕ → Option ℕ
unfolding give
along n f t u = give (both (leb f (u + t)) (ltb (u + t - f) n)) (u + t - f)

-- the cell on which image m puts c when it puts f on t; nothing where c leaves the board (SPEC 4.8, 14.2)
unfoldable pub place : Image → Grid → ℕ → ℕ → ℕ → Option ℕ
unfolding through along
place m g f t c =
    let from = spot_in g m (spot g f) in
    let at = spot_in g m (spot g c) in
    through (along g.height from.row (row g t) at.row) (λ y. through (along g.width from.col (col g t) at.col) (λ x. some (y * g.width + x)))

-- an offset: where it puts each cell, and which way a direction goes
pub record Offset : Type 0 where
  pub put : ℕ → Option ℕ
  pub turn : Direction → Direction

-- image m, moved so that f is put on t
abbrev pub offset : Image → Grid → ℕ → ℕ → Offset
offset m g f t = record { put = place m g f t; turn = direction_in m }

-- a unit: its number, its cells in row order, the first of them, and its own potential unit, the one around it
pub record UnitInfo : Type 0 where
  pub number : ℕ
  pub cells : List ℕ
  pub first : ℕ
  pub own : ℕ

unfoldable pub head_or0 : List ℕ → ℕ
head_or0 [] = 0
head_or0 (c ∷ cs) = c

-- unit k
unfoldable pub unit_of : Grid → List ℕ → List ℕ → ℕ → UnitInfo
unfolding cells_in head_or0
unit_of g ids pids k =
    let cs = cells_of g ids k in
    let f = head_or0 cs in
    record { number = k; cells = cs; first = f; own = get_or pids f 0 }

-- c falls on the board and off the unit (SPEC 4.8); `put` gives the cell on which a cell falls
unfoldable pub falls : List ℕ → UnitInfo → (ℕ → Option ℕ) → ℕ → Bool
unfolding holds
falls ids u put c = holds (put c) (λ x. not (eqb (get_or ids x 0) u.number))

-- c falls in a potential unit adjacent to the unit's own (SPEC 4.8)
unfoldable pub meets : Grid → List ℕ → List ℕ → UnitInfo → (ℕ → Option ℕ) → ℕ → Bool
unfolding holds adjacent
meets g states pids u put c = holds (put c) (λ x. adjacent g states pids u.own (get_or pids x 0))

-- an inner border: both its cells are in the unit, decided or not (SPEC 4.9)
unfoldable pub inner_border : Grid → List ℕ → UnitInfo → ℕ → Direction → Bool
unfolding goes_on next
inner_border g ids u c d = both (goes_on g d c) (ahead g ids u.number c d)

-- a Wall, or an edge of the board, at c (SPEC 4.9)
unfoldable pub shut : Grid → List ℕ → ℕ → Direction → Bool
unfolding goes_on state_at
shut g states c d = either (not (goes_on g d c)) (eqb (state_at g states d c) 2)

-- an inner border lands on a Wall: that Wall's entry (SPEC 4.9)
unfoldable pub on_wall : Grid → List ℕ → List ℕ → UnitInfo → Offset → ℕ → Direction → Option ℕ
unfolding through give inner_border stands border
on_wall g states ids u o c d = through (o.put c) (λ x. give (both (inner_border g ids u c d) (stands g states 2 (o.turn d) x)) (wall_entry (border g (o.turn d) x)))

-- a Wall or an edge lands on a Connected border: that border's entry (SPEC 4.9); one that lands outside the board is skipped
unfoldable pub on_connected : Grid → List ℕ → Offset → ℕ → Direction → Option ℕ
unfolding through give shut stands border
on_connected g states o c d = through (o.put c) (λ x. give (both (shut g states c d) (stands g states 1 (o.turn d) x)) (connected_entry (border g (o.turn d) x)))

-- the first landing that fails (SPEC 4.9): inner borders, cell by cell down, right; then Walls and edges, cell by cell up, down, left, right
unfoldable pub landing : Grid → List ℕ → List ℕ → UnitInfo → Offset → Option ℕ
unfolding or_else first on_wall on_connected
landing g states ids u o =
    or_else
    (first (λ c. first (on_wall g states ids u o c) forward) u.cells)
    (first (λ c. first (on_connected g states o c) around) u.cells)

-- what comes of an offset that is not passed over
unfoldable pub landed : Option ℕ → Try
landed none = Good
landed (some l) = Failed l

-- what comes of an offset (SPEC 4.8, 4.9)
unfoldable pub try : Grid → List ℕ → List ℕ → List ℕ → UnitInfo → Offset → Try
unfolding all any falls meets landed landing
try g states ids pids u o =
    pick (both (all (falls ids u o.put) u.cells) (any (meets g states pids u o.put) u.cells)) (landed (landing g states ids u o)) Passed

unfoldable pub is_good : Try → Bool
is_good Passed = false
is_good Good = true
is_good (Failed l) = false

unfoldable pub entry_of : Try → List ℕ
entry_of Passed = []
entry_of Good = []
entry_of (Failed l) = l ∷ []

-- UNITS
-- the offset of an image that puts the unit's first cell on t (SPEC 4.8)
unfoldable pub try_at : Image → Grid → List ℕ → List ℕ → List ℕ → UnitInfo → ℕ → Try
unfolding try place
try_at m g states ids pids u t = try g states ids pids u (offset m g u.first t)

-- one of its offsets is good
unfoldable pub fits_by : Grid → List ℕ → List ℕ → List ℕ → UnitInfo → Image → Bool
unfolding any is_good try_at range
fits_by g states ids pids u m = any (λ t. is_good (try_at m g states ids pids u t)) (range (cells g))

-- the unit has a good offset
unfoldable pub fits : List Image → Grid → List ℕ → List ℕ → List ℕ → UnitInfo → Bool
unfolding any fits_by
fits ms g states ids pids u = any (fits_by g states ids pids u) ms

-- an image's failed landings, in the order of the offsets
unfoldable pub failures_by : Grid → List ℕ → List ℕ → List ℕ → UnitInfo → Image → List ℕ
unfolding gather entry_of try_at range
failures_by g states ids pids u m = gather (λ t. entry_of (try_at m g states ids pids u t)) (range (cells g))

-- the failed landings, image by image (SPEC 4.11, 14.2)
unfoldable pub failures : List Image → Grid → List ℕ → List ℕ → List ℕ → UnitInfo → List ℕ
unfolding gather failures_by
failures ms g states ids pids u = gather (failures_by g states ids pids u) ms

-- the unit's boundary list, then those of the potential units adjacent to its own, in rising number (SPEC 4.11); there are n potential units
unfoldable pub boundaries : Grid → List ℕ → List ℕ → List ℕ → ℕ → UnitInfo → List ℕ
unfolding unit_boundary potential_boundary gather keep adjacent range
boundaries g states ids pids n u =
    unit_boundary g states ids u.number ++ gather (potential_boundary g states pids) (keep (adjacent g states pids u.own) (range n))

-- a unit without a good offset is a fault (SPEC 4.11)
unfoldable pub unit_fault : List Image → Grid → List ℕ → List ℕ → List ℕ → ℕ → ℕ → Option (List ℕ)
unfolding give fits failures boundaries unit_of
unit_fault ms g states ids pids n k =
    let u = unit_of g ids pids k in
    let list = failures ms g states ids pids u ++ boundaries g states ids pids n u in
    give (not (fits ms g states ids pids u)) list

-- THE CHECK
-- an inner Wall, else the first unit at fault (SPEC 4.8, 4.12); m units and n potential units
unfoldable pub fault_in : List Image → Grid → List ℕ → List ℕ → List ℕ → ℕ → ℕ → Option (List ℕ)
unfolding or_else inner_wall first unit_fault range
fault_in ms g states ids pids m n = or_else (inner_wall g states ids) (first (unit_fault ms g states ids pids n) (range m))

-- the list of a fault, or nothing where the board is clear
unfoldable pub shape_fault : List Image → Grid → List ℕ → Option (List ℕ)
unfolding fault_in group_ids group_count
shape_fault ms g states = fault_in ms g states (group_ids g states false) (group_ids g states true) (group_count g states false) (group_count g states true)
