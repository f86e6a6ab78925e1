-- Given walls, rooms and clues (SPEC 1.7). A puzzle's constants are its grid, its given walls and its clues. Assumes nothing.
use Rattle.std.specs.Prelude.{ℕ, Bool, not, List, eqb, get_or}
use Rattle.limits.specs.Limits.{no_clue}
use Rattle.lists.specs.Lists.{any}
use Rattle.grid.specs.declared.Grid.{Grid}
use Rattle.grid.specs.Grid.{cells}
use Rattle.parts.specs.Parts.{Edge, parts, roots, begun_in}
use Rattle.groups.specs.Groups.{edges_over, cells_of}

-- e is a given wall
unfoldable pub is_given : List ℕ → ℕ → Bool
unfolding any
is_given given e = any (eqb e) given

-- cells are joined where no given wall parts them (SPEC 1.7)
abbrev pub room_edges : Grid → List ℕ → List Edge
room_edges g given = edges_over g (λ e. not (is_given given e))

-- each cell's room, numbered from 0 by first cell (SPEC 1.7)
unfoldable pub room_ids : Grid → List ℕ → List ℕ
unfolding edges_over is_given parts
room_ids g given = parts (cells g) (room_edges g given)

unfoldable pub room_count : Grid → List ℕ → ℕ
unfolding edges_over is_given roots begun_in
room_count g given = begun_in (roots (cells g) (room_edges g given)) (cells g)

-- the cells of room r, in row order
abbrev pub room_cells : Grid → List ℕ → ℕ → List ℕ
room_cells g given r = cells_of g (room_ids g given) r

-- the clue of room r
abbrev pub clue_of : List ℕ → ℕ → ℕ
clue_of clues r = get_or clues r no_clue

-- the room has a clue (SPEC 1.7)
abbrev pub clued : List ℕ → ℕ → Bool
clued clues r = not (eqb (clue_of clues r) no_clue)
