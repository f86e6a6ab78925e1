-- A PUZZLE'S ASK NEVER MEETS A COUNT ABOVE THE VERTICES (SPEC 15.3): what it finds is what it would find if the graph of each clued room were put to the
-- lone room check. Assumes nothing.
use Prim.Native.Nat.{ℕ, ◌<◌}
use mathlib.Core.Path.{◌≡◌, refl, ap}
use mathlib.Core.Bool.{Bool, true, false}
use mathlib.Core.List.{List, map}
use mathlib.Core.Option.{Option, none, some}
use Rattle.lists.specs.Choice.{pick, or_else, through}
use Rattle.lists.specs.Lists.{range, first}
use Rattle.lists.proofs.ListLaws.{in_range}
use Rattle.grid.specs.declared.Grid.{Grid}
use Rattle.borders.specs.Border.{state_of}
use Rattle.borders.proofs.Congruence.{first_same}
use Rattle.images.specs.declared.Image.{Image}
use Rattle.shape.specs.Shape.{shape_fault}
use Rattle.city_count.specs.Fault.{lone_fault}
use Rattle.rooms.specs.Rooms.{is_given, room_count, room_cells, clued, clue_of}
use Rattle.rooms.specs.RoomGraph.{room_graph, room_borders, edge_state, on_board}
use Rattle.clues.specs.Clues.{lists_code}
use Rattle.clues.proofs.Alone.{list_alone}
use Rattle.puzzle.specs.declared.Puzzle.{Puzzle}
use Rattle.puzzle.specs.declared.Check.TheVariants.{Shape, Room}
use Rattle.puzzle.specs.Kind.{images_of}
use Rattle.puzzle.specs.Fault.{Found, found_by, room_check, fault_of}
use Rattle.puzzle.specs.Puzzle.{grid_of, given_of, clues_of, book_of, puzzle_code, fault_in}
use Rattle.puzzle.proofs.Ready.{ready}

where_true : (t : Bool) {a b : Option Found} → (t ≡ true → a ≡ b) → pick t a none ≡ pick t b none
where_true true h = h refl
where_true false h = refl

module _ (g : Grid) (given clues states : List ℕ) where
  -- what the lone room check finds on the graph of a clued room, its list in the board's border numbers
  abbrev pub lone_check : ℕ → Option Found
  lone_check r =
      let cells = room_cells g given r in
      let borders = room_borders g (is_given given) cells in
      let found = lone_fault (room_graph g (is_given given) cells) (clue_of clues r) (edge_state borders (state_of states)) in
      pick (clued clues r) (found_by (Room r) (through found (λ l. some (map (on_board borders) l)))) none

  room_by_lone : lists_code g given clues ≡ 0 → (r : ℕ) → r < room_count g given → room_check g given clues states r ≡ lone_check r
  unfolding room_check
  room_by_lone accepted r exists = where_true (clued clues r) (λ q. ap (found_by (Room r)) (list_alone g given clues accepted r exists q (state_of states)))

  -- of lists that questions 3, 7, 8 and 9 accept
  pub by_lone_checks : lists_code g given clues ≡ 0 → (ms : List Image)
      → fault_of ms g given clues states ≡ or_else (found_by Shape (shape_fault ms g states)) (first lone_check (range (room_count g given)))
  unfolding fault_of
  by_lone_checks accepted ms =
      ap (or_else (found_by Shape (shape_fault ms g states)))
      (first_same (room_check g given clues states) lone_check (range (room_count g given)) (λ r m. room_by_lone accepted r (in_range (room_count g given) r m)))

-- of every record that questions 1 and 2 accept
pub ask_by_lone_checks : (p : Puzzle) → puzzle_code p ≡ 0
    → fault_in p
    ≡ or_else (found_by Shape (shape_fault (images_of p.kind) (grid_of p) (book_of p).states))
    (first (lone_check (grid_of p) (given_of p) (clues_of p) (book_of p).states) (range (room_count (grid_of p) (given_of p))))
ask_by_lone_checks p accepted = by_lone_checks (grid_of p) (given_of p) (clues_of p) (book_of p).states (ready p accepted).lists (images_of p.kind)
