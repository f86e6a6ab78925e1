-- A PUZZLE'S ASK NEVER MEETS A COUNT ABOVE THE VERTICES (SPEC 15.3): question 9 keeps each clue at most its room's cells, the vertices of the room's
-- graph. So what the ask lists of a room is what the lone room check finds on that graph. Assumes nothing.
use Prim.Native.Nat.{ℕ, ◌≤◌, ◌<◌}
use mathlib.Core.Path.{◌≡◌, sym}
use mathlib.Core.Bool.{true}
use mathlib.Core.List.{List, map}
use mathlib.Core.Option.{some}
use Rattle.lists.specs.Choice.{through}
use Rattle.grid.specs.declared.Grid.{Grid}
use Rattle.room_parts.specs.Graph.{Graph}
use Rattle.city_count.specs.Fault.{lone_fault}
use Rattle.city_count.proofs.LoneLaws.{lone_within}
use Rattle.rooms.specs.Rooms.{is_given, room_count, room_cells, clued, clue_of}
use Rattle.rooms.specs.RoomGraph.{room_graph, room_borders, edge_state, on_board, room_list}
use Rattle.clues.specs.Clues.{lists_code}
use Rattle.clues.proofs.Fitting.{lists_fit}

module _ (g : Grid) (given clues : List ℕ) (accepted : lists_code g given clues ≡ 0) (r : ℕ) (exists : r < room_count g given) (has_clue : clued clues r ≡ true) where
  abbrev graph : Graph
  graph = room_graph g (is_given given) (room_cells g given r)

  abbrev borders : List ℕ
  borders = room_borders g (is_given given) (room_cells g given r)

  pub clue_within : clue_of clues r ≤ (room_graph g (is_given given) (room_cells g given r)).vertices
  unfolding room_graph
  clue_within = (lists_fit g given clues accepted).small r exists has_clue

  -- the ask's list, by the lone room check
  pub list_alone : (s : ℕ → ℕ) → room_list g (is_given given) (room_cells g given r) (clue_of clues r) s
      ≡ through (lone_fault graph (clue_of clues r) (edge_state borders s)) (λ l. some (map (on_board borders) l))
  unfolding room_list
  list_alone s = rw (sym (lone_within graph (clue_of clues r) (edge_state borders s) clue_within))
