-- THE THEOREMS of a room's count on a board, where border e has the state s e: its list, in board border numbers, stands as listed; wherever
-- it stands there is a fault; on a full board with the given walls it is clear exactly if the room holds as many units as counted. Assumes nothing.
use Prim.Native.Nat.{ℕ, ◌+◌, ◌*◌, ◌/◌, ◌%◌, ◌≤◌, ◌<◌}
use mathlib.Core.Path.{◌≡◌, ap, sym, ◌∙◌}
use mathlib.Core.Logic.{◌⊎◌, ⊎_elim, ◌↔◌}
use mathlib.Core.List.{List, map}
use mathlib.Core.Option.{Option, none, some, some-injective, some-ne-none}
use native.Mathlib.Omega.{arith}
use lib.ListN.{length, get_or, length-map}
use Rattle.lists.specs.Choice.{through}
use Rattle.lists.specs.Lists.{gather}
use Rattle.lists.proofs.ChoiceLaws.{through_some, none_or_some}
use Rattle.frame.specs.Frame.{States}
use Rattle.grid.specs.declared.Grid.{Grid}
use Rattle.grid.specs.Grid.{cells, border_count}
use Rattle.grid.specs.Orders.{forward}
use Rattle.grid.proofs.Geometry.{border_lt}
use Rattle.borders.specs.Entry.{Stands, Standing}
use Rattle.boundary.proofs.Lengths.{when_most, gather_most}
use Rattle.boundary.proofs.BoundaryLaws.{cells_most}
use Rattle.room_parts.specs.Graph.{Graph}
use Rattle.city_count.specs.Fault.{room_fault}
use Rattle.rooms.specs.Rooms.{is_given, room_ids, room_cells}
use Rattle.rooms.specs.RoomGraph.{is_in, in_room, spots_at, spots, room_borders, room_graph, edge_state, on_board, room_list}
use Rattle.rooms.specs.Units.{GivenWalls, InRoom, HoldsUnits}
use Rattle.city_count.proofs.FaultLaws.{room_listed, room_short, room_again, room_decides, room_agrees}
use Rattle.rooms.proofs.Places.{in_map, map_in}
use Rattle.rooms.proofs.RoomUnits.{edge_at, room_units}

-- an entry stands on the board exactly if the graph's stands
entry_border : (borders : List ℕ) (l : ℕ) → on_board borders l / 2 ≡ get_or borders (l / 2) 0
entry_border borders l = let x : ℕ = get_or borders (l / 2) 0 in let e : (2 * x + l % 2) / 2 ≡ x = omega arith in e

entry_kind : (borders : List ℕ) (l : ℕ) → on_board borders l % 2 ≡ l % 2
entry_kind borders l = let x : ℕ = get_or borders (l / 2) 0 in let e : (2 * x + l % 2) % 2 ≡ l % 2 = omega arith in e

on_board_lem : (borders : List ℕ) (s : States) (l : ℕ) → Stands s (on_board borders l) ↔ Stands (edge_state borders s) l
on_board_lem borders s l = (
  λ q. ap s (sym (entry_border borders l)) ∙ q ∙ ap (λ x. x + 1) (entry_kind borders l),
  λ q. ap s (entry_border borders l) ∙ q ∙ ap (λ x. x + 1) (sym (entry_kind borders l)),
)

module _ (g : Grid) (given : List ℕ) (r count : ℕ) where
  abbrev graph : Graph
  graph = room_graph g (is_given given) (room_cells g given r)

  abbrev borders : List ℕ
  borders = room_borders g (is_given given) (room_cells g given r)

  abbrev fault : States → Option (List ℕ)
  fault s = room_fault graph count (edge_state borders s)

  abbrev list : States → Option (List ℕ)
  list s = room_list g (is_given given) (room_cells g given r) count s

  list_some : (s : States) (L : List ℕ) → list s ≡ some L → (l : List ℕ) × (fault s ≡ some l) × (L ≡ map (on_board borders) l)
  unfolding room_list
  list_some s L q =
      let o = through_some (fault s) (λ l. some (map (on_board borders) l)) L q in (o.0, o.1, sym (some-injective _ L o.2))

  some_list : (s : States) (l : List ℕ) → fault s ≡ some l → list s ≡ some (map (on_board borders) l)
  unfolding room_list through
  some_list s l q = rw q

  none_list : (s : States) → fault s ≡ none → list s ≡ none
  unfolding room_list through
  none_list s q = rw q

  list_none : (s : States) → list s ≡ none → fault s ≡ none
  list_none s q =
      ⊎_elim
      (λ z. z)
      (λ (o : (l : List ℕ) × (fault s ≡ some l)). absurd (some-ne-none (map (on_board borders) o.0) (sym (some_list s o.0 o.1) ∙ q)))
      (none_or_some (fault s))

  -- the border of an edge is one of the board's
  edge_border : (i : ℕ) → i < graph.edges → get_or borders i 0 < border_count g
  edge_border i l = let e = edge_at g given r i l in rw e.border_is (border_lt g e.spot.direction e.spot.cell _ _ e.inside.step)

  -- (1) the answer depends on the board's borders alone
  pub list_agrees : (s t : States) → ((e : ℕ) → e < border_count g → s e ≡ t e) → room_list g (is_given given) (room_cells g given r) count s ≡ room_list g (is_given given) (room_cells g given r) count t
  unfolding room_list
  list_agrees s t agree =
      ap (λ (o : Option (List ℕ)). through o (λ l. some (map (on_board borders) l)))
      (room_agrees graph count (edge_state borders s) (edge_state borders t) (λ i l. agree (get_or borders i 0) (edge_border i l)))

  -- (2) each listed entry stands as listed
  pub list_stands : (s : States) (L : List ℕ) → room_list g (is_given given) (room_cells g given r) count s ≡ some L → Standing s L
  list_stands s L q x m =
      let o = list_some s L q in
      let y = in_map (on_board borders) o.0 x (rw o.2 at m) in
      rw y.2 ((on_board_lem borders s y.0).1 (room_listed graph count (edge_state borders s) o.0 o.1 y.0 y.1))

  -- (3) wherever the list stands, whatever else stands, there is a fault
  pub list_again : (s : States) (L : List ℕ) → room_list g (is_given given) (room_cells g given r) count s ≡ some L → (t : States) → Standing t L
      → (M : List ℕ) × (room_list g (is_given given) (room_cells g given r) count t ≡ some M)
  list_again s L q t stood =
      let o = list_some s L q in
      let m =
      room_again graph count (edge_state borders s) o.0 o.1 (edge_state borders t)
      (λ x i. (on_board_lem borders t x).0 (stood (on_board borders x) (rw o.2 (map_in (on_board borders) o.0 x i)))) in
      (map (on_board borders) m.0, some_list t m.0 m.1)

  -- (4) on a full board with the given walls there is no fault exactly if the room holds as many units as counted
  pub list_decides : (s : States) → GivenWalls given s → ((e : ℕ) → e < border_count g → (s e ≡ 1) ⊎ (s e ≡ 2)) → count ≤ length (room_cells g given r)
      → (room_list g (is_given given) (room_cells g given r) count s ≡ none) ↔ HoldsUnits g s (InRoom g given r) count
  unfolding room_graph
  list_decides s walls full small =
      let decides = room_decides graph count (edge_state borders s) small (λ i l. full (get_or borders i 0) (edge_border i l)) in
      let units = room_units g given r s walls count in
      (λ q. units.0 (decides.0 (list_none s q)), λ o. none_list s (decides.1 (units.1 o)))

  -- (5) a room has at most two edges a cell, and so many entries at most
  pub edges_most : (room_graph g (is_given given) (room_cells g given r)).edges ≤ 2 * cells g
  unfolding room_graph spots spots_at
  edges_most =
      let two : (c : ℕ) → length (gather (spots_at g (is_given given) (room_cells g given r) c) forward) ≤ 2 =
      λ c.
      gather_most (spots_at g (is_given given) (room_cells g given r) c) 1 (λ d. when_most (in_room g (is_given given) (is_in (room_cells g given r)) c d) (record { cell = c; direction = d })) forward in
      omega (arith, gather_most (λ c. gather (spots_at g (is_given given) (room_cells g given r) c) forward) 2 two (room_cells g given r), cells_most g (room_ids g given) r)

  pub list_short : (s : States) (L : List ℕ) → room_list g (is_given given) (room_cells g given r) count s ≡ some L → length L ≤ 2 * cells g
  list_short s L q =
      let o = list_some s L q in
      rw o.2 (simp length-map (omega (arith, room_short graph count (edge_state borders s) o.0 o.1, edges_most)))
