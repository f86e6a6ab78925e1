-- The count of a room over slices: the graph and the states in longer arrays fail on the same side. What is listed then is the room's list. Assumes nothing.
use Prim.Native.Nat.{ℕ, zero, suc, ◌+◌, ◌*◌, ◌/◌, ◌%◌, ◌≤◌, ◌<◌}
use mathlib.Core.Path.{◌≡◌, refl, ap, sym, ◌∙◌}
use mathlib.Core.Bool.{Bool, true, false}
use mathlib.Core.List.{List, [], ◌∷◌, ◌++◌, map}
use mathlib.Core.Option.{some}
use native.Mathlib.Omega.{arith}
use lib.Dec.{eqb, ltb}
use lib.ListN.{length, get_or, take, length-map, length-replicate}
use lib.Seq.{sets}
use Rattle.limits.specs.Limits.{most_borders}
use Rattle.lists.specs.Choice.{pick, when, give, or_else, through}
use Rattle.lists.specs.Lists.{In, count_from, range, gather}
use Rattle.lists.proofs.SetsLaws.{front}
use Rattle.grid.specs.declared.Grid.{Grid}
use Rattle.grid.proofs.Geometry.{border_count_le}
use Rattle.borders.specs.Border.{state_of}
use Rattle.borders.specs.Entry.{entry_of, connected_entry, wall_entry}
use Rattle.room_parts.specs.Graph.{Graph, graph, graph_of, states_in, is_connected, not_wall, edges_if, parts_if, joined_parts, tipped_of, failing_of, Lent}
use Rattle.city_count.specs.Fault.{entries_of, room_fault}
use Rattle.std.specs.Prelude.{Some, None}
use Rattle.rooms.specs.RoomGraph.{Spot, spots, from_of, into_of, border_of, room_graph, room_borders, edge_state, on_board, room_list, side_of, kind_of, room_entries, side_list}
use Rattle.rooms.specs.Lent.{blank, marked_in, Housed, Written}
use Rattle.rooms.proofs.Places.{at_place, place_of}
use Rattle.rooms.proofs.FewEdges.{edges_few, spot_ends}
use Rattle.rooms.proofs.HouseLaws.{few}

-- GRAPHS THAT ARE THE SAME WHERE IT MATTERS
module _ (g h : Graph) (s t : ℕ → ℕ) (vertices : g.vertices ≡ h.vertices) (edges : g.edges ≡ h.edges)
    (us : (i : ℕ) → i < h.edges → get_or g.us i 0 ≡ get_or h.us i 0) (vs : (i : ℕ) → i < h.edges → get_or g.vs i 0 ≡ get_or h.vs i 0)
    (states : (i : ℕ) → i < h.edges → s i ≡ t i) where
  edges_same : (p : ℕ → Bool) (m : ℕ) → m ≤ h.edges → edges_if p g s m ≡ edges_if p h t m
  unfolding edges_if
  edges_same p zero l = refl
  edges_same p (suc m) l = cc (us m l, vs m l, states m l, edges_same p m (omega arith))

  parts_same : (p : ℕ → Bool) → parts_if p g s ≡ parts_if p h t
  unfolding parts_if
  parts_same p = cc (vertices, edges, edges_same p h.edges (omega arith))

  side_same : (count : ℕ) → side_of g count s ≡ side_of h count t
  unfolding side_of tipped_of
  side_same count = cc (vertices, parts_same is_connected, parts_same not_wall)

-- THE ROOM'S GRAPH IN ARRAYS
module _ (n : ℕ) (g : Grid) (marks states cs : List ℕ) (w : Housed g marks states cs) (room : 2 * length cs ≤ n) (us vs here : List ℕ) (m : ℕ)
    (o : Written g (marked_in marks) states cs (blank n) (blank n) (blank n) us vs here m) where
  abbrev ss : List Spot
  ss = spots g (marked_in marks) cs

  few_edges : length ss ≤ most_borders
  few_edges = omega (arith, edges_few g (marked_in marks) cs w.inside w.rising, border_count_le g w.limits)

  -- what stands in front
  front_is : (f : Spot → ℕ) {l : List ℕ} → l ≡ sets (blank n) 0 (map f ss) → take m l ≡ map f ss
  front_is f e =
      let k : length (map f ss) ≡ m = omega (arith, length-map ss f, o.count_is) in
      rw (e, ← k) (front (blank n) (map f ss) (omega (arith, k, o.few, room, length-replicate {A = ℕ} n 0)))

  us_are : take m us ≡ map (from_of cs) ss
  us_are = front_is (from_of cs) o.us_are

  vs_are : take m vs ≡ map (into_of g cs) ss
  vs_are = front_is (into_of g cs) o.vs_are

  here_are : take m here ≡ map (λ s. get_or states (border_of g s) 0) ss
  here_are = front_is (λ s. get_or states (border_of g s) 0) o.here_are

  -- the ends of each edge are vertices
  end_lt : (f : Spot → ℕ) → ((s : Spot) → In s ss → f s < length cs) → (i : ℕ) → i < length ss → get_or (map f ss) i 0 < length cs
  end_lt f h i k = let x = at_place ss i k in rw (x.2 f) (h x.0 x.1)

  pub array_lent : Lent (length cs) (length (take m here)) (take m us) (take m vs) (take m here)
  array_lent =
      rw
      (us_are, vs_are, here_are, length-map ss (λ s. get_or states (border_of g s) 0))
      (record {
        few_vertices = few w;
        few_edges = few_edges;
        us_long = omega (arith, length-map ss (from_of cs));
        vs_long = omega (arith, length-map ss (into_of g cs));
        states_long = omega (arith, length-map ss (λ s. get_or states (border_of g s) 0));
        us_exist = end_lt (from_of cs) (λ s i. (place_of cs _ (spot_ends g (marked_in marks) cs s i).0).0);
        vs_exist = end_lt (into_of g cs) (λ s i. (place_of cs _ (spot_ends g (marked_in marks) cs s i).1).0);
      })

  array_side : (count : ℕ) → side_of (graph_of (length cs) (take m us) (take m vs) (take m here)) count (states_in (take m here))
      ≡ side_of (room_graph g (marked_in marks) cs) count (edge_state (room_borders g (marked_in marks) cs) (state_of states))
  unfolding room_graph room_borders
  array_side count =
      rw
      (us_are, vs_are, here_are, length-map ss (λ s. get_or states (border_of g s) 0))
      (side_same (graph (length cs) (length ss) (map (from_of cs) ss) (map (into_of g cs) ss)) (room_graph g (marked_in marks) cs)
      (states_in (map (λ s. get_or states (border_of g s) 0) ss))
      (edge_state (room_borders g (marked_in marks) cs) (state_of states))
      refl
      refl
      (λ i h. refl)
      (λ i h. refl)
      (λ i h. let x = at_place ss i h in x.2 (λ s. get_or states (border_of g s) 0) ∙ ap (state_of states) (sym (x.2 (border_of g))))
      count)

  -- the side that fails of the room in the arrays is that of the room
  pub sided : (count : ℕ) → failing_of (graph_of (length cs) (take m us) (take m vs) (take m here)) count (states_in (take m here))
      ≡ side_of (room_graph g (marked_in marks) cs) count (edge_state (room_borders g (marked_in marks) cs) (state_of states))
  unfolding failing_of side_of
  sided count = array_side count

-- WHAT IS LISTED
gather_up : (f : ℕ → List ℕ) (a n : ℕ) → gather f (count_from (suc a) n) ≡ gather (λ i. f (suc i)) (count_from a n)
unfolding gather count_from
gather_up f a zero = refl
gather_up f a (suc n) = ap (λ l. f (suc a) ++ l) (gather_up f (suc a) n)

-- through the places of a list, and through its members
gather_places : (f : ℕ → List ℕ) (xs : List ℕ) → gather (λ i. f (get_or xs i 0)) (count_from 0 (length xs)) ≡ gather f xs
unfolding gather count_from
gather_places f [] = refl
gather_places f (x ∷ xs) = ap (λ l. f x ++ l) (gather_up (λ i. f (get_or (x ∷ xs) i 0)) 0 (length xs) ∙ gather_places f xs)

gather_map : (f : ℕ → List ℕ) (b : Spot → ℕ) (xs : List Spot) → gather f (map b xs) ≡ gather (λ x. f (b x)) xs
unfolding gather
gather_map f b [] = refl
gather_map f b (x ∷ xs) = ap (λ l. f (b x) ++ l) (gather_map f b xs)

map_when : (f : ℕ → ℕ) (h : ℕ → Bool) (e : ℕ → ℕ) (xs : List ℕ) → map f (gather (λ i. when (h i) (e i)) xs) ≡ gather (λ i. when (h i) (f (e i))) xs
unfolding gather when
map_when f h e [] = refl
map_when f h e (x ∷ xs) = one (h x) ∙ ap (λ l. when (h x) (f (e x)) ++ l) (map_when f h e xs)
  where
    one : (t : Bool) → map f (when t (e x) ++ gather (λ i. when (h i) (e i)) xs) ≡ when t (f (e x)) ++ map f (gather (λ i. when (h i) (e i)) xs)
    one true = refl
    one false = refl

module _ (g : Grid) (given : ℕ → Bool) (cs : List ℕ) (s : ℕ → ℕ) where
  abbrev borders : List ℕ
  borders = room_borders g given cs

  -- an edge's entry becomes its border's
  entry_border : (wall : Bool) (i : ℕ) → on_board borders (entry_of wall i) ≡ entry_of wall (get_or borders i 0)
  entry_border true i =
      let a : (2 * i + 1) / 2 ≡ i = omega arith in
      let b : (2 * i + 1) % 2 ≡ 1 = omega arith in
      rw (a, b)
  entry_border false i =
      let a : 2 * i / 2 ≡ i = omega arith in
      let b : 2 * i % 2 ≡ 0 = omega arith in
      rw (a, b) (omega arith)

  pub entries_board : (wall : Bool) → map (on_board (room_borders g given cs)) (entries_of (entry_of wall) (kind_of wall) (room_graph g given cs).edges (edge_state (room_borders g given cs) s)) ≡ room_entries g given cs wall s
  unfolding room_graph room_borders room_entries entries_of range
  entries_board wall =
      let f : ℕ → List ℕ = λ b. when (eqb (s b) (kind_of wall)) (entry_of wall b) in
      map_when (on_board borders) (λ i. eqb (edge_state borders s i) (kind_of wall)) (entry_of wall) (count_from 0 (length (spots g given cs)))
      ∙ simp (entry_border wall)
      (rw (sym (length-map (spots g given cs) (border_of g))) (gather_places f borders ∙ gather_map f (border_of g) (spots g given cs)))

  -- THE LAW: the side that fails tells the room's list
  pub side_list_lem : (count : ℕ) → side_list g given cs s (side_of (room_graph g given cs) count (edge_state (room_borders g given cs) s)) ≡ room_list g given cs count s
  unfolding side_of room_list room_fault through or_else give
  side_list_lem count = go (tipped_of (room_graph g given cs) count (edge_state borders s)) (ltb count (joined_parts (room_graph g given cs) (edge_state borders s)))
    where
      go : (t u : Bool) → side_list g given cs s (pick t (Some false) (pick u (Some true) None))
          ≡ through (or_else (give t (entries_of connected_entry 1 (room_graph g given cs).edges (edge_state borders s))) (give u (entries_of wall_entry 2 (room_graph g given cs).edges (edge_state borders s)))) (λ l. some (map (on_board borders) l))
      go true u = ap some (sym (entries_board false))
      go false true = ap some (sym (entries_board true))
      go false false = refl
