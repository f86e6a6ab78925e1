-- The parts of a room's graph are the units in the room: where the given walls are Wall, a count of the one is a count of the other. Assumes nothing.
use Prim.Native.Nat.{ℕ, zero, suc, ◌+◌, ◌≤◌, ◌<◌}
use mathlib.Core.Path.{◌≡◌, refl, ap, sym, ◌∙◌}
use mathlib.Core.Logic.{⊎_elim, ◌↔◌}
use mathlib.Core.Bool.{Bool, true, false}
use mathlib.Core.List.{List, [], ◌∷◌, ◌++◌, map}
use native.Mathlib.Omega.{arith}
use borrow.Author.Tests.{eqb-true, eq-eqb}
use lib.Dec.{eqb}
use lib.ListN.{length, get_or, length-map}
use Rattle.lists.specs.Choice.{pick, when}
use Rattle.lists.specs.Lists.{In, keep}
use Rattle.lists.proofs.Cases.{le_or_lt}
use Rattle.lists.proofs.ChoiceLaws.{same_truth}
use Rattle.lists.proofs.ListLaws.{get_d_in, in_keep, keep_in, map_at}
use Rattle.frame.specs.Frame.{Chain, here, on, Link, States, SameUnit}
use Rattle.frame.proofs.Chains.{chain_map}
use Rattle.grid.specs.declared.Grid.{Grid}
use Rattle.grid.specs.Grid.{next, border}
use Rattle.grid.specs.Steps.{Neighbours}
use Rattle.grid.proofs.Geometry.{step_next}
use Rattle.borders.proofs.Directions.{Ahead, down_or_right}
use Rattle.parts.specs.Parts.{Edge, Has, Joined, same, over, back, then, root, begun}
use Rattle.parts.proofs.PartLaws.{root_le, to_root, root_least, joined_root, root_root, root_joined}
use Rattle.groups.specs.Groups.{edges_over}
use Rattle.groups.proofs.GroupLaws.{Passing, joined_chain, chain_joined}
use Rattle.room_parts.specs.Graph.{Graph, is_connected, edges_if, parts_if, connected_parts}
use Rattle.rooms.specs.Rooms.{is_given, room_ids, room_cells}
use Rattle.rooms.specs.RoomGraph.{Spot, spots, place, from_of, into_of, border_of, room_graph, room_borders, edge_state}
use Rattle.rooms.specs.Units.{InRoom, GivenWalls, HoldsUnits}
use Rattle.room_parts.proofs.EdgeLaws.{in_edges, edges_in}
use Rattle.rooms.specs.Lent.{Rising}
use Rattle.rooms.proofs.Places.{at_place, place_at, in_map, map_in, cells_rising, kept_rising, place_of, rising_place, once, no_longer}
use Rattle.rooms.proofs.RoomLaws.{same_room, in_room_cells, room_cells_in, Inside, spot_inside, inside_spot}

-- COUNTING PARTS BY THEIR FIRST VERTICES
abbrev is_root : List Edge → ℕ → Bool
is_root E c = eqb (root E c) c

-- how many of the first m members pass the test
count_to : (ℕ → Bool) → List ℕ → ℕ → ℕ
count_to p xs zero = 0
count_to p xs (suc m) = count_to p xs m + pick (p (get_or xs m 0)) 1 0

count_to_cons : (p : ℕ → Bool) (x : ℕ) (xs : List ℕ) (m : ℕ) → count_to p (x ∷ xs) (suc m) ≡ pick (p x) 1 0 + count_to p xs m
unfolding count_to
count_to_cons p x xs zero = omega arith
count_to_cons p x xs (suc m) = omega (arith, count_to_cons p x xs m)

when_length : (t : Bool) (x : ℕ) (xs : List ℕ) → length (when t x ++ xs) ≡ pick t 1 0 + length xs
unfolding when
when_length true x xs = omega arith
when_length false x xs = omega arith

count_to_keep : (p : ℕ → Bool) (xs : List ℕ) → count_to p xs (length xs) ≡ length (keep p xs)
unfolding keep
count_to_keep p [] = unfold count_to in refl
count_to_keep p (x ∷ xs) = count_to_cons p x xs (length xs) ∙ omega (arith, count_to_keep p xs, when_length (p x) x (keep p xs))

-- F, over the places of cs, joins just what E joins in cs, and E joins nothing in cs to the rest
module _ (F E : List Edge) (cs : List ℕ) (rising : Rising cs)
    (out : (i j : ℕ) → Joined F i j → Joined E (get_or cs i 0) (get_or cs j 0))
    (into : (c d : ℕ) → In c cs → Joined E c d → In d cs × Joined F (place cs c) (place cs d)) where
  first_alike : (i : ℕ) → i < length cs → is_root F i ≡ is_root E (get_or cs i 0)
  first_alike i l =
      let c : ℕ = get_or cs i 0 in
      same_truth (is_root F i) (is_root E c)
      (λ (q : is_root F i ≡ true).
      let o = into c (root E c) (get_d_in 0 cs i l) (to_root E c) in
      let p = place_of cs (root E c) o.0 in
      let j : Joined F i (place cs (root E c)) = rw (rising_place cs rising i l) at o.1 in
      let up : i ≤ place cs (root E c) = omega (arith, eqb-true (root F i) i q, root_least {E = F} {c = i} {d = place cs (root E c)} j) in
      eq-eqb (root E c) c
      (⊎_elim
      (λ (h : place cs (root E c) ≤ i). let e : place cs (root E c) ≡ i = omega arith in sym p.1 ∙ ap (λ x. get_or cs x 0) e)
      (λ (h : i < place cs (root E c)). omega (arith, rising i (place cs (root E c)) h p.0, p.1, root_le E c))
      (le_or_lt (place cs (root E c)) i)))
      (λ (q : is_root E c ≡ true).
      let j = out i (root F i) (to_root F i) in
      eq-eqb (root F i) i
      (⊎_elim
      (λ (h : i ≤ root F i). omega (arith, root_le F i))
      (λ (h : root F i < i). absurd (omega (arith, rising (root F i) i h l, eqb-true (root E c) c q, root_least {E = E} {c = c} {d = get_or cs (root F i) 0} j)))
      (le_or_lt i (root F i))))

  begun_count : (m : ℕ) → m ≤ length cs → begun F m ≡ count_to (is_root E) cs m
  unfolding begun count_to
  begun_count zero l = refl
  begun_count (suc m) l = cc (begun_count m (omega arith), first_alike m (omega arith))

  parts_count : begun F (length cs) ≡ length (keep (is_root E) cs)
  parts_count = begun_count (length cs) (omega arith) ∙ count_to_keep (is_root E) cs

-- THE ROOM'S GRAPH
module _ (g : Grid) (given : List ℕ) (r : ℕ) where
  abbrev graph : Graph
  graph = room_graph g (is_given given) (room_cells g given r)

  abbrev borders : List ℕ
  borders = room_borders g (is_given given) (room_cells g given r)

  abbrev cs : List ℕ
  cs = room_cells g given r

  -- an edge of the graph, by its number
  pub record EdgeAt (i : ℕ) : Type 0 where
    pub spot : Spot
    pub inside : Inside g given r spot
    pub from_is : get_or (room_graph g (is_given given) (room_cells g given r)).us i 0 ≡ place (room_cells g given r) spot.cell
    pub into_is : get_or (room_graph g (is_given given) (room_cells g given r)).vs i 0 ≡ place (room_cells g given r) (next g spot.direction spot.cell)
    pub border_is : get_or (room_borders g (is_given given) (room_cells g given r)) i 0 ≡ border g spot.direction spot.cell

  pub edge_at : (i : ℕ) → i < (room_graph g (is_given given) (room_cells g given r)).edges → EdgeAt i
  unfolding room_graph room_borders
  edge_at i l =
      let o = at_place (spots g (is_given given) (room_cells g given r)) i l in
      record {
        spot = o.0;
        inside = spot_inside g given r o.0 o.1;
        from_is = o.2 (from_of (room_cells g given r));
        into_is = o.2 (into_of g (room_cells g given r));
        border_is = o.2 (border_of g);
      }

  -- its ends are vertices
  pub ends : (i : ℕ) → i < graph.edges → (get_or graph.us i 0 < graph.vertices) × (get_or graph.vs i 0 < graph.vertices)
  unfolding room_graph
  ends i l =
      let k = edge_at i l in (
        rw k.from_is (place_of cs k.spot.cell k.inside.from_in).0,
        rw k.into_is (place_of cs (next g k.spot.direction k.spot.cell) k.inside.to_in).0,
      )

  -- states on which the given walls are Wall
  module _ (s : States) (walls : GivenWalls given s) where
    abbrev pass : ℕ → Bool
    pass e = is_connected (s e)

    -- the graph's Connected edges, and the board's
    abbrev inner : List Edge
    inner = edges_if is_connected graph (edge_state borders s) graph.edges

    abbrev outer : List Edge
    outer = edges_over g pass

    chain_unit : {a b : ℕ} → Chain (Passing g pass) a b → SameUnit (Neighbours g) s a b
    chain_unit j = chain_map {R = Passing g pass} {Q = Link (Neighbours g) (λ e. s e ≡ 1)} (λ a b l. (l.0, l.1, eqb-true (s l.0) 1 l.2)) j

    unit_chain : {a b : ℕ} → SameUnit (Neighbours g) s a b → Chain (Passing g pass) a b
    unit_chain j = chain_map {R = Link (Neighbours g) (λ e. s e ≡ 1)} {Q = Passing g pass} (λ a b l. (l.0, l.1, eq-eqb (s l.0) 1 l.2)) j

    joined_unit : {a b : ℕ} → Joined outer a b → SameUnit (Neighbours g) s a b
    joined_unit j = chain_unit (joined_chain g pass j)

    unit_joined : {a b : ℕ} → SameUnit (Neighbours g) s a b → Joined outer a b
    unit_joined j = chain_joined g pass (unit_chain j)

    -- an edge's ends, out on the board
    edge_out : (i j : ℕ) → Has inner i j → Joined outer (get_or cs i 0) (get_or cs j 0)
    edge_out i j m =
        let p = in_edges is_connected graph (edge_state borders s) graph.edges i j m in
        let k = edge_at p.number p.below in
        let c : ℕ = k.spot.cell in
        let d = k.spot.direction in
        let from : get_or cs i 0 ≡ c = ap (λ x. get_or cs x 0) (sym p.from ∙ k.from_is) ∙ (place_of cs c k.inside.from_in).1 in
        let to : get_or cs j 0 ≡ next g d c = ap (λ x. get_or cs x 0) (sym p.into ∙ k.into_is) ∙ (place_of cs (next g d c) k.inside.to_in).1 in
        let link : pass (border g d c) ≡ true = rw k.border_is at p.passes in
        then (same from) (then (chain_joined g pass (on here (border g d c, (d, k.inside.step), link))) (same (sym to)))

    out : {i j : ℕ} → Joined inner i j → Joined outer (get_or cs i 0) (get_or cs j 0)
    out (same q) = same (ap (λ x. get_or cs x 0) q)
    out (over {c = i} {d = j} m) = edge_out i j m
    out (back j) = back (out j)
    out (then j k) = then (out j) (out k)

    -- a step inside the room, as an edge of the graph
    spot_joined : (c c' e : ℕ) → Ahead g c c' e → In c cs → In c' cs → is_given given e ≡ false → s e ≡ 1 → Joined inner (place cs c) (place cs c')
    unfolding room_graph room_borders
    spot_joined c c' e a i j free q =
        let d = a.0 in
        let o = place_at (spots g (is_given given) (room_cells g given r)) (record { cell = c; direction = d }) (inside_spot g given r d c c' e a.1 i j a.2 free) in
        let from = o.2 (from_of (room_cells g given r)) in
        let to = o.2 (into_of g (room_cells g given r)) in
        let at = o.2 (border_of g) in
        let link : is_connected (edge_state borders s o.0) ≡ true = eq-eqb _ 1 (ap s (at ∙ sym a.2.over) ∙ q) in
        then (same (sym from)) (then (over (edges_in is_connected graph (edge_state borders s) graph.edges o.0 o.1 link)) (same (to ∙ ap (place cs) (sym (step_next g d c c' e a.2)))))

    step_joined : (c c' e : ℕ) → Neighbours g c c' e → In c cs → In c' cs → is_given given e ≡ false → s e ≡ 1 → Joined inner (place cs c) (place cs c')
    step_joined c c' e n i j free q =
        ⊎_elim (λ a. spot_joined c c' e a i j free q) (λ a. back (spot_joined c' c e a j i free q)) (down_or_right g c c' e n)

    -- a unit that has a cell in the room lies in it, and the graph joins it
    into : (c : ℕ) → In c cs → {d : ℕ} → SameUnit (Neighbours g) s c d → In d cs × Joined inner (place cs c) (place cs d)
    into c m here = (m, same refl)
    into c m (on {b = x} {c = y} j l) =
        let o = into c m j in
        let k = same_room g given s walls x y l.0 l.1 l.2 in
        let i = room_cells_in g given r y l.1.1.cell' (sym k.1 ∙ (in_room_cells g given r x o.0).1) in
        (i, then o.1 (step_joined x y l.0 l.1 o.0 i k.0 l.2))

    -- the first cells of the units in the room
    abbrev firsts : List ℕ
    firsts = keep (is_root outer) cs

    room_parts : connected_parts graph (edge_state borders s) ≡ length firsts
    unfolding parts_if room_graph
    room_parts = parts_count inner outer cs (cells_rising g (room_ids g given) r) (λ i j k. out k) (λ c d m k. into c m (joined_unit k))

    first_in : (c : ℕ) → In c cs → In (root outer c) firsts
    first_in c m = keep_in (is_root outer) cs (root outer c) (into c m (joined_unit (to_root outer c))).0 (eq-eqb _ _ (root_root outer c))

    -- two cells of one unit have one first cell
    unit_root : (a b : ℕ) → SameUnit (Neighbours g) s a b → root outer a ≡ root outer b
    unit_root a b j = joined_root (unit_joined j)

    is_first : (c : ℕ) → In c firsts → root outer c ≡ c
    is_first c m = eqb-true (root outer c) c (in_keep (is_root outer) cs c m).1

    in_room_lem : (c : ℕ) → In c firsts → In c cs
    in_room_lem c m = (in_keep (is_root outer) cs c m).0

    firsts_hold : (k : ℕ) → length firsts ≡ k → HoldsUnits g s (InRoom g given r) k
    firsts_hold k q =
        record {
          heads = firsts;
          number = q;
          inside = λ c m. let o = in_room_cells g given r c (in_room_lem c m) in record { cell = o.0; room = o.1 };
          apart = λ i j h l u.
              let b : j < length firsts = omega arith in
              let a : i < length firsts = omega arith in
              let x = is_first (get_or firsts i 0) (get_d_in 0 firsts i a) in
              let y = is_first (get_or firsts j 0) (get_d_in 0 firsts j b) in
              omega (arith, kept_rising g (room_ids g given) r (is_root outer) i j h b, x, y, unit_root (get_or firsts i 0) (get_or firsts j 0) u);
          whole = λ c m. (root outer c, first_in c (room_cells_in g given r c m.cell m.room), joined_unit (back (to_root outer c)));
        }

    holds_firsts : (k : ℕ) → HoldsUnits g s (InRoom g given r) k → length firsts ≡ k
    holds_firsts k o =
        let heads : List ℕ = map (root outer) o.heads in
        let long : length heads ≡ k = simp length-map o.number in
        let at : (i : ℕ) → i < k → get_or heads i 0 ≡ root outer (get_or o.heads i 0) = λ i l. map_at (root outer) o.heads i (omega (arith, o.number)) in
        let more : length heads ≤ length firsts =
        no_longer heads firsts
        (once heads (λ i j h l q. o.apart i j h (omega arith) (joined_unit (root_joined outer _ _ (sym (at i (omega arith)) ∙ q ∙ at j (omega arith))))))
        (λ x m.
        let p = in_map (root outer) o.heads x m in
        let c = o.inside p.0 p.1 in
        rw p.2 (first_in p.0 (room_cells_in g given r p.0 c.cell c.room))) in
        let less : length firsts ≤ length heads =
        no_longer firsts heads
        (once firsts (λ i j h l q. omega (arith, kept_rising g (room_ids g given) r (is_root outer) i j h l)))
        (λ x m.
        let c = in_room_cells g given r x (in_room_lem x m) in
        let f = o.whole x (record { cell = c.0; room = c.1 }) in
        let e : root outer f.0 ≡ x = unit_root f.0 x f.2 ∙ is_first x m in
        rw e at (map_in (root outer) o.heads f.0 f.1)) in
        omega arith

    -- THE LAW: the graph has k parts exactly if the room holds k units
    pub room_units : (k : ℕ) → (connected_parts graph (edge_state borders s) ≡ k) ↔ HoldsUnits g s (InRoom g given r) k
    room_units k = (λ q. firsts_hold k (sym room_parts ∙ q), λ o. room_parts ∙ holds_firsts k o)
