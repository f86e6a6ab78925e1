-- Rooms are told apart by their numbers, and a room's edges are exactly the borders inside it that are not given. Assumes nothing.
use Prim.Native.Nat.{ℕ, ◌≤◌}
use mathlib.Core.Path.{◌≡◌, refl, ap, sym, ◌∙◌}
use mathlib.Core.Logic.{⊎_elim}
use mathlib.Core.Bool.{true, false, not}
use mathlib.Core.List.{List}
use native.Mathlib.Omega.{arith}
use borrow.Author.Tests.{eqb-true, eq-eqb, not-true}
use lib.Dec.{eqb}
use lib.ListN.{get_or}
use Rattle.lists.specs.Choice.{both}
use Rattle.lists.specs.Lists.{In, gather}
use Rattle.lists.proofs.Cases.{true_or_false}
use Rattle.lists.proofs.ChoiceLaws.{both_true, true_both}
use Rattle.lists.proofs.ListLaws.{any_true, true_any, in_when, when_in, in_gather, gather_in}
use Rattle.frame.specs.Frame.{Chain, here, on, States}
use Rattle.grid.specs.declared.Direction.{Direction}
use Rattle.grid.specs.declared.Grid.{Grid}
use Rattle.grid.specs.Grid.{cells, Cell, goes_on, next, border}
use Rattle.grid.specs.Steps.{Step, Neighbours}
use Rattle.grid.proofs.Geometry.{goes_step, step_goes, step_next}
use Rattle.grid.specs.Orders.{forward}
use Rattle.parts.proofs.PartLaws.{begun_small}
use Rattle.parts.proofs.PartLists.{begun_at}
use Rattle.groups.proofs.GroupLaws.{Labels, Passing, in_cells, cells_in_lem, edges_within, part_labels}
use Rattle.rooms.specs.Rooms.{is_given, room_edges, room_ids, room_count, room_cells}
use Rattle.rooms.specs.RoomGraph.{Spot, is_in, in_room, spots_at, spots}
use Rattle.rooms.specs.Units.{GivenWalls}

-- GIVEN WALLS
pub given_in_lem : (given : List ℕ) (e : ℕ) → is_given given e ≡ true → In e given
unfolding is_given
given_in_lem given e q = let o = any_true (eqb e) given q in rw (eqb-true e o.0 o.2) o.1

pub in_given : (given : List ℕ) (e : ℕ) → In e given → is_given given e ≡ true
unfolding is_given
in_given given e m = true_any (eqb e) given e m (eq-eqb e e refl)

-- a cell is one of a room's
pub is_in_lem : (cs : List ℕ) (c : ℕ) → is_in cs c ≡ true → In c cs
unfolding is_in is_given
is_in_lem cs c q = given_in_lem cs c q

pub in_is : (cs : List ℕ) (c : ℕ) → In c cs → is_in cs c ≡ true
unfolding is_in is_given
in_is cs c m = in_given cs c m

-- ROOMS
-- two cells have one room number exactly if borders that are not given join them
pub room_labels : (g : Grid) (given : List ℕ) → Labels g (room_ids g given) (room_count g given) (Chain (Passing g (λ e. not (is_given given e))))
unfolding room_ids room_count
room_labels g given =
    rw (begun_at (cells g) (room_edges g given) (cells g) (edges_within g (λ e. not (is_given given e))) (omega arith)) (part_labels g (λ e. not (is_given given e)))

-- no board has more rooms than cells
pub rooms_few : (g : Grid) (given : List ℕ) → room_count g given ≤ cells g
unfolding room_count
rooms_few g given =
    let E = room_edges g given in
    omega (arith, begun_at (cells g) E (cells g) (edges_within g (λ e. not (is_given given e))) (omega arith), begun_small E (cells g))

-- given walls part rooms wholly: over a Connected border, which is no given wall, lies the same room
pub same_room : (g : Grid) (given : List ℕ) (s : States) → GivenWalls given s → (a c e : ℕ) → Neighbours g a c e → s e ≡ 1
    → (is_given given e ≡ false) × (get_or (room_ids g given) a 0 ≡ get_or (room_ids g given) c 0)
same_room g given s walls a c e n q =
    let free : is_given given e ≡ false = ⊎_elim (λ (k : is_given given e ≡ true). absurd (omega (arith, walls e k))) (λ k. k) (true_or_false (is_given given e)) in
    (free, (room_labels g given).alike a c n.1.cell n.1.cell' (on here (e, n, ap not free)))

module _ (g : Grid) (given : List ℕ) (r : ℕ) where
  abbrev ids : List ℕ
  ids = room_ids g given

  pub in_room_cells : (c : ℕ) → In c (room_cells g given r) → Cell g c × (get_or (room_ids g given) c 0 ≡ r)
  in_room_cells c m = in_cells g (room_ids g given) r c m

  pub room_cells_in : (c : ℕ) → Cell g c → get_or (room_ids g given) c 0 ≡ r → In c (room_cells g given r)
  room_cells_in c l q = cells_in_lem g (room_ids g given) r c l q

  -- a spot is a step down or right inside the room, over a border that is not given
  pub record Inside (s : Spot) : Type 0 where
    pub from_in : In s.cell (room_cells g given r)
    pub to_in : In (next g s.direction s.cell) (room_cells g given r)
    pub step : Step g s.direction s.cell (next g s.direction s.cell) (border g s.direction s.cell)
    pub free : is_given given (border g s.direction s.cell) ≡ false

  pub spot_inside : (s : Spot) → In s (spots g (is_given given) (room_cells g given r)) → Inside s
  unfolding spots spots_at in_room
  spot_inside s m =
      let c = in_gather (λ c. gather (spots_at g (is_given given) (room_cells g given r) c) forward) (room_cells g given r) s m in
      let d = in_gather (spots_at g (is_given given) (room_cells g given r) c.0) forward s c.2 in
      let o = in_when (in_room g (is_given given) (is_in (room_cells g given r)) c.0 d.0) (record { cell = c.0; direction = d.0 }) s d.2 in
      let cell = (in_room_cells c.0 c.1).0 in
      let t = both_true (goes_on g d.0 c.0) (both (is_in (room_cells g given r) (next g d.0 c.0)) (not (is_given given (border g d.0 c.0)))) o.0 in
      let u = both_true (is_in (room_cells g given r) (next g d.0 c.0)) (not (is_given given (border g d.0 c.0))) t.1 in
      let st = goes_step g d.0 c.0 cell t.0 in
      rw o.1
      (record { from_in = c.1; to_in = is_in_lem (room_cells g given r) (next g d.0 c.0) u.0; step = st; free = not-true _ u.1 })

  pub inside_spot : (d : Direction) (c c' e : ℕ) → In d forward → In c (room_cells g given r) → In c' (room_cells g given r) → Step g d c c' e → is_given given e ≡ false
      → In (record { cell = c; direction = d }) (spots g (is_given given) (room_cells g given r))
  unfolding spots spots_at in_room
  inside_spot d c c' e m i j s q =
      gather_in (λ c. gather (spots_at g (is_given given) (room_cells g given r) c) forward) (room_cells g given r) c _ i
      (gather_in (spots_at g (is_given given) (room_cells g given r) c) forward d _ m
      (when_in (in_room g (is_given given) (is_in (room_cells g given r)) c d) _
      (true_both (goes_on g d c) _ (step_goes g d c c' e s)
      (true_both _ _ (in_is (room_cells g given r) (next g d c) (rw (step_next g d c c' e s) at j))
      (ap not (ap (is_given given) (sym s.over) ∙ q))))))
