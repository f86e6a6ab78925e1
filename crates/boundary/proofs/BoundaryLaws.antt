-- The laws of the boundary lists: exactly which entries they have, that each stands as listed, and at most 4 a cell. The unit's list is
-- read in directions down and right for Connected borders, since each has its other cell in the unit and so is told once. Assumes nothing.
use Prim.Native.Nat.{ℕ, ◌+◌, ◌*◌, ◌≤◌}
use mathlib.Core.Path.{◌≡◌, ap, sym, ◌∙◌}
use mathlib.Core.Logic.{◌⊎◌, inl, inr, ◌≢◌, ⊎_elim, ◌↔◌}
use mathlib.Core.Bool.{Bool, true, false, not}
use mathlib.Core.List.{List, [], ◌++◌}
use native.Mathlib.Omega.{arith}
use borrow.Author.Tests.{eqb-true, eqb-false, eq-eqb, ne_eqb, not-true}
use lib.Dec.{eqb}
use lib.ListN.{get_or, length, length-append}
use Rattle.lists.specs.Choice.{both}
use Rattle.lists.specs.Lists.{In, range, gather}
use Rattle.lists.proofs.ChoiceLaws.{both_true, true_both}
use Rattle.lists.proofs.ListLaws.{in_left, in_right, in_append, in_when, when_in, in_gather, gather_in, range_length}
use Rattle.grid.specs.declared.Direction.{Direction}
use Rattle.grid.specs.declared.Direction.TheVariants.{Up, Down, Left, Right}
use Rattle.grid.specs.declared.Grid.{Grid}
use Rattle.grid.specs.Grid.{cells, Cell, next, border}
use Rattle.grid.specs.Steps.{Step, Neighbours}
use Rattle.grid.proofs.Geometry.{step_next}
use Rattle.borders.specs.Entry.{connected_entry, wall_entry, Standing}
use Rattle.borders.specs.Border.{state_of, stands}
use Rattle.borders.proofs.EntryLaws.{connected_stands, wall_stands}
use Rattle.borders.proofs.BorderLaws.{stands_state, stands_step, step_stands}
use Rattle.grid.specs.Orders.{around, forward, unit_order}
use Rattle.borders.proofs.Directions.{Ahead, down_or_right, in_around, in_unit_order}
use Rattle.groups.specs.Groups.{cells_in, cells_of}
use Rattle.groups.proofs.GroupLaws.{in_cells, cells_in_lem}
use Rattle.boundary.specs.Listing.{boundary}
use Rattle.boundary.specs.Boundary.{ahead, connected_at, wall_at, outer_wall_at, unit_cell, unit_boundary, potential_cell, potential_boundary}
use Rattle.boundary.proofs.Lengths.{when_most, when_either, keep_most, gather_most}

module _ (g : Grid) (states ids : List ℕ) (k : ℕ) where
  -- l lists a Connected border between two cells of the group
  pub record Inside (l : ℕ) : Type 0 where
    pub a : ℕ
    pub c : ℕ
    pub e : ℕ
    pub neighbours : Neighbours g a c e
    pub in_a : get_or ids a 0 ≡ k
    pub in_c : get_or ids c 0 ≡ k
    pub connected : state_of states e ≡ 1
    pub entry : l ≡ connected_entry e

  -- l lists a Wall of a cell of the group
  pub record Walled (l : ℕ) : Type 0 where
    pub a : ℕ
    pub c : ℕ
    pub e : ℕ
    pub neighbours : Neighbours g a c e
    pub in_a : get_or ids a 0 ≡ k
    pub wall : state_of states e ≡ 2
    pub entry : l ≡ wall_entry e

  -- l lists a Wall between a cell of the group and one of another
  pub record Bounding (l : ℕ) : Type 0 where
    pub a : ℕ
    pub c : ℕ
    pub e : ℕ
    pub neighbours : Neighbours g a c e
    pub in_a : get_or ids a 0 ≡ k
    pub out_c : get_or ids c 0 ≢ k
    pub wall : state_of states e ≡ 2
    pub entry : l ≡ wall_entry e

  -- the group of the next cell, as the test reads it
  ahead_is : (d : Direction) (a c e : ℕ) → Step g d a c e → get_or ids (next g d a) 0 ≡ get_or ids c 0
  ahead_is d a c e s = ap (λ n. get_or ids n 0) (sym (step_next g d a c e s))

  in_unit_cell : (c l : ℕ) → Cell g c → get_or ids c 0 ≡ k → In l (unit_cell g states ids k c) → Inside l ⊎ Walled l
  unfolding unit_cell connected_at wall_at
  in_unit_cell c l cell q m =
      ⊎_elim
      (λ i.
      let d = in_gather (connected_at g states ids k c) forward l i in
      let o = in_when (both (stands g states 1 d.0 c) (ahead g ids k c d.0)) (connected_entry (border g d.0 c)) l d.2 in
      let t = both_true (stands g states 1 d.0 c) (ahead g ids k c d.0) o.0 in
      inl (record {
        a = c;
        c = next g d.0 c;
        e = border g d.0 c;
        neighbours = (d.0, stands_step g states 1 d.0 c cell t.0);
        in_a = q;
        in_c = eqb-true _ k t.1;
        connected = stands_state g states 1 d.0 c t.0;
        entry = o.1;
      }))
      (λ i.
      let d = in_gather (wall_at g states c) unit_order l i in
      let o = in_when (stands g states 2 d.0 c) (wall_entry (border g d.0 c)) l d.2 in
      inr (record {
        a = c;
        c = next g d.0 c;
        e = border g d.0 c;
        neighbours = (d.0, stands_step g states 2 d.0 c cell o.0);
        in_a = q;
        wall = stands_state g states 2 d.0 c o.0;
        entry = o.1;
      }))
      (in_append l (gather (connected_at g states ids k c) forward) _ m)

  pub in_unit_boundary : (l : ℕ) → In l (unit_boundary g states ids k) → Inside l ⊎ Walled l
  unfolding unit_boundary
  in_unit_boundary l m =
      let c = in_gather (unit_cell g states ids k) (cells_of g ids k) l m in
      let o = in_cells g ids k c.0 c.1 in
      in_unit_cell c.0 l o.0 o.1 c.2

  ahead_listed : (a c e : ℕ) → Ahead g a c e → get_or ids a 0 ≡ k → get_or ids c 0 ≡ k → state_of states e ≡ 1 → In (connected_entry e) (unit_boundary g states ids k)
  unfolding unit_boundary unit_cell connected_at
  ahead_listed a c e h p q w =
      let d = h.0 in
      let s = h.2 in
      gather_in (unit_cell g states ids k) (cells_of g ids k) a (connected_entry e) (cells_in_lem g ids k a s.cell p)
      (in_left (connected_entry e) (gather (connected_at g states ids k a) forward) _
      (gather_in (connected_at g states ids k a) forward d (connected_entry e) h.1
      (rw s.over
      (when_in (both (stands g states 1 d a) (ahead g ids k a d)) (connected_entry (border g d a))
      (true_both (stands g states 1 d a) (ahead g ids k a d) (step_stands g states 1 d a c e s w) (eq-eqb _ k (ahead_is d a c e s ∙ q)))))))

  pub connected_listed : (a c e : ℕ) → Neighbours g a c e → get_or ids a 0 ≡ k → get_or ids c 0 ≡ k → state_of states e ≡ 1 → In (connected_entry e) (unit_boundary g states ids k)
  connected_listed a c e n p q w = ⊎_elim (λ h. ahead_listed a c e h p q w) (λ h. ahead_listed c a e h q p w) (down_or_right g a c e n)

  pub wall_listed : (a c e : ℕ) → Neighbours g a c e → get_or ids a 0 ≡ k → state_of states e ≡ 2 → In (wall_entry e) (unit_boundary g states ids k)
  unfolding unit_boundary unit_cell wall_at
  wall_listed a c e n p w =
      let d = n.0 in
      let s = n.1 in
      gather_in (unit_cell g states ids k) (cells_of g ids k) a (wall_entry e) (cells_in_lem g ids k a s.cell p)
      (in_right (wall_entry e) (gather (connected_at g states ids k a) forward) _
      (gather_in (wall_at g states a) unit_order d (wall_entry e) (in_unit_order d)
      (rw s.over (when_in (stands g states 2 d a) (wall_entry (border g d a)) (step_stands g states 2 d a c e s w)))))

  -- THE UNIT'S LIST has the Connected borders inside the group and the Walls of its cells, and nothing else
  pub unit_listed : (l : ℕ) → In l (unit_boundary g states ids k) ↔ (Inside l ⊎ Walled l)
  unit_listed l = (
    in_unit_boundary l,
    λ o.
        ⊎_elim
        (λ (i : Inside l). rw i.entry (connected_listed i.a i.c i.e i.neighbours i.in_a i.in_c i.connected))
        (λ (i : Walled l). rw i.entry (wall_listed i.a i.c i.e i.neighbours i.in_a i.wall))
        o,
  )

  pub in_potential_boundary : (l : ℕ) → In l (potential_boundary g states ids k) → Bounding l
  unfolding potential_boundary potential_cell outer_wall_at
  in_potential_boundary l m =
      let c = in_gather (potential_cell g states ids k) (cells_of g ids k) l m in
      let d = in_gather (outer_wall_at g states ids k c.0) around l c.2 in
      let i = in_cells g ids k c.0 c.1 in
      let o = in_when (both (stands g states 2 d.0 c.0) (not (ahead g ids k c.0 d.0))) (wall_entry (border g d.0 c.0)) l d.2 in
      let t = both_true (stands g states 2 d.0 c.0) (not (ahead g ids k c.0 d.0)) o.0 in
      record {
        a = c.0;
        c = next g d.0 c.0;
        e = border g d.0 c.0;
        neighbours = (d.0, stands_step g states 2 d.0 c.0 i.0 t.0);
        in_a = i.1;
        out_c = eqb-false _ k (not-true _ t.1);
        wall = stands_state g states 2 d.0 c.0 t.0;
        entry = o.1;
      }

  pub bounding_listed : (a c e : ℕ) → Neighbours g a c e → get_or ids a 0 ≡ k → get_or ids c 0 ≢ k → state_of states e ≡ 2 → In (wall_entry e) (potential_boundary g states ids k)
  unfolding potential_boundary potential_cell outer_wall_at
  bounding_listed a c e n p z w =
      let d = n.0 in
      let s = n.1 in
      gather_in (potential_cell g states ids k) (cells_of g ids k) a (wall_entry e) (cells_in_lem g ids k a s.cell p)
      (gather_in (outer_wall_at g states ids k a) around d (wall_entry e) (in_around d)
      (rw s.over
      (when_in (both (stands g states 2 d a) (not (ahead g ids k a d))) (wall_entry (border g d a))
      (true_both (stands g states 2 d a) (not (ahead g ids k a d)) (step_stands g states 2 d a c e s w)
      (ap not (ne_eqb _ k (λ (y : get_or ids (next g d a) 0 ≡ k). z (sym (ahead_is d a c e s) ∙ y))))))))

  -- THE POTENTIAL UNIT'S LIST has the Walls that part the group from others, and nothing else
  pub potential_listed : (l : ℕ) → In l (potential_boundary g states ids k) ↔ Bounding l
  potential_listed l = (
    in_potential_boundary l,
    λ i. rw i.entry (bounding_listed i.a i.c i.e i.neighbours i.in_a i.out_c i.wall),
  )

  -- each entry stands as listed
  pub unit_stands : Standing (state_of states) (unit_boundary g states ids k)
  unit_stands l m =
      ⊎_elim
      (λ (i : Inside l). rw i.entry (connected_stands (state_of states) i.e i.connected))
      (λ (i : Walled l). rw i.entry (wall_stands (state_of states) i.e i.wall))
      (in_unit_boundary l m)

  pub potential_stands : Standing (state_of states) (potential_boundary g states ids k)
  potential_stands l m = let i = in_potential_boundary l m in rw i.entry (wall_stands (state_of states) i.e i.wall)

  -- a border is not both Connected and a Wall, so down and right have one entry at most
  one_kind : (c : ℕ) (d : Direction) → length (connected_at g states ids k c d) + length (wall_at g states c d) ≤ 1
  unfolding connected_at wall_at
  one_kind c d =
      when_either (both (stands g states 1 d c) (ahead g ids k c d)) (stands g states 2 d c) _ _
      (λ p q.
      let one = stands_state g states 1 d c (both_true (stands g states 1 d c) (ahead g ids k c d) p).0 in
      let two = stands_state g states 2 d c q in
      omega arith)

  wall_most : (c : ℕ) (d : Direction) → length (wall_at g states c d) ≤ 1
  unfolding wall_at
  wall_most c d = when_most (stands g states 2 d c) _

  pub unit_cell_most : (c : ℕ) → length (unit_cell g states ids k c) ≤ 4
  unfolding unit_cell gather
  unit_cell_most c =
      let j : Direction → List ℕ = connected_at g states ids k c in
      let w : Direction → List ℕ = wall_at g states c in
      omega (
        arith,
        length-append (j Down ++ (j Right ++ [])) (w Up ++ (w Left ++ (w Down ++ (w Right ++ [])))),
        length-append (j Down) (j Right ++ []),
        length-append (j Right) [],
        length-append (w Up) (w Left ++ (w Down ++ (w Right ++ []))),
        length-append (w Left) (w Down ++ (w Right ++ [])),
        length-append (w Down) (w Right ++ []),
        length-append (w Right) [],
        one_kind c Down,
        one_kind c Right,
        wall_most c Up,
        wall_most c Left,
      )

  pub potential_cell_most : (c : ℕ) → length (potential_cell g states ids k c) ≤ 4
  unfolding potential_cell outer_wall_at
  potential_cell_most c = gather_most (outer_wall_at g states ids k c) 1 (λ d. when_most (both (stands g states 2 d c) (not (ahead g ids k c d))) _) around

  pub unit_most : length (unit_boundary g states ids k) ≤ length (cells_of g ids k) * 4
  unfolding unit_boundary
  unit_most = gather_most (unit_cell g states ids k) 4 unit_cell_most (cells_of g ids k)

  pub potential_most : length (potential_boundary g states ids k) ≤ length (cells_of g ids k) * 4
  unfolding potential_boundary
  potential_most = gather_most (potential_cell g states ids k) 4 potential_cell_most (cells_of g ids k)

pub cells_most : (g : Grid) (ids : List ℕ) (k : ℕ) → length (cells_of g ids k) ≤ cells g
unfolding cells_in
cells_most g ids k = omega (arith, keep_most (λ c. eqb (get_or ids c 0) k) (range (cells g)), range_length (cells g))

-- 9·h·w entries are enough
pub boundary_most : (g : Grid) (states ids : List ℕ) (potential : Bool) (k : ℕ) → length (boundary g states ids potential k) ≤ 9 * cells g
boundary_most g states ids true k = omega (arith, potential_most g states ids k, cells_most g ids k)
boundary_most g states ids false k = omega (arith, unit_most g states ids k, cells_most g ids k)
