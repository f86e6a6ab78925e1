-- A room's cells, with marks and states for the board's borders: what is read is there, and what a look over the vertices tells. Assumes nothing.
use Prim.Native.Nat.{ℕ, ◌+◌, ◌*◌, ◌/◌, ◌%◌, ◌≤◌, ◌<◌}
use mathlib.Core.Path.{◌≡◌, refl, ap, sym, ◌∙◌}
use mathlib.Core.Logic.{⊎_elim}
use mathlib.Core.Bool.{true, not}
use mathlib.Core.List.{List}
use native.Mathlib.Omega.{arith}
use lib.ListN.{length, get_or}
use Rattle.std.specs.Prelude.{Option, Some}
use Rattle.limits.specs.Limits.{most_cells}
use Rattle.lists.specs.Choice.{both}
use Rattle.lists.specs.Lists.{In, count}
use Rattle.lists.proofs.Cases.{le_or_lt}
use Rattle.lists.proofs.ChoiceLaws.{both_true}
use Rattle.lists.proofs.ListLaws.{get_d_in}
use Rattle.grid.specs.declared.Direction.{Direction}
use Rattle.grid.specs.declared.Direction.TheVariants.{Up}
use Rattle.grid.specs.declared.Neighbour.{Neighbour}
use Rattle.grid.specs.declared.Grid.{Grid}
use Rattle.grid.specs.Grid.{Cell, goes_on, next, border}
use Rattle.grid.specs.Orders.{forward}
use Rattle.grid.proofs.Geometry.{cells_le}
use Rattle.lists.specs.Writes.{Below}
use Rattle.rooms.specs.RoomGraph.{is_in, in_room}
use Rattle.rooms.specs.Lent.{nowhere, numbered, marked_in, Housed, edge_of}
use Rattle.rooms.proofs.Places.{once}
use Rattle.rooms.proofs.RoomLaws.{is_in_lem}
use Rattle.rooms.proofs.NumberLaws.{vertex_marked, vertex_is}
use Rattle.rooms.proofs.EdgeLaws.{edge_told, none_told}
use Rattle.rooms.proofs.EdgesLaws.{way_of, Seen, Unseen}

-- the look from the a-th cell in the b-th direction is the look of this number
look_lt : (a b n : ℕ) → a < n → b < 2 → 2 * a + b < 2 * n
look_lt a b n h l = omega arith

look_cell : (a b : ℕ) → b < 2 → (2 * a + b) / 2 ≡ a
look_cell a b l = omega arith

look_way : (a b : ℕ) → b < 2 → (d : Direction) → get_or forward b d ≡ way_of (2 * a + b)
look_way a b l d =
    ⊎_elim
    (λ (h : b ≤ 0). let e : b ≡ 0 = omega arith in let q : (2 * a + 0) % 2 ≡ 0 = omega arith in rw (e, q) refl)
    (λ (h : 0 < b). let e : b ≡ 1 = omega arith in let q : (2 * a + 1) % 2 ≡ 1 = omega arith in rw (e, q) refl)
    (le_or_lt b 0)

module _ {g : Grid} {marks states cs : List ℕ} (w : Housed g marks states cs) where
  pub few : length cs ≤ most_cells
  few = omega (arith, w.few_cells, cells_le g w.limits)

  one : (c : ℕ) → count c cs ≤ 1
  one = once cs (λ i j h b q. omega (arith, w.rising i j h b))

  small : (c : ℕ) → In c cs → c < most_cells
  small c m = omega (arith, w.inside c m, cells_le g w.limits)

  pub cells_below : Below most_cells cs
  cells_below = small

  abbrev verts : List ℕ
  verts = numbered cs 1 nowhere

  room_same : (c : ℕ) (d : Direction) → in_room g (marked_in marks) (marked_in verts) c d ≡ in_room g (marked_in marks) (is_in cs) c d
  unfolding in_room
  room_same c d = ap (λ t. both (goes_on g d c) (both t (not (marked_in marks (border g d c))))) (vertex_marked cs one small (next g d c))

  -- the look from the a-th cell in the b-th direction
  module _ {a b : ℕ} (h : a < length cs) (l : b < 2) {vertex : List ℕ} (v : vertex ≡ numbered cs 1 nowhere) {c : ℕ} (k : c ≡ get_or cs a 0) where
    abbrev i : ℕ
    i = 2 * a + b

    -- from where
    abbrev x : ℕ
    x = get_or cs (i / 2) 0

    c_is : c ≡ x
    c_is = rw (look_cell a b l) k

    from_in : In x cs
    from_in = rw (look_cell a b l) (get_d_in 0 cs a h)

    pub cell_there : Cell g c
    cell_there = rw c_is (w.inside x from_in)

    module _ {e : Option Neighbour} (p : e ≡ edge_of g marks vertex c (get_or forward b Up)) where
      over : e ≡ edge_of g marks verts x (way_of i)
      over = p ∙ ap (λ y. edge_of g marks y c (get_or forward b Up)) v ∙ ap (λ y. edge_of g marks verts y (get_or forward b Up)) c_is ∙ ap (edge_of g marks verts x) (look_way a b l Up)

      pub look_none : ((n : Neighbour) → e ≡ Some n → ⊥) → Unseen g (marked_in marks) cs (2 * a + b) (2 * a + (b + 1))
      look_none t =
          record { lt = look_lt a b (length cs) h l; next = omega arith; none = sym (room_same x (way_of i)) ∙ none_told g marks verts x (way_of i) over t }

      pub look_seen : {n : Neighbour} → e ≡ Some n → Seen g (marked_in marks) cs vertex (2 * a + b) (2 * a + (b + 1)) c n.cell n.border
      unfolding in_room
      look_seen {n} t =
          let o = edge_told g marks verts x (way_of i) over t in
          let there : in_room g (marked_in marks) (is_in cs) x (way_of i) ≡ true = sym (room_same x (way_of i)) ∙ o.0 in
          let both-are = both_true (goes_on g (way_of i) x) _ there in
          let to_in = is_in_lem cs (next g (way_of i) x) (both_true (is_in cs (next g (way_of i) x)) _ both-are.1).0 in
          record {
            lt = look_lt a b (length cs) h l;
            next = omega arith;
            there = there;
            border_is = o.2;
            cell_lt = rw c_is (small x from_in);
            from_is = rw (v, c_is) (vertex_is cs one small x from_in);
            into_is = rw (v, o.1) (vertex_is cs one small (next g (way_of i) x) to_in);
          }
