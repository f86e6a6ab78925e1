-- One look from a cell of a room: a law for each way out, the places that are read, and what the answer tells. Assumes nothing.
use Prim.Native.Nat.{ℕ, ◌<◌}
use mathlib.Core.Path.{◌≡◌, sym, ◌∙◌}
use mathlib.Core.Logic.{◌≢◌}
use mathlib.Core.Bool.{Bool, true, false}
use mathlib.Core.List.{List}
use borrow.Author.Tests.{eq-eqb, ne_eqb}
use lib.ListN.{get_or}
use Rattle.std.specs.Prelude.{Option, Some, None}
use Rattle.grid.specs.declared.Direction.{Direction}
use Rattle.grid.specs.declared.Neighbour.{Neighbour}
use Rattle.grid.specs.declared.Grid.{Grid}
use Rattle.grid.specs.Grid.{Cell, cells, goes_on, next, border, border_count}
use Rattle.grid.specs.Neighbours.{neighbour_in}
use Rattle.grid.specs.Steps.{Step}
use Rattle.grid.proofs.Geometry.{goes_step, border_lt}
use Rattle.grid.proofs.Told.{went, not_gone, some_told}
use Rattle.rooms.specs.RoomGraph.{in_room}
use Rattle.rooms.specs.Lent.{marked_in, edge_of}

module _ (g : Grid) (marks vertex : List ℕ) (c : ℕ) (d : Direction) where
  abbrev there : Bool
  there = in_room g (marked_in marks) (marked_in vertex) c d

  pub edge_told : {b : Option Neighbour} {n : Neighbour} → b ≡ edge_of g marks vertex c d → b ≡ Some n
      → (in_room g (marked_in marks) (marked_in vertex) c d ≡ true) × (n.cell ≡ next g d c) × (n.border ≡ border g d c)
  edge_told {n = n} p q = went there (record { cell = next g d c; border = border g d c }) n (sym p ∙ q)

  pub none_told : {b : Option Neighbour} → b ≡ edge_of g marks vertex c d → ((n : Neighbour) → b ≡ Some n → ⊥) → in_room g (marked_in marks) (marked_in vertex) c d ≡ false
  none_told p k = not_gone there (record { cell = next g d c; border = border g d c }) (λ n q. k n (p ∙ q))

  pub at_end : goes_on g d c ≡ false → None ≡ edge_of g marks vertex c d
  unfolding in_room
  at_end q = rw q

  -- a neighbour
  module _ (inside : Cell g c) {n : Neighbour} {b : Option Neighbour} (p : b ≡ neighbour_in g d c) (t : b ≡ Some n) where
    step : Step g d c (next g d c) (border g d c)
    step = goes_step g d c inside (some_told g d c p t).0

    pub cell_lt : n.cell < cells g
    cell_lt = rw (some_told g d c p t).1 step.cell'

    pub border_fits : n.border < border_count g
    border_fits = rw (some_told g d c p t).2 (border_lt g d c (next g d c) (border g d c) step)

    pub no_vertex : get_or vertex n.cell 0 ≡ 0 → None ≡ edge_of g marks vertex c d
    unfolding in_room
    no_vertex z = let o = some_told g d c p t in rw (o.0, eq-eqb (get_or vertex (next g d c) 0) 0 (rw o.1 at z))

    pub wall_there_lem : get_or vertex n.cell 0 ≢ 0 → get_or marks n.border 0 ≢ 0 → None ≡ edge_of g marks vertex c d
    unfolding in_room
    wall_there_lem y z =
        let o = some_told g d c p t in
        rw (o.0, ne_eqb (get_or vertex (next g d c) 0) 0 (rw o.1 at y), ne_eqb (get_or marks (border g d c) 0) 0 (rw o.2 at z))

    pub edge_there : get_or vertex n.cell 0 ≢ 0 → get_or marks n.border 0 ≡ 0 → Some n ≡ edge_of g marks vertex c d
    unfolding in_room
    edge_there y z =
        let o = some_told g d c p t in
        sym t ∙ p ∙ rw (o.0, ne_eqb (get_or vertex (next g d c) 0) 0 (rw o.1 at y), eq-eqb (get_or marks (border g d c) 0) 0 (rw o.2 at z))
