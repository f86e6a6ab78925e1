-- One Wall of the stage of inner Walls, by what the code tests. Assumes nothing.
use Prim.Native.Nat.{ℕ, suc, ◌+◌, ◌*◌, ◌≤◌, ◌<◌}
use mathlib.Core.Path.{◌≡◌, sym}
use mathlib.Core.Logic.{◌≢◌}
use mathlib.Core.List.{List, [], ◌∷◌, ◌++◌}
use mathlib.Core.Option.{some}
use native.Mathlib.Omega.{arith}
use Rattle.std.proofs.lemmas.Nat.{mul-add-lt}
use borrow.Author.Tests.{eq-eqb, ne_eqb}
use lib.ListN.{get_or, length, set, length-append}
use lib.Seq.{sets}
use Rattle.limits.specs.Limits.{most_borders}
use Rattle.lists.specs.Choice.{give}
use Rattle.grid.specs.declared.Direction.{Direction}
use Rattle.std.specs.Prelude.{Option, Some, None}
use Rattle.grid.specs.declared.Neighbour.{Neighbour}
use Rattle.grid.specs.Neighbours.{neighbour_in}
use Rattle.borders.specs.Fits.{Fits}
use Rattle.grid.specs.declared.Grid.{Grid}
use Rattle.grid.specs.Grid.{Cell, cells}
use Rattle.grid.specs.Steps.{Step}
use Rattle.grid.proofs.Geometry.{goes_step, border_lt, border_count_le}
use Rattle.borders.specs.Entry.{wall_entry}
use Rattle.borders.specs.Border.{state_at, stands}
use Rattle.path.specs.Path.{path_list}
use Rattle.path.proofs.PathLaws.{path_list_short}
use Rattle.grid.proofs.Told.{some_told, none_told}
use Rattle.shape.specs.Shape.{inner_at}
use Rattle.answers.specs.Answers.{Finds}
use Rattle.inner_walls.specs.Asked.{Asked}
use Rattle.inner_walls.proofs.FindLaws.{Searched, finds_none}
use Rattle.lists.specs.Lists.{first, range}
use Rattle.grid.specs.Orders.{forward}

-- an entry behind a list
sets_last : (xs b : List ℕ) (at x : ℕ) → sets b at (xs ++ (x ∷ [])) ≡ set (sets b at xs) (at + length xs) x
sets_last [] b at x = let q : at + 0 ≡ at = omega arith in rw q
sets_last (y ∷ xs) b at x = let q : at + suc (length xs) ≡ suc at + length xs = omega arith in rw q (sets_last xs (set b at y) (suc at) x)

-- the cell of a row and a column
pub here : {g : Grid} {y x : ℕ} → (y < g.height) × (x < g.width) → Cell g (y * g.width + x)
here {g} {y} {x} h = omega (arith, mul-add-lt y g.width x g.height h.0 h.1)

-- what a Wall of these units asks
pub asked : {g : Grid} {ids b : List ℕ} → cells g ≤ length ids → 9 * cells g ≤ length b → Asked g ids b
asked h room = record { ids_long = h; room = room }

module _ {g : Grid} {states ids b : List ℕ} (f : Fits g states) (a : Asked g ids b) {c : ℕ} (cell : Cell g c) (d : Direction) {r : Option Neighbour} (is : r ≡ neighbour_in g d c) where
  pub at_end : r ≡ None → Finds (inner_at g states ids c d) b b None
  unfolding inner_at give stands
  at_end k = finds_none (rw (none_told g d c is k))

  module _ {n e : ℕ} (at : r ≡ Some (record { cell = n; border = e })) where
    there : Step g d c n e
    there = let t = some_told g d c is at in rw (t.1, t.2) (goes_step g d c cell t.0)

    pub border_fits : e < length states
    border_fits = omega (arith, border_lt g d c n e there, f.borders)

    pub border_small : e < most_borders
    border_small = omega (arith, border_lt g d c n e there, border_count_le g f.limits)

    pub next_fits : n < length ids
    next_fits = omega (arith, there.cell', a.ids_long)

    pub two_cells : Cell g c × Cell g n
    two_cells = (cell, there.cell')

    pub no_wall : get_or states e 0 ≢ 2 → Finds (inner_at g states ids c d) b b None
    unfolding inner_at give stands state_at
    no_wall z = let t = some_told g d c is at in finds_none (rw (t.0, ← t.2, ne_eqb (get_or states e 0) 2 z))

    module _ (wall : get_or states e 0 ≡ 2) where
      pub two_units : get_or ids c 0 ≢ get_or ids n 0 → Finds (inner_at g states ids c d) b b None
      unfolding inner_at give stands state_at
      two_units z =
          let t = some_told g d c is at in
          finds_none (rw (t.0, ← t.2, wall, ← t.1, ne_eqb (get_or ids c 0) (get_or ids n 0) z))

      module _ {k : ℕ} (long : k ≡ length (path_list g states c n)) where
        pub short : k < cells g
        short = omega (arith, path_list_short g states c n cell)

        pub wall_found : {b' : List ℕ} → get_or ids c 0 ≡ get_or ids n 0 → b' ≡ sets b 0 (path_list g states c n)
            → Finds (inner_at g states ids c d) b (set b' k (2 * e + 1)) (Some (k + 1))
        unfolding inner_at give stands state_at
        wall_found same stored =
            let t = some_told g d c is at in
            let p : List ℕ = path_list g states c n in
            let found : inner_at g states ids c d ≡ some (p ++ (wall_entry e ∷ [])) = rw (t.0, ← t.2, wall, ← t.1, eq-eqb (get_or ids c 0) (get_or ids n 0) same) in
            rw found
            record {
              answer = rw (long, length-append p (wall_entry e ∷ []));
              stored = rw (stored, long) (let z : 0 + length p ≡ length p = omega arith in sym (rw z at (sets_last p b 0 (2 * e + 1))));
            }

-- the cells passed have no Wall inside their units
abbrev pub Passed : Grid → List ℕ → List ℕ → List ℕ → List ℕ → ℕ → Type 0
Passed g states ids b₀ b c = Searched (λ c. first (inner_at g states ids c) forward) (range (cells g)) 0 b₀ b c
