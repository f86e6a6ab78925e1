-- The two stages of the check, over the units that it finds in its own arrays. Assumes nothing.
use Prim.Native.Nat.{ℕ, ◌+◌, ◌*◌, ◌≤◌}
use mathlib.Core.Path.{◌≡◌, refl}
use mathlib.Core.Bool.{true, false}
use mathlib.Core.List.{List}
use native.Mathlib.Omega.{arith}
use lib.ListN.{length}
use Rattle.std.specs.Prelude as std
use Rattle.lists.specs.Lists.{range, first}
use Rattle.grid.specs.declared.Grid.{Grid}
use Rattle.grid.specs.Grid.{cells}
use Rattle.groups.specs.Groups.{group_ids, group_count}
use Rattle.groups.proofs.EdgeLaws.{ids_length}
use Rattle.images.specs.declared.Image.{Image}
use Rattle.shape.specs.Shape.{inner_wall, unit_fault, fault_in, shape_fault}
use Rattle.answers.specs.Answers.{Finds}
use Rattle.inner_walls.proofs.FindLaws.{finds_long, first_finds, next_finds}
use Rattle.unit_check.specs.Units.{unit_stage, Checked}

module _ (ms : List Image) (g : Grid) (states : List ℕ) where
  -- each cell's unit
  abbrev units : List ℕ
  units = group_ids g states false

  module _ {b b' : List ℕ} {r : std.Option ℕ} (t : Finds (inner_wall g states units) b b' r) where
    pub inner_fault : {n : ℕ} → r ≡ std.Some n → Finds (shape_fault ms g states) b b' (std.Some n)
    unfolding shape_fault fault_in
    inner_fault e =
        first_finds (inner_wall g states units) (first (unit_fault ms g states units (group_ids g states true) (group_count g states true)) (range (group_count g states false))) t e

    pub checked : (length ms + 8) * cells g ≤ length b → Checked (length ms) g g units (length b')
    checked h = record { units_of = refl; ids_long = ids_length g states false; enough = omega (arith, finds_long (inner_wall g states units) t) }

    pub units_found : r ≡ std.None → {b'' : List ℕ} {r' : std.Option ℕ} → Finds (unit_stage ms g states units (group_ids g states true) (group_count g states true) (group_count g states false)) b' b'' r'
        → Finds (shape_fault ms g states) b b'' r'
    unfolding shape_fault fault_in
    units_found e u = next_finds t e u
