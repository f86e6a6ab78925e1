-- Marks that are set for the potential units adjacent to one. Assumes nothing.
use Rattle.std.specs.Prelude.{ℕ, ◌<◌, ◌≡◌, not, List, eqb, get_or, length}
use Rattle.grid.specs.declared.Grid.{Grid}
use Rattle.grid.specs.Grid.{Cell}
use Rattle.shape.specs.Shape.{adjacent}
use Rattle.offsets.specs.declared.table.CellInfo.{CellInfo}
use Rattle.offsets.specs.Table.{potential_in, potentials_in}

-- exactly the potential units adjacent to p are marked
pub record Stamping (g : Grid) (states : List ℕ) (table : List CellInfo) (marks : List ℕ) (p : ℕ) : Type 0 where
  pub marks_long : (c : ℕ) → Cell g c → potential_in table c < length marks
  pub marked : (q : ℕ) → q < length marks → not (eqb (get_or marks q 0) 0) ≡ adjacent g states (potentials_in g table) p q
