-- What a path list says of the board, whatever found it. Assumes nothing.
use Prim.Native.Nat.{ℕ}
use mathlib.Core.List.{List, [], ◌∷◌}
use Rattle.grid.specs.declared.Grid.{Grid}
use Rattle.grid.specs.Steps.{Neighbours}
use Rattle.borders.specs.Entry.{connected_entry}

-- p lists, as Connected, borders that lead from a cell back to the start (SPEC 4.3)
pub data Leads (g : Grid) (start : ℕ) : ℕ → List ℕ → Type 0 where
  arrived : Leads g start start []
  over : {c x e : ℕ} {p : List ℕ} → Neighbours g c x e → Leads g start c p → Leads g start x (connected_entry e ∷ p)
