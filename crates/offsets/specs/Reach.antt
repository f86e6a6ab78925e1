-- Where the cells of a unit fall, and whether the offset is passed over. Assumes nothing.
use Rattle.std.specs.Prelude.{ℕ, ◌+◌, ◌*◌, ◌<◌, Bool, not, List, eqb, get_or}
use Rattle.std.proofs.Math.Option.{Option, some}
use Rattle.lists.specs.Choice.{both, holds, through}
use Rattle.lists.specs.Lists.{all, any}
use Rattle.grid.specs.declared.Grid.{Grid}
use Rattle.grid.specs.Grid.{Limits}
use Rattle.shape.specs.Shape.{along}
use Rattle.offsets.specs.declared.shift.Shift.{Shift}
use Rattle.images.specs.declared.Spot.{Spot}
use Rattle.images.specs.Images.{spot, spot_in}

-- the cell on which the cell at a row and column falls: its place in the image is moved (SPEC 4.8, 14.2)
unfoldable pub moved : Grid → Shift → Spot → Option ℕ
moved g s p =
    let at = spot_in g s.image p in
    through (along g.height s.from.row s.to.row at.row) (λ b. through (along g.width s.from.col s.to.col at.col) (λ a. some (b * g.width + a)))

-- a row and a column of the board
abbrev pub InGrid : Grid → Spot → Type 0
InGrid g p = (p.row < g.height) × (p.col < g.width)

-- sums of these fit, and of those of a shift
abbrev pub Bounded : Spot → Type 0
Bounded p = (p.row < 32) × (p.col < 32)

pub record Small (g : Grid) (s : Shift) : Type 0 where
  pub limits : Limits g
  pub from : Bounded s.from
  pub to : Bounded s.to

-- c falls on the board and off the unit
abbrev pub falls_off : Grid → Shift → List ℕ → ℕ → Bool
falls_off g s ids c = holds (moved g s (spot g c)) (λ x. not (eqb (get_or ids x 0) s.unit))

-- c falls in a marked potential unit
abbrev pub falls_marked : Grid → Shift → List ℕ → List ℕ → ℕ → Bool
falls_marked g s pids marks c = holds (moved g s (spot g c)) (λ x. not (eqb (get_or marks (get_or pids x 0) 0) 0))

unfoldable pub reaches_of : Grid → Shift → List ℕ → List ℕ → List ℕ → List ℕ → Bool
unfolding all any
reaches_of g s ids pids marks cs = both (all (falls_off g s ids) cs) (any (falls_marked g s pids marks) cs)
