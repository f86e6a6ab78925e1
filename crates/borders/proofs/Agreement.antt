-- The tests of a cell's border read one of the board's borders, or none: they agree on states that agree below the border count. Assumes nothing.
use Prim.Native.Nat.{ℕ, ◌<◌}
use mathlib.Core.Path.{◌≡◌, ap}
use mathlib.Core.Bool.{true}
use mathlib.Core.List.{List}
use lib.Dec.{eqb}
use Rattle.grid.specs.declared.Direction.{Direction}
use Rattle.grid.specs.declared.Grid.{Grid}
use Rattle.grid.specs.Grid.{Cell, goes_on, next, border, border_count}
use Rattle.grid.proofs.Geometry.{goes_step, border_lt}
use Rattle.borders.specs.Border.{state_of, state_at, stands}
use Rattle.borders.proofs.Congruence.{both_same}

-- the same borders stand
abbrev pub Agree : Grid → List ℕ → List ℕ → Type 0
Agree g a b = (e : ℕ) → e < border_count g → state_of a e ≡ state_of b e

module _ (g : Grid) (a b : List ℕ) (agree : Agree g a b) (d : Direction) (c : ℕ) (cell : Cell g c) where
  pub border_reads : goes_on g d c ≡ true → state_of a (border g d c) ≡ state_of b (border g d c)
  border_reads q = agree (border g d c) (border_lt g d c (next g d c) (border g d c) (goes_step g d c cell q))

  pub state_reads : goes_on g d c ≡ true → state_at g a d c ≡ state_at g b d c
  unfolding state_at
  state_reads q = border_reads q

  pub stands_reads : (k : ℕ) → stands g a k d c ≡ stands g b k d c
  unfolding stands
  stands_reads k = both_same (goes_on g d c) (eqb (state_at g a d c) k) (eqb (state_at g b d c) k) (λ q. ap (λ s. eqb s k) (state_reads q))
