-- What a row word of borders says of the cells that have them. Assumes nothing.
use Prim.Native.Nat.{ℕ, ◌+◌, ◌-◌, ◌*◌, ◌/◌, ◌%◌, ◌≤◌, ◌<◌}
use mathlib.Core.Path.{◌≡◌, refl, sym, ap, ◌∙◌}
use mathlib.Core.Logic.{⊎_elim}
use mathlib.Core.List.{List}
use native.Mathlib.Omega.{arith}
use borrow.Author.Tests.{le-leb, lt-leb, lt-ltb, le-ltb}
use lib.Dec.{eqb}
use lib.ListN.{get_or}
use Rattle.lists.specs.Choice.{both}
use Rattle.lists.proofs.Cases.{le_or_lt}
use Rattle.grid.specs.declared.Direction.TheVariants.{Up, Down, Left, Right}
use Rattle.grid.specs.declared.Grid.{Grid}
use Rattle.grid.specs.Grid.{goes_on, border, right_border, down_border}
use Rattle.grid.proofs.Geometry.{coords}
use Rattle.borders.specs.Border.{state_at, stands}
use Rattle.words.specs.Words.{bit}
use Rattle.words.proofs.WordLaws.{bit_zero}
use Rattle.border_words.specs.Filled.{SideWord}

module _ (g : Grid) (states : List ℕ) (k word y x : ℕ) (l : x < g.width) where
  -- row and column of the cell, and the column of its bit
  cell : ((y * g.width + x) / g.width ≡ y) × ((y * g.width + x) % g.width ≡ x)
  cell = coords g.width (y * g.width + x) y x l refl

  column : 32 + x - 32 ≡ x
  column = omega arith

  -- a row of borders right of cells, seen from the left and from the right
  pub right_says : SideWord (y * (g.width - 1)) (g.width - 1) states k word → bit word (32 + x) ≡ stands g states k Right (y * g.width + x)
  unfolding stands goes_on state_at border right_border
  right_says b =
      b (32 + x)
      ∙ rw (le-leb 32 (32 + x) (omega arith), cell.0, cell.1, column)
      (ap (λ t. both t (eqb (get_or states (y * (g.width - 1) + x) 0) k))
      (⊎_elim
      (λ (m : g.width ≤ x + 1). le-ltb (32 + x) (32 + (g.width - 1)) (omega arith) ∙ sym (le-ltb (x + 1) g.width m))
      (λ (m : x + 1 < g.width). lt-ltb (32 + x) (32 + (g.width - 1)) (omega arith) ∙ sym (lt-ltb (x + 1) g.width m))
      (le_or_lt g.width (x + 1))))

  pub left_says : SideWord (y * (g.width - 1)) (g.width - 1) states k word → bit word (32 + x - 1) ≡ stands g states k Left (y * g.width + x)
  unfolding stands goes_on state_at border right_border
  left_says b =
      b (32 + x - 1)
      ∙ ⊎_elim
      (λ (m : 1 ≤ x).
      rw (le-leb 32 (32 + x - 1) (omega arith), lt-ltb (32 + x - 1) (32 + (g.width - 1)) (omega arith), cell.0, cell.1, le-leb 1 x m, let e : 32 + x - 1 - 32 ≡ x - 1 = omega arith in e))
      (λ (m : x < 1). rw (lt-leb 32 (32 + x - 1) (omega arith), cell.1, lt-leb 1 x m))
      (le_or_lt 1 x)

  -- a row of borders under cells, seen from above and from below
  pub down_says : y + 1 < g.height → SideWord (g.height * (g.width - 1) + y * g.width) g.width states k word → bit word (32 + x) ≡ stands g states k Down (y * g.width + x)
  unfolding stands goes_on state_at border down_border
  down_says m b = b (32 + x) ∙ rw (le-leb 32 (32 + x) (omega arith), lt-ltb (32 + x) (32 + g.width) (omega arith), cell.0, cell.1, lt-ltb (y + 1) g.height m, column)

  pub up_says : 1 ≤ y → SideWord (g.height * (g.width - 1) + (y - 1) * g.width) g.width states k word → bit word (32 + x) ≡ stands g states k Up (y * g.width + x)
  unfolding stands goes_on state_at border down_border
  up_says m b = b (32 + x) ∙ rw (le-leb 32 (32 + x) (omega arith), lt-ltb (32 + x) (32 + g.width) (omega arith), cell.0, cell.1, le-leb 1 y m, column)

  -- a blank word: under the last row, and above the first
  pub down_none : g.height ≤ y + 1 → word ≡ 0 → bit word (32 + x) ≡ stands g states k Down (y * g.width + x)
  unfolding stands goes_on
  down_none m e = rw (e, cell.0, le-ltb (y + 1) g.height m) (bit_zero (32 + x))

  pub up_none : y < 1 → word ≡ 0 → bit word (32 + x) ≡ stands g states k Up (y * g.width + x)
  unfolding stands goes_on
  up_none m e = rw (e, cell.0, lt-leb 1 y m) (bit_zero (32 + x))
