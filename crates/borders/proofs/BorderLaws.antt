-- What the test of a border says: there is one, and it has that state; and back, for a step over such a border. Assumes nothing.
use Prim.Native.Nat.{ℕ}
use mathlib.Core.Path.{◌≡◌, ap, sym, ◌∙◌}
use mathlib.Core.Bool.{true}
use mathlib.Core.List.{List}
use borrow.Author.Tests.{eqb-true, eq-eqb}
use lib.Dec.{eqb}
use Rattle.lists.proofs.ChoiceLaws.{both_true, true_both}
use Rattle.grid.specs.declared.Direction.{Direction}
use Rattle.grid.specs.declared.Grid.{Grid}
use Rattle.grid.specs.Grid.{Cell, goes_on, next, border}
use Rattle.grid.specs.Steps.{Step}
use Rattle.grid.proofs.Geometry.{goes_step, step_goes}
use Rattle.borders.specs.Border.{state_of, state_at, stands}

module _ (g : Grid) (states : List ℕ) (k : ℕ) (d : Direction) (c : ℕ) where
  pub stands_state : stands g states k d c ≡ true → state_of states (border g d c) ≡ k
  unfolding stands state_at
  stands_state q = eqb-true _ k (both_true (goes_on g d c) (eqb (state_at g states d c) k) q).1

  pub stands_step : Cell g c → stands g states k d c ≡ true → Step g d c (next g d c) (border g d c)
  unfolding stands
  stands_step l q = goes_step g d c l (both_true (goes_on g d c) (eqb (state_at g states d c) k) q).0

  pub step_stands : (c' e : ℕ) → Step g d c c' e → state_of states e ≡ k → stands g states k d c ≡ true
  unfolding stands state_at
  step_stands c' e s q =
      true_both (goes_on g d c) (eqb (state_at g states d c) k) (step_goes g d c c' e s) (eq-eqb _ k (sym (ap (state_of states) s.over) ∙ q))
