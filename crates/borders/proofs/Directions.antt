-- Two neighbours are told once, from the upper or left one; and the orders in which directions are gone through leave none out. Assumes nothing.
use Prim.Native.Nat.{ℕ}
use mathlib.Core.Path.{refl}
use mathlib.Core.Logic.{◌⊎◌, inl, inr}
use Rattle.lists.specs.Lists.{In}
use Rattle.grid.specs.declared.Direction.{Direction}
use Rattle.grid.specs.declared.Direction.TheVariants.{Up, Down, Left, Right}
use Rattle.grid.specs.Orders.{around, forward, unit_order}
use Rattle.grid.specs.declared.Grid.{Grid}
use Rattle.grid.specs.Steps.{Step, Neighbours}
use Rattle.grid.proofs.Geometry.{step_back}

-- c lies down or right of a, over border e
abbrev pub Ahead : Grid → ℕ → ℕ → ℕ → Type 0
Ahead g a c e = (d : Direction) × In d forward × Step g d a c e

pub down_or_right : (g : Grid) (a c e : ℕ) → Neighbours g a c e → Ahead g a c e ⊎ Ahead g c a e
down_or_right g a c e n = go n.0 n.1
  where
    go : (d : Direction) → Step g d a c e → Ahead g a c e ⊎ Ahead g c a e
    go Up s = inr (Down, inl refl, step_back g Up a c e s)
    go Down s = inl (Down, inl refl, s)
    go Left s = inr (Right, inr (inl refl), step_back g Left a c e s)
    go Right s = inl (Right, inr (inl refl), s)

pub in_around : (d : Direction) → In d around
in_around Up = inl refl
in_around Down = inr (inl refl)
in_around Left = inr (inr (inl refl))
in_around Right = inr (inr (inr (inl refl)))

-- the order of a unit's boundary list
pub in_unit_order : (d : Direction) → In d unit_order
in_unit_order Up = inl refl
in_unit_order Down = inr (inr (inl refl))
in_unit_order Left = inr (inl refl)
in_unit_order Right = inr (inr (inr (inl refl)))
