-- A Wall's entry stands exactly where the border is a Wall, a Connected one's where it is Connected. Assumes nothing.
use Prim.Native.Nat.{ℕ, ◌+◌, ◌/◌, ◌%◌}
use mathlib.Core.Path.{◌≡◌, ap, sym, ◌∙◌}
use native.Mathlib.Omega.{arith}
use Rattle.borders.specs.Entry.{connected_entry, wall_entry, Stands}

wall_border : (e : ℕ) → wall_entry e / 2 ≡ e
wall_border e = omega arith

wall_kind : (e : ℕ) → wall_entry e % 2 + 1 ≡ 2
wall_kind e = omega arith

connected_border : (e : ℕ) → connected_entry e / 2 ≡ e
connected_border e = omega arith

connected_kind : (e : ℕ) → connected_entry e % 2 + 1 ≡ 1
connected_kind e = omega arith

module _ (s : ℕ → ℕ) (e : ℕ) where
  pub stands_wall : Stands s (wall_entry e) → s e ≡ 2
  stands_wall q = ap s (sym (wall_border e)) ∙ q ∙ wall_kind e

  pub wall_stands : s e ≡ 2 → Stands s (wall_entry e)
  wall_stands q = ap s (wall_border e) ∙ q ∙ sym (wall_kind e)

  pub stands_connected : Stands s (connected_entry e) → s e ≡ 1
  stands_connected q = ap s (sym (connected_border e)) ∙ q ∙ connected_kind e

  pub connected_stands : s e ≡ 1 → Stands s (connected_entry e)
  connected_stands q = ap s (connected_border e) ∙ q ∙ sym (connected_kind e)
