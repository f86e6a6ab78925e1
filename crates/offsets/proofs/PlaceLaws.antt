-- A border's place, moved as the unit is, is that of the same border of the cell on which its cell falls. Assumes nothing.
use Prim.Native.Nat.{ℕ, suc, zero, ◌+◌, ◌-◌, ◌*◌, ◌/◌, ◌%◌, ◌<◌, ◌≤◌}
use mathlib.Core.Path.{◌≡◌, refl, ap, ap₂, sym, ◌∙◌}
use mathlib.Core.Bool.{true, false}
use mathlib.Core.Logic.{⊎_elim}
use native.Mathlib.Omega.{arith}
use native.Mathlib.Nat.{div-lt_iff_lt-mul, suc-mul}
use borrow.Author.Tests.{ne_eqb, lt-ltb, le-ltb, lt-leb, le-leb}
use lib.Dec.{eqb}
use Rattle.std.specs.Prelude.{None}
use lib.IntN.{ℤ, pos, negsuc, ◌+ℤ◌, ◌-ℤ◌, neg_ℤ, sub_ℕ, +ℤ_assoc, +ℤ_comm, +ℤ-neg_ℤ_cancel}
use Rattle.lists.proofs.Cases.{le_or_lt}
use Rattle.lists.specs.Choice.{pick}
use Rattle.grid.specs.declared.Direction.{Direction}
use Rattle.grid.specs.declared.Direction.TheVariants.{Up, Down, Left, Right}
use Rattle.grid.specs.declared.Grid.{Grid}
use Rattle.grid.specs.Grid.{Limits, Cell, On, row, col, goes_on, next, border}
use Rattle.grid.specs.Neighbours.{neighbour_in}
use Rattle.grid.specs.Steps.{opposite}
use Rattle.grid.proofs.Geometry.{coords, goes_step, step_back, step_goes}
use Rattle.offsets.proofs.Signed.{Negative}
use Rattle.offsets.specs.Places.{ahead_of, coordinate_of, border_of, border_at, land_of}

rearrange : (A s T F Y : ℤ) → A +ℤ T ≡ Y +ℤ F → (A +ℤ s) +ℤ (T -ℤ F) ≡ Y +ℤ s
rearrange A s T F Y q =
    sym (+ℤ_assoc (A +ℤ s) T (neg_ℤ F))
    ∙ ap (λ z. z -ℤ F)
    (+ℤ_assoc A s T ∙ ap (λ z. A +ℤ z) (+ℤ_comm s T) ∙ sym (+ℤ_assoc A T s) ∙ ap (λ z. z +ℤ s) q ∙ +ℤ_assoc Y F s ∙ ap (λ z. Y +ℤ z) (+ℤ_comm F s) ∙ sym (+ℤ_assoc Y s F))
    ∙ +ℤ-neg_ℤ_cancel (Y +ℤ s) F

-- a negative coordinate is outside
pub above : (g : Grid) (y x : ℤ) → Negative y → None ≡ land_of g y x
unfolding land_of
above g y x n = rw n.1 (go x)
  where
    go : (x : ℤ) → None ≡ land_of g (negsuc n.0) x
    go (pos x) = refl
    go (negsuc x) = refl

pub beside : (g : Grid) (y x : ℤ) → Negative x → None ≡ land_of g y x
unfolding land_of
beside g y x n = rw n.1 (go y)
  where
    go : (y : ℤ) → None ≡ land_of g y (negsuc n.0)
    go (pos y) = refl
    go (negsuc y) = refl

-- moved from `from` to `to`, the place of a coordinate that falls on y is y's
pub coordinate_moves : (at y from to : ℕ) (ahead : ℤ) → at + to ≡ y + from → coordinate_of at ahead from to ≡ pos (2 * y) +ℤ ahead
unfolding coordinate_of
coordinate_moves at y from to ahead q =
    rearrange (pos (2 * at)) ahead (pos (2 * to)) (pos (2 * from)) (pos (2 * y)) (ap pos (let k : 2 * at + 2 * to ≡ 2 * y + 2 * from = omega arith in k))

one_less : (n : ℕ) → sub_ℕ (2 * suc n) 1 ≡ pos (2 * n + 1)
one_less n = rw (le-ltb (2 * suc n) 1 (let k : 1 ≤ 2 * suc n = omega arith in k)) (ap pos (let k : 2 * suc n - 1 ≡ 2 * n + 1 = omega arith in k))

module _ (g : Grid) (l : Limits g) where
  pub on_place : (Y X c : ℕ) (d : Direction) → Y < 2 * g.height - 1 → X < 2 * g.width - 1 → pick (eqb (Y % 2) 1) Down Right ≡ d → Y / 2 * g.width + X / 2 ≡ c
      → border_at g Y X ≡ border_of (neighbour_in g d c)
  unfolding border_at
  on_place Y X c d p q r e = rw (lt-ltb Y (2 * g.height - 1) p, lt-ltb X (2 * g.width - 1) q, r, e)

  pub off_rows : (Y X : ℕ) → 2 * g.height - 1 ≤ Y → border_at g Y X ≡ None
  unfolding border_at
  off_rows Y X p = rw (le-ltb Y (2 * g.height - 1) p)

  pub off_cols : (Y X : ℕ) → Y < 2 * g.height - 1 → 2 * g.width - 1 ≤ X → border_at g Y X ≡ None
  unfolding border_at
  off_cols Y X p q = rw (lt-ltb Y (2 * g.height - 1) p, le-ltb X (2 * g.width - 1) q)

  pub halved_cell : (Y X : ℕ) → Y < 2 * g.height - 1 → X < 2 * g.width - 1 → Cell g (Y / 2 * g.width + X / 2)
  halved_cell Y X p q =
      let x : X / 2 < g.width = omega arith in
      let y : Y / 2 < g.height = omega arith in
      let k = coords g.width (Y / 2 * g.width + X / 2) (Y / 2) (X / 2) x refl in
      (div-lt_iff_lt-mul (let w : 0 < g.width = omega arith in w)).0 (let r : row g (Y / 2 * g.width + X / 2) < g.height = omega arith in r)

  pub halved_on : (Y X : ℕ) → Y < 2 * g.height - 1 → X < 2 * g.width - 1
      → let c = Y / 2 * g.width + X / 2 in On g c × (Y / 2 ≡ row g c) × (X / 2 ≡ col g c)
  halved_on Y X p q =
      let k = coords g.width (Y / 2 * g.width + X / 2) (Y / 2) (X / 2) (omega arith) refl in
      (record { limits = l; cell = halved_cell Y X p q }, sym k.0, sym k.1)

  -- a border seen from the cell behind it
  from_behind : (d : Direction) (c : ℕ) → Cell g c → goes_on g d c ≡ true → border_of (neighbour_in g (opposite d) (next g d c)) ≡ border_of (neighbour_in g d c)
  from_behind d c k q =
      let s = goes_step g d c k q in
      let b = step_back g d c (next g d c) (border g d c) s in
      rw (q, step_goes g (opposite d) (next g d c) c (border g d c) b, ← b.over)

  ended : (d : Direction) (c : ℕ) → goes_on g d c ≡ false → None ≡ border_of (neighbour_in g d c)
  ended d c q = rw q

  module _ (y x : ℕ) (hy : y < g.height) (hx : x < g.width) where
    w0 : 0 < g.width
    w0 = omega arith

    cell_at : Cell g (y * g.width + x)
    cell_at = (div-lt_iff_lt-mul w0).0 (let k : row g (y * g.width + x) < g.height = omega (arith, coords g.width (y * g.width + x) y x hx refl) in k)

    row_is : row g (y * g.width + x) ≡ y
    row_is = (coords g.width (y * g.width + x) y x hx refl).0

    col_is : col g (y * g.width + x) ≡ x
    col_is = (coords g.width (y * g.width + x) y x hx refl).1

  -- the place of the border of the cell at (y, x), in each direction
  lands_down : (y x : ℕ) → y < g.height → x < g.width → land_of g (pos (2 * y + 1)) (pos (2 * x + 0)) ≡ border_of (neighbour_in g Down (y * g.width + x))
  unfolding land_of goes_on
  lands_down y x hy hx =
      ⊎_elim
      (λ (k : g.height ≤ y + 1).
      off_rows (2 * y + 1) (2 * x + 0) (omega arith) ∙ ended Down (y * g.width + x) (le-ltb (row g (y * g.width + x) + 1) g.height (omega (arith, row_is y x hy hx))))
      (λ (k : y + 1 < g.height).
      on_place (2 * y + 1) (2 * x + 0) (y * g.width + x) Down (omega arith) (omega arith) (rw (let q : (2 * y + 1) % 2 ≡ 1 = omega arith in q))
      (ap₂ (λ a b. a * g.width + b) (let q : (2 * y + 1) / 2 ≡ y = omega arith in q) (let q : (2 * x + 0) / 2 ≡ x = omega arith in q)))
      (le_or_lt g.height (y + 1))

  lands_right : (y x : ℕ) → y < g.height → x < g.width → land_of g (pos (2 * y + 0)) (pos (2 * x + 1)) ≡ border_of (neighbour_in g Right (y * g.width + x))
  unfolding land_of goes_on
  lands_right y x hy hx =
      ⊎_elim
      (λ (k : g.width ≤ x + 1).
      off_cols (2 * y + 0) (2 * x + 1) (omega arith) (omega arith) ∙ ended Right (y * g.width + x) (le-ltb (col g (y * g.width + x) + 1) g.width (omega (arith, col_is y x hy hx))))
      (λ (k : x + 1 < g.width).
      on_place (2 * y + 0) (2 * x + 1) (y * g.width + x) Right (omega arith) (omega arith) (rw (ne_eqb ((2 * y + 0) % 2) 1 (λ q. omega arith)))
      (ap₂ (λ a b. a * g.width + b) (let q : (2 * y + 0) / 2 ≡ y = omega arith in q) (let q : (2 * x + 1) / 2 ≡ x = omega arith in q)))
      (le_or_lt g.width (x + 1))

  lands_up : (y x : ℕ) → y < g.height → x < g.width → land_of g (sub_ℕ (2 * y) 1) (pos (2 * x + 0)) ≡ border_of (neighbour_in g Up (y * g.width + x))
  unfolding land_of goes_on next
  lands_up zero x hy hx = ended Up (0 * g.width + x) (lt-leb 1 (row g (0 * g.width + x)) (omega (arith, row_is 0 x hy hx)))
  lands_up (suc y) x hy hx =
      let c = suc y * g.width + x in
      let q : next g Up c ≡ y * g.width + x = omega (arith, suc-mul y g.width) in
      let on : 1 ≤ row g c = omega (arith, row_is (suc y) x hy hx) in
      ap (λ z. land_of g z (pos (2 * x + 0))) (one_less y)
      ∙ lands_down y x (omega arith) hx
      ∙ ap (λ n. border_of (neighbour_in g Down n)) (sym q)
      ∙ from_behind Up c (cell_at (suc y) x hy hx) (le-leb 1 (row g c) on)

  lands_left : (y x : ℕ) → y < g.height → x < g.width → land_of g (pos (2 * y + 0)) (sub_ℕ (2 * x) 1) ≡ border_of (neighbour_in g Left (y * g.width + x))
  unfolding land_of goes_on next
  lands_left y zero hy hx = ended Left (y * g.width + 0) (lt-leb 1 (col g (y * g.width + 0)) (omega (arith, col_is y 0 hy hx)))
  lands_left y (suc x) hy hx =
      let c = y * g.width + suc x in
      let q : next g Left c ≡ y * g.width + x = omega arith in
      let on : 1 ≤ col g c = omega (arith, col_is y (suc x) hy hx) in
      ap (λ z. land_of g (pos (2 * y + 0)) z) (one_less x)
      ∙ lands_right y x hy (omega arith)
      ∙ ap (λ n. border_of (neighbour_in g Right n)) (sym q)
      ∙ from_behind Left c (cell_at y (suc x) hy hx) (le-leb 1 (col g c) on)

  pub place_lands : (y x : ℕ) → y < g.height → x < g.width → (d : Direction)
      → land_of g (pos (2 * y) +ℤ (ahead_of d).y) (pos (2 * x) +ℤ (ahead_of d).x) ≡ border_of (neighbour_in g d (y * g.width + x))
  place_lands y x hy hx Up = lands_up y x hy hx
  place_lands y x hy hx Down = lands_down y x hy hx
  place_lands y x hy hx Left = lands_left y x hy hx
  place_lands y x hy hx Right = lands_right y x hy hx
