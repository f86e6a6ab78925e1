-- A row in which no Wall lies inside a unit: none of its cells has one to be found. Assumes nothing.
use Prim.Native.Nat.{ℕ, zero, suc, ◌+◌, ◌-◌, ◌*◌, ◌≤◌, ◌<◌}
use mathlib.Core.Path.{◌≡◌, refl, ap, sym, ◌∙◌}
use mathlib.Core.Logic.{◌≢◌, ⊎_elim}
use mathlib.Core.Bool.{true, false}
use mathlib.Core.List.{List}
use mathlib.Core.Option.{none}
use native.Mathlib.Nat.{suc-mul}
use native.Mathlib.Numerals.{add-one}
use native.Mathlib.Omega.{arith}
use borrow.Author.Tests.{ne_eqb}
use lib.ListN.{get_or}
use Rattle.lists.specs.Choice.{give, or_else}
use Rattle.lists.specs.Lists.{first}
use Rattle.lists.proofs.Cases.{eq_or_ne, true_or_false}
use Rattle.grid.specs.declared.Direction.{Direction}
use Rattle.grid.specs.declared.Direction.TheVariants.{Down, Right}
use Rattle.grid.specs.declared.Grid.{Grid}
use Rattle.grid.specs.Grid.{Cell, cells, row, col, goes_on, next, border}
use Rattle.grid.specs.Orders.{forward}
use Rattle.grid.proofs.Geometry.{Step, coords, goes_step, down_number, row_lt, col_lt}
use Rattle.borders.specs.Fits.{Fits}
use Rattle.borders.specs.Border.{state_at, stands}
use Rattle.shape.specs.Shape.{inner_at}
use Rattle.inner_walls.specs.Asked.{RowHasNone}
use Rattle.inner_walls.proofs.FindLaws.{finds_none, range_on}
use Rattle.inner_walls.proofs.InnerLaws.{Passed, here}

module _ {g : Grid} {states : List ℕ} (ids : List ℕ) (f : Fits g states) {c : ℕ} (cell : Cell g c) where
  -- a border whose cells are of two units where it is a Wall
  apart : (d : Direction) → (goes_on g d c ≡ true → get_or states (border g d c) 0 ≡ 2 → get_or ids c 0 ≢ get_or ids (next g d c) 0) → inner_at g states ids c d ≡ none
  unfolding inner_at give stands state_at
  apart d two =
      ⊎_elim
      (λ (t : goes_on g d c ≡ true).
      ⊎_elim
      (λ (w : get_or states (border g d c) 0 ≡ 2). rw (t, w, ne_eqb (get_or ids c 0) (get_or ids (next g d c) 0) (two t w)) refl)
      (λ (w : get_or states (border g d c) 0 ≢ 2). rw (t, ne_eqb (get_or states (border g d c) 0) 2 w) refl)
      (eq_or_ne (get_or states (border g d c) 0) 2))
      (λ (t : goes_on g d c ≡ false). rw t refl)
      (true_or_false (goes_on g d c))

  module _ {y x : ℕ} (n : RowHasNone g states ids y) (k : x < g.width) (c-is : c ≡ y * g.width + x) where
    at : (row g c ≡ y) × (col g c ≡ x)
    at = coords g.width c y x k c-is

    none_down : inner_at g states ids c Down ≡ none
    unfolding next
    none_down =
        apart Down
        (λ t w same.
        let s : Step g Down c (next g Down c) (border g Down c) = goes_step g Down c cell t in
        let more : y + 1 < g.height = omega (arith, s.beside.0, at.0, row_lt g (next g Down c) s.cell') in
        n.down more x k
        (ap (λ e. get_or states e 0) (omega (arith, c-is, down_number g c)) ∙ w)
        (ap (λ i. get_or ids i 0) (sym c-is) ∙ same ∙ ap (λ i. get_or ids i 0) (omega (arith, c-is))))

    none_right : inner_at g states ids c Right ≡ none
    unfolding next border
    none_right =
        apart Right
        (λ t w same.
        let s : Step g Right c (next g Right c) (border g Right c) = goes_step g Right c cell t in
        let wide : x < g.width - 1 = omega (arith, s.beside.1, at.1, col_lt g (next g Right c) s.cell') in
        n.right x wide
        (ap (λ e. get_or states e 0) (rw (← at.0, ← at.1) refl) ∙ w)
        (ap (λ i. get_or ids i 0) (sym c-is) ∙ same ∙ ap (λ i. get_or ids i 0) (omega (arith, c-is))))

    none_forward : first (inner_at g states ids c) forward ≡ none
    unfolding first or_else
    none_forward = rw (none_down, none_right) refl

-- the cells of a row passed, in which none is found
pub row_passed : {g : Grid} {states ids b₀ b : List ℕ} → Fits g states → (y : ℕ) → y < g.height → RowHasNone g states ids y → Passed g states ids b₀ b (y * g.width)
    → Passed g states ids b₀ b ((y + 1) * g.width)
row_passed {g} {states} {ids} {b₀} {b} f y h n s =
    let e : (y + 1) * g.width ≡ y * g.width + g.width = omega (arith, add-one y, suc-mul y g.width) in rw e (upto g.width (omega arith))
  where
    upto : (x : ℕ) → x ≤ g.width → Passed g states ids b₀ b (y * g.width + x)
    upto zero l = rw (let e : y * g.width + 0 ≡ y * g.width = omega arith in e) s
    upto (suc x) l =
        let c = y * g.width + x in
        let cell : Cell g c = here (h, (let k : x < g.width = omega arith in k)) in
        rw (let e : c + 1 ≡ y * g.width + suc x = omega arith in sym e)
        (range_on (λ c. first (inner_at g states ids c) forward) (cells g) (upto x (omega arith)) cell (finds_none (none_forward ids f cell n (omega arith) refl)) refl)
