-- Which cells have a Wall or the board's edge on a side: one cell, all of them, and what is known of those that have none. Assumes nothing.
use Prim.Native.Nat.{ℕ, ◌+◌, ◌-◌, ◌*◌, ◌/◌, ◌%◌, ◌≤◌}
use mathlib.Core.Path.{◌≡◌, refl, ap, sym, ◌∙◌}
use mathlib.Core.Logic.{◌≢◌, ⊎_elim}
use mathlib.Core.Bool.{Bool, true, false, ◌||◌}
use mathlib.Core.List.{List}
use native.Mathlib.Omega.{arith}
use native.Mathlib.Numerals.{add-one}
use native.Mathlib.Nat.{suc-mul, mul-le-mul_right}
use mir.Val.{bool_byte}
use Rattle.std.proofs.lemmas.Nat.{mul-add-lt}
use lib.Dec.{eqb}
use lib.ListN.{get_or, length, set, length-set}
use lib.Seq.{get_or-set_same, get_or-set_other}
use Rattle.std.specs.Prelude.{Some}
use Rattle.lists.specs.Choice.{both, either}
use Rattle.lists.specs.Lists.{In, any}
use Rattle.lists.proofs.Cases.{eq_or_ne, not_both, true_or_false}
use Rattle.lists.proofs.ListLaws.{any_true, true_any}
use Rattle.grid.specs.declared.Direction.{Direction}
use Rattle.grid.specs.declared.Direction.TheVariants.{Up, Down, Left, Right}
use Rattle.grid.specs.declared.Neighbour.{Neighbour}
use Rattle.grid.specs.declared.Grid.{Grid}
use Rattle.grid.specs.Grid.{cells, Cell, On}
use Rattle.grid.specs.Neighbours.{neighbour_in}
use Rattle.grid.specs.Orders.{around}
use Rattle.grid.proofs.Geometry.{coords}
use Rattle.grid.proofs.Codes.{up_at, down_at, left_at, right_at}
use Rattle.grid.proofs.Told.{some_told}
use Rattle.borders.specs.Border.{state_at, stands}
use Rattle.borders.specs.Fits.{Fits}
use Rattle.images.specs.Images.{direction_in}
use Rattle.offsets.specs.declared.shift.Shift.{Shift}
use Rattle.offsets.specs.Landings.{kept_of, lands_badly}
use Rattle.offsets.specs.Sides.{shut_to, shut_in, Shut, Inside}

-- a test that holds of none of a list, and one that holds of no member
module _ {A : Type 0} (p : A → Bool) (xs : List A) where
  pub any_none : any p xs ≡ false → (x : A) → In x xs → p x ≡ false
  any_none e x m = ⊎_elim (λ (t : p x ≡ true). absurd (not_both (any p xs) (true_any p xs x m t) e)) (λ f. f) (true_or_false (p x))

  pub none_any : ((x : A) → In x xs → p x ≡ false) → any p xs ≡ false
  none_any h = ⊎_elim (λ (t : any p xs ≡ true). let o = any_true p xs t in absurd (not_both (p o.0) o.2 (h o.0 o.1))) (λ f. f) (true_or_false (any p xs))

-- ONE CELL, by what lies beyond it
side_there : (g : Grid) (states : List ℕ) (c : ℕ) (d : Direction) {n : Neighbour} → Some n ≡ neighbour_in g d c → eqb (get_or states n.border 0) 2 ≡ shut_to g states c d
unfolding state_at
side_there g states c d p = let t = some_told g d c p refl in rw (t.0, t.2) refl

four : (u d l r : Bool) → (((u || d) || l) || r) ≡ either u (either d (either l (either r false)))
four true d l r = refl
four false true l r = refl
four false false true r = refl
four false false false true = refl
four false false false false = refl

-- that is not at the board's edge
module _ {g : Grid} {states : List ℕ} (f : Fits g states) {y x : ℕ} (i : Inside g y x) where
  abbrev c : ℕ
  c = y * g.width + x

  abbrev below : ℕ
  below = g.height * (g.width - 1)

  pub inside_cell : Cell g (y * g.width + x)
  inside_cell = omega (arith, mul-add-lt y g.width x g.height (omega (arith, i.row_before)) (omega (arith, i.col_before)))

  on : On g c
  on = record { limits = f.limits; cell = inside_cell }

  at : (c / g.width ≡ y) × (c % g.width ≡ x)
  at = coords g.width c y x (omega (arith, i.col_before)) refl

  row_more : g.width ≤ y * g.width + x
  row_more = omega (arith, mul-le-mul_right g.width i.row_behind)

  up : Some (record { cell = c - g.width; border = below + (c - g.width) }) ≡ neighbour_in g Up c
  up = up_at g c on row_more

  down : Some (record { cell = c + g.width; border = below + c }) ≡ neighbour_in g Down c
  down = down_at g c on (omega (arith, suc-mul y g.width, mul-add-lt (y + 1) g.width x g.height i.row_before (omega (arith, i.col_before)), add-one y))

  left : Some (record { cell = c - 1; border = c - 1 - y }) ≡ neighbour_in g Left c
  left = left_at g c on (sym at.0) (sym at.1) (λ z. omega (arith, i.col_behind))

  right : Some (record { cell = c + 1; border = c - y }) ≡ neighbour_in g Right c
  right = right_at g c on (sym at.0) (sym at.1) i.col_before

  pub sides_are : (((eqb (get_or states (below + (c - g.width)) 0) 2 || eqb (get_or states (below + c) 0) 2) || eqb (get_or states (c - 1 - y) 0) 2) || eqb (get_or states (c - y) 0) 2)
      ≡ shut_in g states (y * g.width + x)
  unfolding shut_in any
  sides_are =
      rw (← side_there g states c Up up, ← side_there g states c Down down, ← side_there g states c Left left, ← side_there g states c Right right)
      (four (eqb (get_or states (below + (c - g.width)) 0) 2) (eqb (get_or states (below + c) 0) 2) (eqb (get_or states (c - 1 - y) 0) 2) (eqb (get_or states (c - y) 0) 2))

-- where there is neither a Wall nor an edge, no border of c but an inner one must land well
pub open_lands : (g : Grid) (s : Shift) (states ids : List ℕ) (c x : ℕ) → shut_in g states c ≡ false → any (lands_badly g s states ids false c x) around ≡ false
unfolding shut_in any lands_badly kept_of
open_lands g s states ids c x e =
    let no : (d : Direction) → In d around → lands_badly g s states ids false c x d ≡ false =
    λ d m. ap (λ k. both k (stands g states 1 (direction_in s.image d) x)) (any_none (shut_to g states c) around e d m) in
    none_any (lands_badly g s states ids false c x) around no

-- ALL CELLS

zero_is : (t : Bool) → bool_byte t ≡ 0 → t ≡ false
zero_is true q = absurd (omega arith)
zero_is false q = refl

module _ {g : Grid} {states shut : List ℕ} where
  pub none_told : cells g ≤ length shut → ((c : ℕ) → Cell g c → get_or shut c 0 ≡ 1) → Shut g states shut
  none_told room ones = record { long = room; none = λ c h z. absurd (omega (arith, ones c h)) }

  pub one_told : {n one : ℕ} {is : Bool} → Shut g states shut → Cell g n → is ≡ shut_in g states n → one ≡ bool_byte is → Shut g states (set shut n one)
  one_told {n} {one} {is} t on s q =
      record {
        long = simp length-set t.long;
        none = λ c h z.
            ⊎_elim
            (λ (e : c ≡ n).
            let w : one ≡ 0 = sym (get_or-set_same shut n one 0 (omega (arith, t.long))) ∙ ap (λ i. get_or (set shut n one) i 0) (sym e) ∙ z in
            rw e (sym s ∙ zero_is is (sym q ∙ w)))
            (λ (e : c ≢ n). t.none c h (sym (get_or-set_other shut n c one 0 e) ∙ z))
            (eq_or_ne c n);
      }
