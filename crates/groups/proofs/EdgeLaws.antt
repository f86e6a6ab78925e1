-- A board's edges by direction: cells are linked exactly over a border that joins, in whatever direction; and what the lists that compute hold. Assumes nothing.
use Prim.Native.Nat.{ℕ, zero, suc, ◌<◌}
use mathlib.Core.Path.{◌≡◌, refl, sym}
use mathlib.Core.Logic.{inl, inr, ⊎_elim}
use mathlib.Core.Bool.{Bool, true, false}
use mathlib.Core.List.{List}
use native.Mathlib.Omega.{arith}
use borrow.Author.Tests.{ne_eqb}
use lib.ListN.{get_or, length}
use lib.Dec.{eqb}
use lib.Bits.{bit_or, or_zero_r, or_add_and, and_le_r}
use mir.Val.{bool_byte}
use Rattle.lists.proofs.ChoiceLaws.{both_true, true_both, either_false}
use Rattle.grid.specs.declared.Direction.{Direction}
use Rattle.grid.specs.declared.Grid.{Grid}
use Rattle.grid.specs.Grid.{cells, Cell, goes_on, next, border}
use Rattle.grid.specs.Steps.{Step, Neighbours}
use Rattle.grid.proofs.Geometry.{goes_step, step_goes, step_next, neighbours_back}
use Rattle.borders.specs.Border.{state_of}
use Rattle.borders.proofs.Directions.{down_or_right}
use Rattle.parts.specs.Parts.{Within, begun, part}
use Rattle.parts.specs.Flood.{Link}
use Rattle.parts.proofs.PartLists.{parts_at, parts_length, begun_at}
use Rattle.groups.specs.Groups.{passes, edges, group_ids, group_count}
use Rattle.groups.specs.Joins.{joins}
use Rattle.groups.proofs.GroupLaws.{has_link, ahead_has, edges_within}

module _ (g : Grid) (states : List ℕ) (p : Bool) where
  -- a border that joins, from c to c'
  pub record Over (d : Direction) (c c' : ℕ) : Type 0 where
    pub step : Step g d c c' (border g d c)
    pub joined : passes p (state_of states (border g d c)) ≡ true

  pub joins_over : (d : Direction) (c : ℕ) → Cell g c → joins g states p d c ≡ true → Over d c (next g d c)
  unfolding joins
  joins_over d c l q =
      let b = both_true (goes_on g d c) (passes p (state_of states (border g d c))) q in
      record { step = goes_step g d c l b.0; joined = b.1 }

  pub over_joins : (d : Direction) (c c' : ℕ) → Over d c c' → joins g states p d c ≡ true
  unfolding joins
  over_joins d c c' o = true_both (goes_on g d c) (passes p (state_of states (border g d c))) (step_goes g d c c' (border g d c) o.step) o.joined

  pub over_next : (d : Direction) (c c' : ℕ) → Over d c c' → c' ≡ next g d c
  over_next d c c' o = step_next g d c c' (border g d c) o.step

  pub over_at_lem : (d : Direction) (c c' e : ℕ) → Step g d c c' e → passes p (state_of states e) ≡ true → Over d c c'
  over_at_lem d c c' e s q = record { step = rw s.over at s; joined = rw s.over at q }

  over_from : (c c' e : ℕ) → Neighbours g c c' e → passes p (state_of states e) ≡ true → (d : Direction) × Over d c c'
  over_from c c' e n q = (n.0, over_at_lem n.0 c c' e n.1 q)

  pub link_over : (c c' : ℕ) → Link (edges g states p) c c' → (d : Direction) × Over d c c'
  link_over c c' (inl m) = let l = has_link g (λ e. passes p (state_of states e)) c c' m in over_from c c' l.0 l.1 l.2
  link_over c c' (inr m) =
      let l = has_link g (λ e. passes p (state_of states e)) c' c m in
      over_from c c' l.0 (neighbours_back g c' c l.0 l.1) l.2

  pub over_link : (d : Direction) (c c' : ℕ) → Over d c c' → Link (edges g states p) c c'
  over_link d c c' o =
      ⊎_elim
      (λ a. inl (ahead_has g (λ e. passes p (state_of states e)) c c' (border g d c) a o.joined))
      (λ a. inr (ahead_has g (λ e. passes p (state_of states e)) c' c (border g d c) a o.joined))
      (down_or_right g c c' (border g d c) (d, o.step))

  pub within_board : Within (cells g) (edges g states p)
  within_board = edges_within g (λ e. passes p (state_of states e))

  -- the lists that compute hold each cell's part and the number of parts
  pub ids_at : (c : ℕ) → c < cells g → get_or (group_ids g states p) c 0 ≡ part (edges g states p) c
  unfolding group_ids
  ids_at c l = parts_at (cells g) (edges g states p) c within_board l

  pub ids_length : length (group_ids g states p) ≡ cells g
  unfolding group_ids
  ids_length = parts_length (cells g) (edges g states p)

  pub count_is : group_count g states p ≡ begun (edges g states p) (cells g)
  unfolding group_count
  count_is = begun_at (cells g) (edges g states p) (cells g) within_board (omega arith)

-- the code's test of a state
pub passes_told : (p : Bool) (s : ℕ) → eqb (bit_or s (bool_byte p)) 1 ≡ passes p s
unfolding passes
passes_told false s = rw (or_zero_r s) (sym (either_false (eqb s 1)))
passes_told true zero = refl
passes_told true (suc zero) = refl
passes_told true (suc (suc n)) =
    let s = suc (suc n) in
    rw (ne_eqb (bit_or s 1) 1 (λ (e : bit_or s 1 ≡ 1). omega (arith, or_add_and s 1, and_le_r s 1)), ne_eqb s 1 (omega arith), ne_eqb s 0 (omega arith)) refl
