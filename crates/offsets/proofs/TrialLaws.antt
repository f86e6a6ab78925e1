-- A trial by the code's steps is crate shape's `try_at`. Assumes nothing.
use Prim.Native.Nat.{ℕ, ◌+◌, ◌*◌, ◌<◌}
use mathlib.Core.Path.{◌≡◌, refl, ap, ap₂, sym, ◌∙◌}
use mathlib.Core.Logic.{inl}
use mathlib.Core.Bool.{Bool, true, false, not}
use mathlib.Core.List.{List, [], ◌∷◌}
use mathlib.Core.Option.{Option, none, some}
use native.Mathlib.Omega.{arith}
use lib.Dec.{eqb}
use lib.ListN.{get_or, length}
use Rattle.std.specs.Prelude as std
use Rattle.lists.specs.Choice.{both, either, give, or_else, holds, through}
use Rattle.lists.specs.Lists.{In, all, any, first}
use Rattle.lists.proofs.ChoiceLaws.{both_true, holds_true}
use Rattle.lists.proofs.ListLaws.{all_true, get_d_in}
use Rattle.grid.specs.declared.Direction.{Direction}
use Rattle.grid.specs.Orders.{around, forward}
use Rattle.grid.specs.declared.Grid.{Grid}
use Rattle.grid.specs.Grid.{Cell, goes_on, border}
use Rattle.borders.specs.Border.{state_at, stands}
use Rattle.borders.proofs.Congruence.{any_same, all_same, holds_same, first_same}
use Rattle.boundary.specs.Boundary.{ahead}
use Rattle.groups.proofs.GroupLaws.{in_cells}
use Rattle.shape.specs.declared.Try.{Try}
use Rattle.shape.specs.declared.Try.TheVariants.{Passed, Good, Failed}
use Rattle.shape.specs.Shape.{UnitInfo, place, Offset, offset, head_or0, unit_of, adjacent, falls, meets, inner_border, shut, on_wall, on_connected, landing, landed, try, try_at, is_good}
use Rattle.offsets.specs.declared.shift.Shift.{Shift}
use Rattle.images.specs.declared.Spot.{Spot}
use Rattle.offsets.specs.declared.table.CellInfo.{CellInfo}
use Rattle.offsets.specs.Told.{told}
use Rattle.images.specs.declared.Image.{Image}
use Rattle.images.specs.Images.{direction_in, spot, spot_in}
use Rattle.offsets.specs.Table.{blank, spot_of, unit_in, potential_in, units_in, potentials_in}
use Rattle.offsets.specs.Reach.{moved, Small, falls_off, falls_marked, reaches_of}
use Rattle.offsets.specs.Landings.{fail_at, fail_cell, first_fail, kept_of, failure_of, lands_well, Falling}
use Rattle.offsets.specs.Trial.{unit_at, shift_of, tried_from, tried_at, Unit, Placed}
use Rattle.offsets.proofs.TableLaws.{potential_at, spot_at}
use Rattle.offsets.proofs.ReachLaws.{in_grid, bounded, image_bounded, fell, fell_cell}
use Rattle.offsets.proofs.WellLaws.{well_is}
use Rattle.offsets.proofs.NoneLaws.{is_none, none_or_else, good_pick}
use Rattle.offsets.proofs.ToldLaws.{told_some, told_none}

place_moved : (m : Image) (g : Grid) (k f t c : ℕ) → place m g f t c ≡ moved g (shift_of m g k f t) (spot g c)
unfolding place moved
place_moved m g k f t c = refl

pub head_in : (cs : List ℕ) → 0 < length cs → In (head_or0 cs) cs
unfolding head_or0
head_in [] h = absurd (omega arith)
head_in (c ∷ cs) h = inl refl

pub head_at : (cs : List ℕ) → get_or cs 0 0 ≡ head_or0 cs
unfolding head_or0
head_at [] = refl
head_at (c ∷ cs) = refl

-- the shift's numbers are the table's
module _ {g : Grid} {table : List CellInfo} {cs : List ℕ} (u : Unit g table cs) where
  pub unit_cell : (c : ℕ) → In c cs → Cell g c
  unit_cell c m = (in_cells g (units_in g table) (unit_in table (head_or0 cs)) c (rw u.cells_are at m)).0

  pub head_cell : Cell g (head_or0 cs)
  head_cell = unit_cell (head_or0 cs) (head_in cs u.some)

  pub cell_of : {i c : ℕ} → i < length cs → c ≡ get_or cs i 0 → Cell g c
  cell_of {i} {c} h q = unit_cell c (rw q (get_d_in 0 cs i h))

  pub head_spot : {i : CellInfo} {p : Spot} → i ≡ get_or table (head_or0 cs) blank → p ≡ spot_of i → p ≡ spot g (head_or0 cs)
  head_spot e x = x ∙ ap spot_of e ∙ spot_at u.table_of (head_or0 cs) head_cell

  pub shift_is : (m : Image) {i : CellInfo} {t : ℕ} {p a b : Spot} → i ≡ get_or table (head_or0 cs) blank → Cell g t → p ≡ spot_of i → a ≡ spot_in g m p → b ≡ spot_of (get_or table t blank)
      → ◌≡◌ {A = Shift} (record { unit = i.unit; image = m; from = a; to = b }) (shift_of m g (unit_in table (head_or0 cs)) (head_or0 cs) t)
  shift_is m {t} e to_cell x z y = rw (z, head_spot e x, e, y ∙ spot_at u.table_of t to_cell)

-- AN OFFSET of image m that puts cell f of the unit on t
module _ {g : Grid} {states : List ℕ} {table : List CellInfo} {marks cs : List ℕ} (m : Image) (f : ℕ) {t : ℕ} (p : Placed g states table marks cs) (f_in : In f cs) (to_cell : Cell g t) where
  abbrev ids : List ℕ
  ids = units_in g table

  abbrev pids : List ℕ
  pids = potentials_in g table

  abbrev unit : ℕ
  unit = unit_in table (head_or0 cs)

  abbrev u : UnitInfo
  u = unit_at g table cs

  abbrev s : Shift
  s = shift_of m g unit f t

  on_board_lem : (c : ℕ) → In c cs → Cell g c
  on_board_lem c m = (in_cells g ids unit c (rw p.cells_are at m)).0

  first_cell : Cell g (head_or0 cs)
  first_cell = on_board_lem (head_or0 cs) (head_in cs p.some)

  small : Small g s
  small = record { limits = p.limits; from = image_bounded p.limits m (spot g f) (in_grid f (on_board_lem f f_in)); to = bounded p.limits t to_cell }

  u_cells : u.cells ≡ cs
  unfolding unit_of
  u_cells = sym p.cells_are

  u_first : u.first ≡ head_or0 cs
  unfolding unit_of
  u_first = ap head_or0 (sym p.cells_are)

  u_own : u.own ≡ potential_in table (head_or0 cs)
  unfolding unit_of
  u_own = ap (λ c. get_or pids c 0) u_first ∙ potential_at g table (head_or0 cs) first_cell

  abbrev o : Offset
  o = offset m g f t

  abbrev put : ℕ → Option ℕ
  put = place m g f t

  -- one cell falls as the definition says
  put_is : (c : ℕ) → put c ≡ moved g s (spot g c)
  put_is c = place_moved m g unit f t c

  falls_is : (c : ℕ) → falls_off g s ids c ≡ falls ids u put c
  unfolding falls unit_of
  falls_is c = ap (λ o. holds o (λ x. not (eqb (get_or ids x 0) unit))) (sym (put_is c))

  marked_is : (c : ℕ) → falls_marked g s pids marks c ≡ meets g states pids u put c
  unfolding meets
  marked_is c =
      holds_same (moved g s (spot g c)) (λ x. not (eqb (get_or marks (get_or pids x 0) 0) 0)) (λ x. adjacent g states pids u.own (get_or pids x 0))
      (λ x q.
      let k = fell_cell g s (spot g c) x (fell g s (spot g c) x q) in
      let l : get_or pids x 0 < length marks = rw (potential_at g table x k) (p.marks_long x k) in
      p.marked (get_or pids x 0) l ∙ ap (λ o. adjacent g states pids o (get_or pids x 0)) (sym u_own))
      ∙ ap (λ o. holds o (λ x. adjacent g states pids u.own (get_or pids x 0))) (sym (put_is c))

  -- the test that does not pass an offset over
  abbrev reached : Bool
  reached = reaches_of g s ids pids marks cs

  reach_is : reached ≡ both (all (falls ids u put) u.cells) (any (meets g states pids u put) u.cells)
  unfolding reaches_of
  reach_is =
      ap₂ both
      (all_same (falls_off g s ids) (falls ids u put) cs (λ c m. falls_is c) ∙ ap (all (falls ids u put)) (sym u_cells))
      (any_same (falls_marked g s pids marks) (meets g states pids u put) cs (λ c m. marked_is c) ∙ ap (any (meets g states pids u put)) (sym u_cells))

  falling : reached ≡ true → Falling g cs s
  unfolding reaches_of
  falling q =
      let k = both_true (all (falls_off g s ids) cs) (any (falls_marked g s pids marks) cs) q in
      record {
        small = small;
        on_board = on_board_lem;
        falls = λ c i. let o = holds_true (moved g s (spot g c)) (λ x. not (eqb (get_or ids x 0) unit)) (all_true (falls_off g s ids) cs k.0 c i) in (o.0, o.1);
      }

  -- a cell's landings are the definition's
  inner_is : (c : ℕ) (d : Direction) → fail_at g s states ids true c d ≡ on_wall g states ids u o c d
  unfolding fail_at on_wall kept_of inner_border unit_of
  inner_is c d =
      let to = direction_in m d in
      ap (λ z. through z (λ x. give (both (both (goes_on g d c) (ahead g ids unit c d)) (stands g states 2 to x)) (2 * border g to x + 1))) (sym (put_is c))

  outer_is : (c : ℕ) (d : Direction) → fail_at g s states ids false c d ≡ on_connected g states o c d
  unfolding fail_at on_connected kept_of shut
  outer_is c d =
      let to = direction_in m d in
      ap (λ z. through z (λ x. give (both (either (not (goes_on g d c)) (eqb (state_at g states d c) 2)) (stands g states 1 to x)) (2 * border g to x))) (sym (put_is c))

  inner_first : Option ℕ
  inner_first = first (λ c. first (on_wall g states ids u o c) forward) u.cells

  outer_first : Option ℕ
  outer_first = first (λ c. first (on_connected g states o c) around) u.cells

  first_inner : first_fail g s states ids true cs ≡ inner_first
  unfolding first_fail fail_cell inner_first
  first_inner =
      first_same (fail_cell g s states ids true) (λ c. first (on_wall g states ids u o c) forward) cs
      (λ c m. first_same (fail_at g s states ids true c) (on_wall g states ids u o c) forward (λ d k. inner_is c d))
      ∙ ap (first (λ c. first (on_wall g states ids u o c) forward)) (sym u_cells)

  first_outer : first_fail g s states ids false cs ≡ outer_first
  unfolding first_fail fail_cell outer_first
  first_outer =
      first_same (fail_cell g s states ids false) (λ c. first (on_connected g states o c) around) cs
      (λ c m. first_same (fail_at g s states ids false c) (on_connected g states o c) around (λ d k. outer_is c d))
      ∙ ap (first (λ c. first (on_connected g states o c) around)) (sym u_cells)

  -- THE ANSWERS, for a shift that is this one
  abbrev answer : Try
  answer = tried_from m g states table cs f t

  -- whether the offset is good
  pub good_is : is_good answer ≡ both reached (both (is_none (first_fail g s states ids true cs)) (is_none (first_fail g s states ids false cs)))
  unfolding try landing inner_first outer_first
  good_is =
      good_pick (both (all (falls ids u put) u.cells) (any (meets g states pids u put) u.cells)) (landing g states ids u o)
      ∙ ap₂ both (sym reach_is) (none_or_else inner_first outer_first ∙ ap₂ both (ap is_none (sym first_inner)) (ap is_none (sym first_outer)))

  module _ {s' : Shift} (e : s' ≡ s) where
    pub shift_small : Small g s'
    shift_small = rw e small

    module _ {met : Bool} (told_met : met ≡ reaches_of g s' ids pids marks cs) where
      met_is : met ≡ reached
      met_is = told_met ∙ ap (λ (z : Shift). reaches_of g z ids pids marks cs) e

      pub trial_passed : met ≡ false → Passed ≡ answer
      unfolding try
      trial_passed q = rw (sym reach_is ∙ sym met_is ∙ q)

      module _ (q : met ≡ true) where
        pub fail_asks : Falling g cs s'
        fail_asks = rw e (falling (sym met_is ∙ q))

        by_landing : (o : Option ℕ) → or_else inner_first outer_first ≡ o → answer ≡ landed o
        unfolding try landing inner_first outer_first
        by_landing o k = rw (sym reach_is ∙ sym met_is ∙ q, k)

        module _ {r : std.Option ℕ} (failure : r ≡ told (failure_of g s' states ids cs)) where
          failure_is : r ≡ told (or_else inner_first outer_first)
          unfolding failure_of
          failure_is = failure ∙ ap (λ (z : Shift). told (or_else (first_fail g z states ids true cs) (first_fail g z states ids false cs))) e ∙ ap₂ (λ a b. told (or_else a b)) first_inner first_outer

          pub trial_failed : {l : ℕ} → r ≡ std.Some l → Failed l ≡ answer
          unfolding landed
          trial_failed {l} k = sym (by_landing (some l) (told_some _ l (sym failure_is ∙ k)))

          pub trial_good : r ≡ std.None → Good ≡ answer
          unfolding landed
          trial_good k = sym (by_landing none (told_none _ (sym failure_is ∙ k)))

        -- whether it is good, by its landings alone
        pub good_landed : {b : Bool} → b ≡ all (lands_well g s' states ids) cs → b ≡ is_good answer
        good_landed landed_well =
            landed_well
            ∙ ap (λ (z : Shift). all (lands_well g z states ids) cs) e
            ∙ well_is g states ids s (falling (sym met_is ∙ q))
            ∙ sym (rw (sym met_is ∙ q) at good_is)

-- the offset of its first cell is the definition's
pub tried_first : (m : Image) {g : Grid} (states : List ℕ) {table : List CellInfo} {cs : List ℕ} (t : ℕ) → Unit g table cs
    → tried_from m g states table cs (head_or0 cs) t ≡ tried_at m g states table cs t
unfolding try_at unit_of
tried_first m {g} states {table} {cs} t u =
    ap (λ (z : ℕ). try g states (units_in g table) (potentials_in g table) (unit_at g table cs) (offset m g z t)) (ap head_or0 u.cells_are)
