-- Where a cell falls, and one turn and the end of the walk over a unit's cells. Assumes nothing.
use Prim.Native.Nat.{ℕ, ◌+◌, ◌-◌, ◌*◌, ◌<◌, ◌≤◌}
use mathlib.Core.Path.{◌≡◌, refl, ap, sym, ◌∙◌}
use mathlib.Core.Logic.{◌≢◌}
use mathlib.Core.Bool.{Bool, true, false, not}
use mathlib.Core.List.{List, [], ◌∷◌}
use mathlib.Core.Option.{Option, none, some, some-injective}
use native.Mathlib.Omega.{arith}
use native.Mathlib.Nat.{div-lt_iff_lt-mul}
use native.Mathlib.Numerals.{add-one}
use borrow.Author.Tests.{lt-leb, le-leb, eq-eqb, ne_eqb, ltb-true, leb-true}
use lib.Dec.{eqb, ltb, leb}
use lib.ListN.{get_or, length, drop, drop_of_length-le}
use lib.Seq.{drop-cons}
use Rattle.std.specs.Prelude as std
use Rattle.std.specs.Bool.{then_some}
use Rattle.lists.specs.Choice.{both, either, holds, through, give}
use Rattle.lists.specs.Lists.{In, all, any}
use Rattle.lists.proofs.ChoiceLaws.{both_true, give_some, through_some}
use Rattle.lists.proofs.ListLaws.{get_d_in}
use Rattle.grid.specs.declared.Grid.{Grid}
use Rattle.grid.specs.Grid.{Limits, Cell, row}
use Rattle.grid.proofs.Geometry.{coords, row_lt, col_lt}
use Rattle.shape.specs.Shape.{along}
use Rattle.offsets.specs.declared.shift.Shift.{Shift}
use Rattle.images.specs.declared.Spot.{Spot}
use Rattle.offsets.specs.declared.table.CellInfo.{CellInfo}
use Rattle.offsets.specs.Told.{told}
use Rattle.images.specs.declared.Image.{Image}
use Rattle.images.specs.Images.{spot, spot_in}
use Rattle.images.proofs.Beside.{spot_low}
use Rattle.offsets.specs.Table.{Table, blank, spot_of, unit_in, potential_in, units_in, potentials_in}
use Rattle.offsets.specs.Reach.{moved, Bounded, InGrid, Small, falls_off, falls_marked, reaches_of}
use Rattle.offsets.proofs.TableLaws.{unit_at_lem, potential_at, spot_at}
use Rattle.offsets.proofs.ToldLaws.{told_some, told_none}

-- a cell's row and column are the board's, and small; so are those of its place in an image
pub in_grid : {g : Grid} → (c : ℕ) → Cell g c → InGrid g (spot g c)
in_grid {g} c h = (row_lt g c h, col_lt g c h)

pub bounded : {g : Grid} → Limits g → (c : ℕ) → Cell g c → Bounded (spot g c)
bounded {g} l c h = (omega (arith, row_lt g c h, l.height_fits), omega (arith, col_lt g c h, l.width_fits))

pub image_bounded : {g : Grid} → Limits g → (m : Image) (p : Spot) → InGrid g p → Bounded (spot_in g m p)
image_bounded {g} l m p i = spot_low g m p i.0 i.1 l

-- along a row or a column
pub before_start : (n f t u : ℕ) {r : std.Option ℕ} → std.SomeIff r (f ≤ u + t) (u + t - f) → r ≡ std.None → std.None ≡ told (along n f t u)
unfolding along give
before_start n f t u s e =
    let w : ¬ (f ≤ u + t) = rw e at s in
    rw (lt-leb f (u + t) (omega arith))

pub on_line : (n f t u : ℕ) {r : std.Option ℕ} {m : ℕ} → std.SomeIff r (f ≤ u + t) (u + t - f) → r ≡ std.Some m → then_some (ltb m n) m ≡ told (along n f t u)
unfolding along give
on_line n f t u s e =
    let w : (f ≤ u + t) × (_ ≡ u + t - f) = rw e at s in
    rw (w.1, le-leb f (u + t) w.0) (go (ltb (u + t - f) n))
  where
    go : (b : Bool) → then_some b (u + t - f) ≡ told (give b (u + t - f))
    go true = refl
    go false = refl

along_lt : (n f t u y : ℕ) → along n f t u ≡ some y → (y < n) × (u + t ≡ y + f)
unfolding along
along_lt n f t u y q =
    let k = give_some (both (leb f (u + t)) (ltb (u + t - f) n)) (u + t - f) y q in
    let b = both_true (leb f (u + t)) (ltb (u + t - f) n) k.0 in
    let l = ltb-true (u + t - f) n b.1 in
    let o = leb-true f (u + t) b.0 in
    (omega (arith, k.1), omega (arith, k.1))

-- a row or a column that stays on the line is below its end
pub along_below : {n : ℕ} (f t u : ℕ) {r : std.Option ℕ} {y : ℕ} → r ≡ told (along n f t u) → r ≡ std.Some y → y < n
along_below {n} f t u {y = y} e q = (along_lt n f t u y (told_some _ y (sym e ∙ q))).0

module _ (g : Grid) (s : Shift) (p : Spot) {at : Spot} (at-is : at ≡ spot_in g s.image p) where
  pub off_row : {r : std.Option ℕ} → r ≡ told (along g.height s.from.row s.to.row at.row) → r ≡ std.None → std.None ≡ told (moved g s p)
  unfolding moved through
  off_row e q = rw (← at-is, told_none _ (sym e ∙ q))

  module _ {b : ℕ} {r : std.Option ℕ} (e : r ≡ told (along g.height s.from.row s.to.row at.row)) (q : r ≡ std.Some b) {t : std.Option ℕ} (e' : t ≡ told (along g.width s.from.col s.to.col at.col)) where
    pub off_col : t ≡ std.None → std.None ≡ told (moved g s p)
    unfolding moved through
    off_col k = rw (← at-is, told_some _ b (sym e ∙ q), told_none _ (sym e' ∙ k))

    pub on_cell : {a : ℕ} → t ≡ std.Some a → std.Some (b * g.width + a) ≡ told (moved g s p)
    unfolding moved through
    on_cell {a} k = rw (← at-is, told_some _ b (sym e ∙ q), told_some _ a (sym e' ∙ k))

-- the row and the column on which a cell falls are the board's, and those of its place in the image moved as the first cell's are
pub record Fell (g : Grid) (s : Shift) (p : Spot) (c : ℕ) : Type 0 where
  pub to : Spot
  pub row_in : to.row < g.height
  pub col_in : to.col < g.width
  pub row_moves : (spot_in g s.image p).row + s.to.row ≡ to.row + s.from.row
  pub col_moves : (spot_in g s.image p).col + s.to.col ≡ to.col + s.from.col
  pub number : c ≡ to.row * g.width + to.col

module _ (g : Grid) (s : Shift) (p : Spot) (c : ℕ) where
  pub fell : moved g s p ≡ some c → Fell g s p c
  unfolding moved
  fell q =
      let at : Spot = spot_in g s.image p in
      let across : ℕ → Option ℕ = λ b. through (along g.width s.from.col s.to.col at.col) (λ a. some (b * g.width + a)) in
      let k = through_some (along g.height s.from.row s.to.row at.row) across c q in
      let m = through_some (along g.width s.from.col s.to.col at.col) (λ a. some (k.0 * g.width + a)) c k.2 in
      let r = along_lt g.height s.from.row s.to.row at.row k.0 k.1 in
      let t = along_lt g.width s.from.col s.to.col at.col m.0 m.1 in
      record { to = record { row = k.0; col = m.0 }; row_in = r.0; col_in = t.0; row_moves = r.1; col_moves = t.1; number = sym (some-injective _ _ m.2) }

  pub fell_cell : Fell g s p c → Cell g c
  fell_cell f =
      let k = coords g.width c f.to.row f.to.col f.col_in f.number in
      (div-lt_iff_lt-mul (let w : 0 < g.width = omega (arith, f.col_in) in w)).0 (let r : row g c < g.height = omega (arith, f.row_in) in r)

-- THE WALK over the cells: what is left of the test, with what was met so far
module _ (g : Grid) (s : Shift) (ids pids marks : List ℕ) where
  unfoldable pub left : Bool → List ℕ → Bool
  unfolding all any
  left met cs = both (all (falls_off g s ids) cs) (either met (any (falls_marked g s pids marks) cs))

  pub record Walk (cs : List ℕ) (met : Bool) (i : ℕ) : Type 0 where
    pub within : i ≤ length cs
    pub rest : left met (drop i cs) ≡ reaches_of g s ids pids marks cs

  pub walk_start : (cs : List ℕ) → Walk cs false 0
  unfolding left reaches_of
  walk_start cs = record { within = omega arith; rest = refl }

  pub walk_end : {cs : List ℕ} {met : Bool} {i : ℕ} → Walk cs met i → length cs ≤ i → met ≡ reaches_of g s ids pids marks cs
  unfolding left all any
  walk_end {cs} {met} {i} w h = sym (over met) ∙ sym (ap (left met) (drop_of_length-le cs h)) ∙ w.rest
    where
      over : (t : Bool) → left t [] ≡ t
      over true = refl
      over false = refl

pub next_cell : (cs : List ℕ) (i c : ℕ) → i < length cs → c ≡ get_or cs i 0 → drop i cs ≡ c ∷ drop (i + 1) cs
next_cell cs i c h q = rw (add-one, drop-cons cs i 0 h, q)

-- one turn of it, at cell c
module _ {g : Grid} {table : List CellInfo} {marks cs : List ℕ} {s : Shift} (tab : Table g table) (small : Small g s) (cells_on : (c : ℕ) → In c cs → Cell g c) {met : Bool} {i : ℕ}
    (w : Walk g s (units_in g table) (potentials_in g table) marks cs met i) (h : i < length cs) {c : ℕ} (q : c ≡ get_or cs i 0) where
  abbrev ids : List ℕ
  ids = units_in g table

  abbrev pids : List ℕ
  pids = potentials_in g table

  abbrev over : List ℕ
  over = drop (i + 1) cs

  pub on_board_lem : Cell g c
  on_board_lem = cells_on c (rw q (get_d_in 0 cs i h))

  turn : left g s ids pids marks met (c ∷ over) ≡ reaches_of g s ids pids marks cs
  turn = sym (ap (left g s ids pids marks met) (next_cell cs i c h q)) ∙ w.rest

  out : falls_off g s ids c ≡ false → left g s ids pids marks met (c ∷ over) ≡ false
  unfolding left all
  out e = rw e

  module _ {at : Spot} (at-is : at ≡ spot_of (get_or table c blank)) where
    spot_is : at ≡ spot g c
    spot_is = at-is ∙ spot_at tab c on_board_lem

    pub fall_small : Small g s × InGrid g at
    fall_small = (small, rw spot_is (in_grid c on_board_lem))

    module _ {f : std.Option ℕ} (fall-is : f ≡ told (moved g s at)) where
      moved_is : moved g s at ≡ moved g s (spot g c)
      moved_is = ap (moved g s) spot_is

      pub walk_off : f ≡ std.None → false ≡ reaches_of g s ids pids marks cs
      unfolding holds
      walk_off e = let o : moved g s (spot g c) ≡ none = sym moved_is ∙ told_none _ (sym fall-is ∙ e) in sym (out (rw o)) ∙ turn

      module _ {z : ℕ} (e : f ≡ std.Some z) where
        falls_on : moved g s (spot g c) ≡ some z
        falls_on = sym moved_is ∙ told_some _ z (sym fall-is ∙ e)

        pub fall_cell : Cell g z
        fall_cell = fell_cell g s (spot g c) z (fell g s (spot g c) z falls_on)

        module _ {u : ℕ} (u-is : u ≡ unit_in table z) where
          unit_is : get_or ids z 0 ≡ u
          unit_is = unit_at_lem g table z fall_cell ∙ sym u-is

          pub walk_unit : u ≡ s.unit → false ≡ reaches_of g s ids pids marks cs
          unfolding holds
          walk_unit k = sym (out (rw (falls_on, eq-eqb (get_or ids z 0) s.unit (unit_is ∙ k)))) ∙ turn

          module _ (k : u ≢ s.unit) where
            off_unit : falls_off g s ids c ≡ true
            unfolding holds
            off_unit = let o : get_or ids z 0 ≢ s.unit = rw unit_is k in rw (falls_on, ne_eqb (get_or ids z 0) s.unit o)

            module _ {p : ℕ} (p-is : p ≡ potential_in table z) where
              potential_is : get_or pids z 0 ≡ p
              potential_is = potential_at g table z fall_cell ∙ sym p-is

              abbrev test : ℕ → Bool
              test m = not (eqb m 0)

              meets : falls_marked g s pids marks c ≡ not (eqb (get_or marks p 0) 0)
              unfolding holds
              meets = rw (falls_on, potential_is)

              pub walk_more : Walk g s ids pids marks cs (either met (not (eqb (get_or marks p 0) 0))) (i + 1)
              unfolding left all any
              walk_more = record { within = omega arith; rest = (sym (ap (both (all (falls_off g s ids) over)) (ap (λ t. either met (either t (any (falls_marked g s pids marks) over))) meets ∙ by met)) ∙ rw off_unit at turn) }
                where
                  by : (t : Bool) → either t (either (not (eqb (get_or marks p 0) 0)) (any (falls_marked g s pids marks) over)) ≡ either (either t (not (eqb (get_or marks p 0) 0))) (any (falls_marked g s pids marks) over)
                  by true = refl
                  by false = refl
