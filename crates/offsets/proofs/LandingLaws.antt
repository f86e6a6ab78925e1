-- What lies beyond a cell, and where its border lands, as facts; a landing by doubled coordinates is the definition's. Assumes nothing.
use Prim.Native.Nat.{ℕ, ◌<◌}
use mathlib.Core.Path.{◌≡◌, refl, ap, ap₂, sym, ◌∙◌}
use mathlib.Core.Bool.{Bool, true, false, not}
use mathlib.Core.List.{List}
use native.Mathlib.Omega.{arith}
use lib.Dec.{eqb}
use lib.ListN.{get_or, length}
use Rattle.std.specs.Prelude as std
use Rattle.std.specs.Bool.{then_some}
use Rattle.limits.specs.Limits.{most_borders}
use Rattle.lists.specs.Choice.{both, either, pick, give, through}
use Rattle.grid.specs.declared.Direction.{Direction}
use Rattle.grid.specs.declared.Neighbour.{Neighbour}
use Rattle.grid.specs.declared.Grid.{Grid}
use Rattle.grid.specs.Grid.{Limits, Cell, goes_on, next, border, border_count}
use Rattle.grid.specs.Neighbours.{neighbour_in}
use Rattle.grid.proofs.Geometry.{goes_step, border_lt, border_count_le}
use Rattle.borders.specs.Entry.{entry_of}
use Rattle.borders.specs.Border.{state_at, stands}
use Rattle.borders.specs.Fits.{Fits}
use Rattle.offsets.specs.declared.shift.Shift.{Shift}
use Rattle.images.specs.declared.Spot.{Spot}
use Rattle.offsets.specs.declared.table.CellInfo.{CellInfo}
use Rattle.offsets.specs.Told.{told}
use Rattle.offsets.specs.Places.{ahead_of, border_of, land_of}
use Rattle.images.specs.Images.{direction_in, spot, spot_in}
use Rattle.offsets.specs.Table.{Table, blank, spot_of, unit_in, units_in}
use Rattle.offsets.specs.Reach.{InGrid, Small}
use Rattle.lists.proofs.ChoiceLaws.{both_false}
use Rattle.offsets.specs.Landings.{bad_of, kept_of, lands_badly, landing_of, fail_at, Turning}
use Rattle.offsets.proofs.TableLaws.{unit_at_lem, spot_at}
use Rattle.offsets.proofs.PlaceLaws.{coordinate_moves, place_lands}
use Rattle.offsets.proofs.ReachLaws.{in_grid, Fell, fell, fell_cell}

module _ (g : Grid) (d : Direction) (c : ℕ) where
  pub lands_on : (e : ℕ) → std.Some e ≡ border_of (neighbour_in g d c) → (goes_on g d c ≡ true) × (e ≡ border g d c)
  lands_on e = go (goes_on g d c) refl
    where
      go : (t : Bool) → goes_on g d c ≡ t → std.Some e ≡ border_of (pick t (std.Some (record { cell = next g d c; border = border g d c })) std.None) → (goes_on g d c ≡ true) × (e ≡ border g d c)
      go true p q = (p, cc)
      go false p q = absurd (let z : ◌≡◌ {A = ℕ} 0 1 = cc in omega arith)

  pub lands_off : std.None ≡ border_of (neighbour_in g d c) → goes_on g d c ≡ false
  lands_off = go (goes_on g d c) refl
    where
      go : (t : Bool) → goes_on g d c ≡ t → std.None ≡ border_of (pick t (std.Some (record { cell = next g d c; border = border g d c })) std.None) → goes_on g d c ≡ false
      go true p q = absurd (let z : ◌≡◌ {A = ℕ} 0 1 = cc in omega arith)
      go false p q = p

-- what lies beyond a cell's border
module _ (g : Grid) (d : Direction) (c : ℕ) {n : Neighbour} (h : Cell g c) (b : (goes_on g d c ≡ true) × (n.cell ≡ next g d c) × (n.border ≡ border g d c)) where
  pub seen_cell : Cell g n.cell
  seen_cell = rw b.1 (goes_step g d c h b.0).cell'

  pub seen_border : {states : List ℕ} → Fits g states → n.border < length states
  seen_border fits =
      let j : n.border < border_count g = rw b.2 (border_lt g d c (next g d c) (border g d c) (goes_step g d c h b.0)) in
      omega (arith, fits.borders)

-- whether a border must land well
module _ (g : Grid) (states : List ℕ) (table : List CellInfo) (inner : Bool) (unit c : ℕ) (d : Direction) where
  pub kept_end : goes_on g d c ≡ false → not inner ≡ kept_of g states (units_in g table) inner unit c d
  unfolding kept_of
  kept_end q = go inner
    where
      go : (t : Bool) → not t ≡ pick t (both (goes_on g d c) (eqb (get_or (units_in g table) (next g d c) 0) unit)) (either (not (goes_on g d c)) (eqb (state_at g states d c) 2))
      go true = rw q
      go false = rw q

  module _ {n : Neighbour} (h : Cell g c) (b : (goes_on g d c ≡ true) × (n.cell ≡ next g d c) × (n.border ≡ border g d c)) where
    pub kept_inner : inner ≡ true → eqb (unit_in table n.cell) unit ≡ kept_of g states (units_in g table) inner unit c d
    unfolding kept_of
    kept_inner q = ap (λ u. eqb u unit) (sym (unit_at_lem g table n.cell (seen_cell g d c h b))) ∙ (rw (q, b.0, b.1))

    pub kept_shut : inner ≡ false → eqb (get_or states n.border 0) 2 ≡ kept_of g states (units_in g table) inner unit c d
    unfolding kept_of state_at
    kept_shut q = rw (q, b.0, b.2)

-- whether a border of c lands badly, where c falls on x
module _ (g : Grid) (s : Shift) (states : List ℕ) (table : List CellInfo) (inner : Bool) (c x : ℕ) (d : Direction) where
  abbrev bad : Bool
  bad = lands_badly g s states (units_in g table) inner c x d

  abbrev kept : Bool
  kept = kept_of g states (units_in g table) inner s.unit c d

  pub bad_unkept : kept ≡ false → false ≡ bad
  unfolding lands_badly
  bad_unkept k = rw k

  pub bad_end : goes_on g (direction_in s.image d) x ≡ false → false ≡ bad
  unfolding lands_badly stands
  bad_end e = rw e (sym (both_false kept))

  pub bad_there : {d' : Direction} → d' ≡ direction_in s.image d → {n : Neighbour} → kept ≡ true → (goes_on g d' x ≡ true) × (n.cell ≡ next g d' x) × (n.border ≡ border g d' x)
      → bad_of inner (get_or states n.border 0) ≡ bad
  unfolding lands_badly stands state_at
  bad_there e k b = rw (k, ← e, b.0, b.2)

-- a border lands where its cell falls
pub landing_is : (g : Grid) (s : Shift) (p : Spot) (c : ℕ) (d : Direction) → Limits g → Fell g s p c → landing_of g s p d ≡ border_of (neighbour_in g (direction_in s.image d) c)
landing_is g s p c d l f =
    let at = spot_in g s.image p in
    let lands = direction_in s.image d in
    ap₂ (land_of g)
    (coordinate_moves at.row f.to.row s.from.row s.to.row (ahead_of lands).y f.row_moves)
    (coordinate_moves at.col f.to.col s.from.col s.to.col (ahead_of lands).x f.col_moves)
    ∙ place_lands g l f.to.row f.to.col f.row_in f.col_in lands
    ∙ ap (λ n. border_of (neighbour_in g lands n)) (sym f.number)

-- the ways to answer a border of c
module _ {g : Grid} {states : List ℕ} {table : List CellInfo} {s : Shift} {c : ℕ} (fits : Fits g states) (tab : Table g table) (t : Turning g s c) (inner : Bool) (d : Direction) where
  abbrev ids : List ℕ
  ids = units_in g table

  abbrev z : ℕ
  z = t.falls.0

  -- the direction in which it lands
  abbrev to : Direction
  to = direction_in s.image d

  abbrev answer : std.Option ℕ
  answer = told (fail_at g s states ids inner c d)

  pub not_kept : kept_of g states ids inner s.unit c d ≡ false → std.None ≡ answer
  unfolding fail_at through give
  not_kept k = rw (t.falls.1, k)

  lands_outside : goes_on g to z ≡ false → std.None ≡ answer
  unfolding fail_at through stands
  lands_outside k = rw (t.falls.1, k) (go (kept_of g states ids inner s.unit c d))
    where
      go : (b : Bool) → std.None ≡ told (give (both b false) (entry_of inner (border g to z)))
      go true = unfold give in refl
      go false = unfold give in refl

  fall : Fell g s (spot g c) z
  fall = fell g s (spot g c) z t.falls.1

  module _ {p : Spot} (p-is : p ≡ spot_of (get_or table c blank)) where
    spot_is : p ≡ spot g c
    spot_is = p-is ∙ spot_at tab c t.cell

    pub turning_small : Small g s × InGrid g p
    turning_small = (t.small, rw spot_is (in_grid c t.cell))

  module _ {p : Spot} (p-is : p ≡ spot_of (get_or table c blank)) {r : std.Option ℕ} (lands-is : r ≡ landing_of g s p d) where
    lands : r ≡ border_of (neighbour_in g to z)
    lands = lands-is ∙ ap (λ a. landing_of g s a d) (spot_is p-is) ∙ landing_is g s (spot g c) z d fits.limits fall

    pub outside : r ≡ std.None → std.None ≡ answer
    outside e = lands_outside (lands_off g to z (sym e ∙ lands))

    module _ {e : ℕ} (at : r ≡ std.Some e) where
      on : (goes_on g to z ≡ true) × (e ≡ border g to z)
      on = lands_on g to z e (sym at ∙ lands)

      pub landed_border : (e < length states) × (e < most_borders)
      landed_border =
          let k = goes_step g to z (fell_cell g s (spot g c) z fall) on.0 in
          let j : e < border_count g = rw on.1 (border_lt g to z (next g to z) (border g to z) k) in
          omega (arith, fits.borders, border_count_le g fits.limits)

      pub lands_so : kept_of g states ids inner s.unit c d ≡ true → then_some (bad_of inner (get_or states e 0)) (entry_of inner e) ≡ answer
      unfolding fail_at through stands state_at
      lands_so k = rw (t.falls.1, k, on.0, ← on.1) (go (bad_of inner (get_or states e 0)))
        where
          go : (b : Bool) → then_some b (entry_of inner e) ≡ told (give b (entry_of inner e))
          go true = unfold give in refl
          go false = unfold give in refl
