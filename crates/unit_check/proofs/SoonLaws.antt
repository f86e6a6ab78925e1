-- The places at which a unit's translates are tried one by one, in turn: on a small board these are all, so that where none is good none fits. Assumes nothing.
use Prim.Native.Nat.{ℕ, ◌+◌, ◌-◌, ◌*◌, ◌≤◌, ◌<◌}
use mathlib.Core.Path.{◌≡◌, refl, sym, ap, ◌∙◌}
use mathlib.Core.Logic.{◌≢◌, ⊎_elim}
use mathlib.Core.Bool.{Bool, true, false}
use mathlib.Core.List.{List}
use native.Mathlib.Omega.{arith}
use native.Mathlib.Nat.{le_refl, mul-le-mul}
use borrow.Author.Tests.{lt-ltb, ltb-true}
use lib.Dec.{ltb}
use lib.ListN.{get_or, length}
use Rattle.lists.specs.Choice.{both}
use Rattle.lists.specs.Lists.{range}
use Rattle.lists.proofs.Cases.{eq_or_ne, true_or_false, not_both}
use Rattle.lists.proofs.ChoiceLaws.{both_true}
use Rattle.lists.proofs.ListLaws.{any_true, true_any, range_in, in_range}
use Rattle.grid.specs.declared.Grid.{Grid}
use Rattle.grid.specs.Grid.{cells, Cell}
use Rattle.grid.proofs.Geometry.{cells_le}
use Rattle.boundary.proofs.BoundaryLaws.{cells_most}
use Rattle.images.specs.Images.{translate}
use Rattle.shape.specs.Shape.{head_or0, is_good, fits_by}
use Rattle.offsets.specs.declared.table.CellInfo.{CellInfo}
use Rattle.offsets.specs.Table.{blank, unit_in, units_in}
use Rattle.offsets.specs.Trial.{tried_at, fits_as, Unit}
use Rattle.offsets.proofs.TrialLaws.{head_at}
use Rattle.cell_words.proofs.OwnLaws.{own_row, own_col}
use Rattle.unit_check.specs.Find.{tries_all}

-- the cells of a unit are few
pub some_few : {g : Grid} {table : List CellInfo} {cs : List ℕ} → Unit g table cs → (0 < length cs) × (length cs ≤ 1024)
some_few {g} {table} {cs} u =
    let k : length cs ≤ cells g = rw u.cells_are (cells_most g (units_in g table) (unit_in table (head_or0 cs))) in
    (u.some, omega (arith, k, cells_le g u.limits))

-- what is read of the cell under a unit is small
pub under_small : {g : Grid} {table : List CellInfo} {cs : List ℕ} → Unit g table cs → {first last : CellInfo} {y x : ℕ} → first ≡ get_or table (head_or0 cs) blank → last ≡ get_or table (get_or cs (length cs - 1) 0) blank → y ≡ last.row → x ≡ first.col
    → (y < 32) × ((y + 1) * g.width ≤ 1056) × (x < 32)
under_small {g} {table} {cs} u {y = y} first-is last-is y-is x-is =
    let r = (own_row u (omega (arith, u.some)) refl (y-is ∙ ap (λ (i : CellInfo). i.row) last-is) (le_refl g.height) refl).0 in
    (r, omega (arith, mul-le-mul (let k : y + 1 ≤ 33 = omega (arith, r) in k) u.limits.width_fits), own_col u u.some (sym (head_at cs)) (x-is ∙ ap (λ (i : CellInfo). i.col) first-is))

module _ (g : Grid) (states : List ℕ) (table : List CellInfo) (cs : List ℕ) where
  -- the offset of a place is good, where there is such a place
  abbrev pub good_on : ℕ → Bool
  good_on to = both (ltb to (cells g)) (is_good (tried_at translate g states table cs to))

  -- a good offset is one that fits
  pub good_fits : (to : ℕ) → good_on to ≡ true → fits_as g states table cs translate ≡ true
  unfolding fits_by
  good_fits to e =
      let p = both_true (ltb to (cells g)) (is_good (tried_at translate g states table cs to)) e in
      true_any (λ t. is_good (tried_at translate g states table cs t)) (range (cells g)) to (range_in (cells g) to (ltb-true to (cells g) p.0)) p.1

  -- where no offset is good, no translate fits
  none_fits : ((t : ℕ) → Cell g t → is_good (tried_at translate g states table cs t) ≡ false) → fits_as g states table cs translate ≡ false
  unfolding fits_by
  none_fits none =
      let good : ℕ → Bool = λ t. is_good (tried_at translate g states table cs t) in
      ⊎_elim (λ q. let a = any_true good (range (cells g)) q in absurd (not_both (good a.0) a.2 (none a.0 (in_range (cells g) a.0 a.1))))
      (λ q. q) (true_or_false (fits_as g states table cs translate))

  -- i turns are over, of which those from `beside` on went from the first place on, on a small board to the last: none of these is good
  pub record Tried (beside end i : ℕ) : Type 0 where
    pub within : i ≤ end
    pub few : end ≤ 28
    pub all : tries_all g ≡ true → end ≡ beside + cells g
    pub none : tries_all g ≡ true → (t : ℕ) → beside + t < i → is_good (tried_at translate g states table cs t) ≡ false

  pub tried_first : (beside end : ℕ) → end ≤ 28 → (tries_all g ≡ true → end ≡ beside + cells g) → Tried beside end 0
  tried_first beside end f a = record { within = omega arith; few = f; all = a; none = λ s t l. absurd (omega arith) }

  module _ {beside end i : ℕ} (w : Tried beside end i) where
    pub tried_on : i < end → {to : ℕ} {r : Bool} → (beside ≤ i → to ≡ i - beside) → r ≡ good_on to → r ≡ false → Tried beside end (i + 1)
    tried_on h {to} to_is r-is e =
        record {
          within = omega arith;
          few = w.few;
          all = w.all;
          none = λ s t l. ⊎_elim (λ (q : beside + t ≡ i). here s t q) (λ (q : beside + t ≢ i). w.none s t (omega arith)) (eq_or_ne (beside + t) i);
        }
      where
        here : tries_all g ≡ true → (t : ℕ) → beside + t ≡ i → is_good (tried_at translate g states table cs t) ≡ false
        here s t q =
            let k : to ≡ t = omega (arith, to_is (omega arith)) in
            let o : good_on t ≡ false = rw k at (sym r-is ∙ e) in
            rw (lt-ltb t (cells g) (omega (arith, w.all s))) at o

    pub tried_all : end ≤ i → tries_all g ≡ true → fits_as g states table cs translate ≡ false
    tried_all h s = none_fits (λ t l. w.none s t (omega (arith, w.all s)))
