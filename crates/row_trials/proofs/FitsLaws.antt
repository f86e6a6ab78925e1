-- All rows of an image's offsets, told by a cell of its first row, are all its offsets. Assumes nothing.
use Prim.Native.Nat.{ℕ, zero, suc, ◌+◌, ◌-◌, ◌*◌, ◌≤◌, ◌<◌}
use mathlib.Core.Path.{◌≡◌, sym, ap, ◌∙◌}
use mathlib.Core.Logic.{⊎_elim, inl, inr}
use mathlib.Core.Bool.{Bool, true, false}
use mathlib.Core.List.{List}
use native.Mathlib.Omega.{arith}
use native.Mathlib.Nat.{div-add-mod'}
use Rattle.lists.specs.Choice.{either}
use Rattle.lists.specs.Lists.{In, any, range, count_from}
use Rattle.lists.proofs.Cases.{le_or_lt}
use Rattle.lists.proofs.ChoiceLaws.{either_true, left_either, right_either, same_truth}
use Rattle.lists.proofs.ListLaws.{any_true, true_any, range_in, in_range}
use Rattle.grid.specs.declared.Grid.{Grid}
use Rattle.grid.specs.Grid.{Cell, cells, row, col}
use Rattle.grid.proofs.Geometry.{col_lt}
use Rattle.images.specs.declared.Image.{Image}
use Rattle.shape.specs.Shape.{head_or0, is_good, fits_by}
use Rattle.offsets.specs.declared.table.CellInfo.{CellInfo}
use Rattle.offsets.specs.Trial.{tried_from, tried_at, fits_as, Unit, Placed}
use Rattle.offsets.proofs.TrialLaws.{head_in, unit_cell, tried_first}
use Rattle.unit_codes.specs.declared.turned.Rows.{Rows}
use Rattle.unit_codes.specs.Spans.{image_row, Spans}
use Rattle.unit_codes.proofs.SpanLaws.{has_in, ends_at, image_low}
use Rattle.cell_words.proofs.OwnLaws.{cell_at}
use Rattle.row_trials.specs.Rows.{good_at, row_good, rows_good}
use Rattle.row_trials.proofs.AnchorLaws.{good_fell, good_from}

in_count : (a n t : ℕ) → In t (count_from a n) → (a ≤ t) × (t < a + n)
unfolding count_from
in_count a zero t m = absurd m
in_count a (suc n) t (inl e) = (omega arith, omega arith)
in_count a (suc n) t (inr m) = let k = in_count (suc a) n t m in (omega (arith, k.0), omega (arith, k.1))

count_in : (a n t : ℕ) → a ≤ t → t < a + n → In t (count_from a n)
unfolding count_from
count_in a zero t h k = absurd (omega arith)
count_in a (suc n) t h k =
    ⊎_elim (λ (l : t ≤ a). inl (let e : t ≡ a = omega arith in e)) (λ (l : a < t). inr (count_in (suc a) n t (omega arith) (omega arith))) (le_or_lt t a)

module _ {m : Image} {g : Grid} {states : List ℕ} {table : List CellInfo} {marks cs : List ℕ} {rows : Rows} (p : Placed g states table marks cs) (span : Spans m g cs rows) where
  abbrev top : ℕ
  top = rows.top

  abbrev good : ℕ → Bool
  good z = is_good (tried_from m g states table cs top z)

  abbrev row_has : ℕ → Bool
  row_has = row_good m g states table cs top

  abbrev fits_so : Bool
  fits_so = fits_as g states table cs m

  top_in : In top cs
  top_in = has_in cs top span.top_in

  unit : Unit g table cs
  unit = record { limits = p.limits; table_of = p.table_of; some = p.some; cells_are = p.cells_are }

  pub tall_low : rows.tall < 32
  tall_low = let e = ends_at span in omega (arith, e.2, (image_low p.limits m e.0 (unit_cell unit e.0 e.1)).0)

  -- a good offset keeps the image's last row on the board
  stays_on : (z : ℕ) → Cell g z → good z ≡ true → row g z + rows.tall < g.height
  unfolding image_row
  stays_on z k q =
      let e = ends_at span in
      let w = (good_fell m p top z top_in k q e.0 e.1).1 in
      omega (arith, w.row_moves, w.row_in, e.2)

  -- some offset of the top cell is good exactly if one of the unit's first cell is
  top_fits : any good (range (cells g)) ≡ fits_so
  unfolding fits_by
  top_fits = same_truth (any good (range (cells g))) fits_so to from
    where
      first : ℕ
      first = head_or0 cs

      tried : ℕ → Bool
      tried z = is_good (tried_at m g states table cs z)

      first_is : (z : ℕ) → is_good (tried_from m g states table cs first z) ≡ tried z
      first_is z = ap is_good (tried_first m states z unit)

      to : any good (range (cells g)) ≡ true → fits_so ≡ true
      to q =
          let o = any_true good (range (cells g)) q in
          let y = good_from m p top first o.0 top_in (head_in cs p.some) (in_range (cells g) o.0 o.1) o.2 in
          true_any tried (range (cells g)) y.0 (range_in (cells g) y.0 y.1) (sym (first_is y.0) ∙ y.2)

      from : fits_so ≡ true → any good (range (cells g)) ≡ true
      from q =
          let o = any_true tried (range (cells g)) q in
          let y = good_from m p first top o.0 (head_in cs p.some) top_in (in_range (cells g) o.0 o.1) (first_is o.0 ∙ o.2) in
          true_any good (range (cells g)) y.0 (range_in (cells g) y.0 y.1) y.2

  -- some row's offset is good
  to_fits : (a b : ℕ) → b ≤ g.height → rows_good m g states table cs top a b ≡ true → any good (range (cells g)) ≡ true
  unfolding row_good
  to_fits a b h q =
      let t = any_true row_has (count_from a (b - a)) q in
      let k = in_count a (b - a) t.0 t.1 in
      let x = any_true (good_at m g states table cs top t.0) (range g.width) t.2 in
      let z = t.0 * g.width + x.0 in
      true_any good (range (cells g)) z (range_in (cells g) z (cell_at g t.0 x.0 (omega (arith, k.0, k.1)) (in_range g.width x.0 x.1))) x.2

  good_row : (z : ℕ) → Cell g z → good z ≡ true → row_has (row g z) ≡ true
  unfolding row_good
  good_row z k q =
      true_any (good_at m g states table cs top (row g z)) (range g.width) (col g z) (range_in g.width (col g z) (col_lt g z k))
      (ap (λ (n : ℕ). good n) (div-add-mod' z g.width) ∙ q)

  module _ (low : ℕ) (low-le : low ≤ g.height) where
    abbrev end : ℕ
    end = g.height - rows.tall

    abbrev later : Bool
    later = rows_good m g states table cs top low end

    abbrev sooner : Bool
    sooner = rows_good m g states table cs top 0 low

    from_fits : any good (range (cells g)) ≡ true → either later sooner ≡ true
    from_fits q =
        let a = any_true good (range (cells g)) q in
        let z = a.0 in
        let k = in_range (cells g) z a.1 in
        let l = stays_on z k a.2 in
        let r = good_row z k a.2 in
        ⊎_elim
        (λ (h : low ≤ row g z). left_either later sooner (true_any row_has (count_from low (end - low)) (row g z) (count_in low (end - low) (row g z) h (omega arith)) r))
        (λ (h : row g z < low). right_either later sooner (true_any row_has (count_from 0 (low - 0)) (row g z) (count_in 0 (low - 0) (row g z) (omega arith) (omega arith)) r))
        (le_or_lt low (row g z))

    pub fits_is : either later sooner ≡ fits_so
    fits_is =
        same_truth (either later sooner) (any good (range (cells g)))
        (λ q. ⊎_elim (to_fits low end (omega arith)) (to_fits 0 low low-le) (either_true later sooner q))
        from_fits
        ∙ top_fits

    module _ {first : Bool} (first_is : first ≡ later) where
      pub fits_later : first ≡ true → true ≡ fits_so
      fits_later q = left_true (sym first_is ∙ q) ∙ fits_is
        where
          left_true : later ≡ true → true ≡ either later sooner
          left_true e = sym (left_either later sooner e)

      pub fits_sooner : first ≡ false → {second : Bool} → second ≡ sooner → second ≡ fits_so
      fits_sooner q {second} e = e ∙ ap (λ b. either b sooner) (sym q ∙ first_is) ∙ fits_is
