-- Where a unit's cells stand in an image, and the rows that they span there, found cell by cell. Assumes nothing.
use Prim.Native.Nat.{ℕ, ◌+◌, ◌-◌, ◌≤◌, ◌<◌}
use mathlib.Core.Path.{◌≡◌, refl, ap, ◌∙◌}
use mathlib.Core.Logic.{⊎_elim}
use mathlib.Core.List.{List}
use native.Mathlib.Omega.{arith}
use borrow.Author.Tests.{eq-eqb, eqb-true}
use lib.Dec.{eqb}
use lib.ListN.{get_or, length}
use Rattle.lists.specs.Lists.{In}
use Rattle.lists.proofs.Cases.{le_or_lt}
use Rattle.lists.proofs.ListLaws.{get_d_in, in_get_d, any_true, true_any}
use Rattle.grid.specs.declared.Grid.{Grid}
use Rattle.grid.specs.Grid.{Limits, Cell}
use Rattle.grid.proofs.Geometry.{row_lt, col_lt}
use Rattle.images.specs.declared.Image.{Image}
use Rattle.images.specs.declared.Spot.{Spot}
use Rattle.images.specs.Images.{spot, spot_in}
use Rattle.images.proofs.Beside.{spot_low}
use Rattle.offsets.specs.declared.table.CellInfo.{CellInfo}
use Rattle.offsets.specs.Table.{Table, blank, spot_of}
use Rattle.offsets.specs.Trial.{Unit}
use Rattle.offsets.proofs.TableLaws.{spot_at}
use Rattle.offsets.proofs.TrialLaws.{unit_cell}
use Rattle.unit_codes.specs.declared.turned.Rows.{Rows}
use Rattle.unit_codes.specs.Spans.{image_row, image_col, Has, Stands, Spans, Spaced}

-- by what the table has of it
pub stands : (m : Image) {g : Grid} {table : List CellInfo} {c : ℕ} → Table g table → Cell g c → {p at : Spot} → p ≡ spot_of (get_or table c blank) → at ≡ spot_in g m p → Stands m g c at
unfolding image_row image_col
stands m {g} {c = c} t h e q =
    let a = q ∙ ap (spot_in g m) (e ∙ spot_at t c h) in
    record { row_is = ap (λ (s : Spot). s.row) a; col_is = ap (λ (s : Spot). s.col) a }

-- an image has at most 32 rows and columns
pub image_low : {g : Grid} → Limits g → (m : Image) (c : ℕ) → Cell g c → (image_row m g c < 32) × (image_col m g c < 32)
unfolding image_row image_col
image_low {g} l m c h = spot_low g m (spot g c) (row_lt g c h) (col_lt g c h) l

-- one of these cells
pub in_has : (cs : List ℕ) (c : ℕ) → In c cs → Has cs c
in_has cs c i = true_any (eqb c) cs c i (eq-eqb c c refl)

pub has_at : (cs : List ℕ) (i : ℕ) → i < length cs → {c : ℕ} → c ≡ get_or cs i 0 → Has cs c
has_at cs i h {c} e = in_has cs c (rw e (get_d_in 0 cs i h))

pub has_in : (cs : List ℕ) (c : ℕ) → Has cs c → In c cs
has_in cs c h = let o = any_true (eqb c) cs h in rw (← eqb-true c o.0 o.2) at o.1

-- the rows of the cells before place i: `top` stands on `from` in the first, and another cell in the last
pub record Widens (m : Image) (g : Grid) (cs : List ℕ) (top : ℕ) (from : Spot) (last i : ℕ) : Type 0 where
  pub top_in : In top cs
  pub top_at : Stands m g top from
  pub within : (j : ℕ) → j < i → j < length cs → (image_row m g top ≤ image_row m g (get_or cs j 0)) × (image_row m g (get_or cs j 0) ≤ last)
  pub end : ℕ
  pub end_in : In end cs
  pub end_is : image_row m g end ≡ last
  pub rises : image_row m g top ≤ last

module _ {m : Image} {g : Grid} {cs : List ℕ} where
  -- a turn, at the cell of place i
  module _ {top : ℕ} {from : Spot} {last i c : ℕ} {at : Spot} (w : Widens m g cs top from last i) (h : i < length cs) (c-is : c ≡ get_or cs i 0) (s : Stands m g c at) where
    here : In c cs
    here = rw c-is (get_d_in 0 cs i h)

    row_is : at.row ≡ image_row m g (get_or cs i 0)
    row_is = s.row_is ∙ ap (image_row m g) c-is

    -- the rows so far, and this one
    more : {low high : ℕ} → low ≤ image_row m g top → last ≤ high → low ≤ at.row → at.row ≤ high
        → (j : ℕ) → j < i + 1 → j < length cs → (low ≤ image_row m g (get_or cs j 0)) × (image_row m g (get_or cs j 0) ≤ high)
    more a b x y j k l =
        ⊎_elim (λ (e : i ≤ j). let q : j ≡ i = omega arith in let r = ap (λ n. image_row m g (get_or cs n 0)) q in (omega (arith, row_is, r), omega (arith, row_is, r)))
        (λ (e : j < i). let o = w.within j e l in (omega (arith, o.0), omega (arith, o.1)))
        (le_or_lt i j)

    pub widens_up : at.row < from.row → Widens m g cs c at last (i + 1)
    widens_up l =
        record {
          top_in = here;
          top_at = s;
          within = more (omega (arith, s.row_is, w.top_at.row_is)) (omega arith) (omega (arith, s.row_is)) (omega (arith, w.rises, w.top_at.row_is));
          end = w.end;
          end_in = w.end_in;
          end_is = w.end_is;
          rises = omega (arith, s.row_is, w.top_at.row_is, w.rises);
        }

    module _ (l : from.row ≤ at.row) where
      pub widens_down : last < at.row → Widens m g cs top from at.row (i + 1)
      widens_down k =
          record {
            top_in = w.top_in;
            top_at = w.top_at;
            within = more (omega arith) (omega arith) (omega (arith, w.top_at.row_is)) (omega arith);
            end = c;
            end_in = here;
            end_is = omega (arith, s.row_is);
            rises = omega (arith, w.top_at.row_is);
          }

      pub widens_not : at.row ≤ last → Widens m g cs top from last (i + 1)
      widens_not k =
          record {
            top_in = w.top_in;
            top_at = w.top_at;
            within = more (omega arith) (omega arith) (omega (arith, w.top_at.row_is)) k;
            end = w.end;
            end_in = w.end_in;
            end_is = w.end_is;
            rises = w.rises;
          }

  pub widens_start : {c : ℕ} {at : Spot} → In c cs → Stands m g c at → Widens m g cs c at at.row 0
  widens_start i s =
      record {
        top_in = i;
        top_at = s;
        within = λ j h. absurd (omega arith);
        end = _;
        end_in = i;
        end_is = omega (arith, s.row_is);
        rises = omega (arith, s.row_is);
      }

  pub widens_end : {top : ℕ} {from : Spot} {last i : ℕ} → Widens m g cs top from last i → length cs ≤ i → Spans m g cs (record { top = top; from = from; tall = last - from.row })
  widens_end {top} {from} {last} {i} w h =
      record {
        top_in = in_has cs top w.top_in;
        top_at = w.top_at;
        within = bounds;
        ends = true_any (λ c. eqb (image_row m g c) (image_row m g top + (last - from.row))) cs w.end w.end_in
            (eq-eqb (image_row m g w.end) (image_row m g top + (last - from.row)) (omega (arith, w.end_is, w.rises, w.top_at.row_is)));
      }
    where
      bounds : (c : ℕ) → In c cs → (image_row m g top ≤ image_row m g c) × (image_row m g c ≤ image_row m g top + (last - from.row))
      bounds c k =
          let o = in_get_d 0 c cs k in
          let b = w.within o.0 (omega (arith, o.1)) o.1 in
          let r = ap (image_row m g) o.2 in
          (omega (arith, b.0, r), omega (arith, b.0, b.1, w.top_at.row_is, r))

  pub rises_lem : {top : ℕ} {from : Spot} {last i : ℕ} → Widens m g cs top from last i → from.row ≤ last
  rises_lem w = omega (arith, w.rises, w.top_at.row_is)

-- a cell in the last row
pub ends_at : {m : Image} {g : Grid} {cs : List ℕ} {rows : Rows} → Spans m g cs rows → (c : ℕ) × In c cs × (image_row m g c ≡ image_row m g rows.top + rows.tall)
ends_at {m} {g} {cs} {rows} s =
    let last = image_row m g rows.top + rows.tall in
    let o = any_true (λ c. eqb (image_row m g c) last) cs s.ends in
    (o.0, o.1, eqb-true (image_row m g o.0) last o.2)

-- what coding a cell asks
pub spaced : {m : Image} {g : Grid} {table : List CellInfo} {cs : List ℕ} → Unit g table cs → {rows : Rows} → Spans m g cs rows
    → {c : ℕ} → In c cs → {at : Spot} → Stands m g c at → Spaced at rows.from
spaced {m} u {rows} s {c} i t =
    let a = image_low u.limits m c (unit_cell u c i) in
    let b = image_low u.limits m rows.top (unit_cell u rows.top (has_in _ rows.top s.top_in)) in
    record {
      below = omega (arith, t.row_is, s.top_at.row_is, (s.within c i).0);
      row_low = omega (arith, t.row_is, a.0);
      col_low = omega (arith, t.col_is, a.1);
      from_low = omega (arith, s.top_at.col_is, b.1);
    }
