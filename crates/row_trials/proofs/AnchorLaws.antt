-- One offset of an image may be told by any cell of the unit: where it puts one cell, it puts the others. Assumes nothing.
use Prim.Native.Nat.{ℕ, ◌+◌, ◌-◌, ◌*◌}
use mathlib.Core.Path.{◌≡◌, sym, ap, ap₂, ◌∙◌, fun_ext}
use mathlib.Core.Bool.{Bool, true, false, not}
use mathlib.Core.List.{List}
use mathlib.Core.Option.{Option, some}
use native.Mathlib.Omega.{arith}
use borrow.Author.Tests.{le-leb, leb-true}
use lib.Dec.{eqb, leb}
use lib.ListN.{get_or}
use Rattle.lists.specs.Choice.{both, through}
use Rattle.lists.specs.Lists.{In, all, any}
use Rattle.lists.proofs.ChoiceLaws.{both_true, same_truth, holds_true}
use Rattle.lists.proofs.ListLaws.{all_true}
use Rattle.grid.specs.declared.Grid.{Grid}
use Rattle.grid.specs.Grid.{Cell, row, col}
use Rattle.grid.proofs.Geometry.{coords}
use Rattle.images.specs.declared.Image.{Image}
use Rattle.images.specs.Images.{direction_in, spot}
use Rattle.shape.specs.Shape.{along, place, offset, try, is_good, head_or0}
use Rattle.offsets.specs.declared.table.CellInfo.{CellInfo}
use Rattle.offsets.specs.Table.{unit_in, units_in, potentials_in}
use Rattle.offsets.specs.Reach.{moved, falls_off, falls_marked, reaches_of}
use Rattle.offsets.specs.Landings.{first_fail}
use Rattle.offsets.specs.Trial.{unit_at, shift_of, tried_from, Placed}
use Rattle.offsets.proofs.ReachLaws.{Fell, fell, fell_cell}
use Rattle.offsets.proofs.NoneLaws.{is_none}
use Rattle.offsets.proofs.TrialLaws.{good_is}
use Rattle.unit_codes.specs.Spans.{image_row, image_col}

-- on a line of n places f goes to t as f' goes to t'
along_same : (n f t f' t' u : ℕ) → f' + t ≡ t' + f → along n f t u ≡ along n f' t' u
unfolding along
along_same n f t f' t' u e =
    let place : u + t - f ≡ u + t' - f' = omega arith in
    let before : leb f (u + t) ≡ leb f' (u + t') =
    same_truth (leb f (u + t)) (leb f' (u + t')) (λ q. le-leb f' (u + t') (omega (arith, leb-true f (u + t) q))) (λ q. le-leb f (u + t) (omega (arith, leb-true f' (u + t') q))) in
    rw (before, place)

module _ (m : Image) (g : Grid) (f t f' t' : ℕ) (rows : image_row m g f' + row g t ≡ row g t' + image_row m g f) (cols : image_col m g f' + col g t ≡ col g t' + image_col m g f) where
  offset_same : offset m g f t ≡ offset m g f' t'
  unfolding place image_row image_col
  offset_same =
      ap (λ (put : ℕ → Option ℕ). record { put = put; turn = direction_in m })
      (fun_ext
      (λ c.
      ap₂ (λ (p q : Option ℕ). through p (λ y. through q (λ x. some (y * g.width + x))))
      (along_same g.height (image_row m g f) (row g t) (image_row m g f') (row g t') (image_row m g c) rows)
      (along_same g.width (image_col m g f) (col g t) (image_col m g f') (col g t') (image_col m g c) cols)))

  tried_same : (states : List ℕ) (table : List CellInfo) (cs : List ℕ) → tried_from m g states table cs f t ≡ tried_from m g states table cs f' t'
  tried_same states table cs = ap (try g states (units_in g table) (potentials_in g table) (unit_at g table cs)) offset_same

module _ (m : Image) {g : Grid} {states : List ℕ} {table : List CellInfo} {marks cs : List ℕ} (p : Placed g states table marks cs) where
  abbrev pub good : ℕ → ℕ → Bool
  good f z = is_good (tried_from m g states table cs f z)

  abbrev unit : ℕ
  unit = unit_in table (head_or0 cs)

  -- a good offset puts each cell on the board
  pub good_fell : (f z : ℕ) → In f cs → Cell g z → good f z ≡ true → (c : ℕ) → In c cs → (x : ℕ) × Fell g (shift_of m g unit f z) (spot g c) x
  unfolding reaches_of
  good_fell f z i k q c j =
      let s = shift_of m g unit f z in
      let ids = units_in g table in
      let pids = potentials_in g table in
      let r = (both_true (reaches_of g s ids pids marks cs) (both (is_none (first_fail g s states ids true cs)) (is_none (first_fail g s states ids false cs))) (sym (good_is m f p i k) ∙ q)).0 in
      let a = (both_true (all (falls_off g s ids) cs) (any (falls_marked g s pids marks) cs) r).0 in
      let o = holds_true (moved g s (spot g c)) (λ x. not (eqb (get_or ids x 0) unit)) (all_true (falls_off g s ids) cs a c j) in
      (o.0, fell g s (spot g c) o.0 o.1)

  -- a good offset is one of each cell of the unit
  pub good_from : (f f' z : ℕ) → In f cs → In f' cs → Cell g z → good f z ≡ true → (y : ℕ) × Cell g y × (good f' y ≡ true)
  unfolding image_row image_col
  good_from f f' z i j k q =
      let o = good_fell f z i k q f' j in
      let y = o.0 in
      let w = o.1 in
      let e = coords g.width y w.to.row w.to.col w.col_in w.number in
      let s = shift_of m g unit f z in (
        y,
        fell_cell g s (spot g f') y w,
        ap is_good (sym (tried_same m g f z f' y (omega (arith, w.row_moves, e.0)) (omega (arith, w.col_moves, e.1)) states table cs)) ∙ q,
      )
