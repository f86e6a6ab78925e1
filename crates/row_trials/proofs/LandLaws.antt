-- Where one cell of a unit's image falls, and where its borders land: what its codes read beside the definitions. Assumes nothing.
use Prim.Native.Nat.{ℕ, ◌+◌, ◌-◌, ◌*◌, ◌/◌, ◌%◌, ◌<◌, ◌≤◌}
use mathlib.Core.Path.{◌≡◌, refl, sym, ap, ap₂, ◌∙◌}
use mathlib.Core.Logic.{⊎_elim}
use mathlib.Core.Bool.{Bool, true, false, not}
use mathlib.Core.List.{List}
use mathlib.Core.Option.{some}
use native.Mathlib.Omega.{arith}
use borrow.Author.Tests.{le-leb, lt-ltb, ltb-true, leb-true}
use lib.Dec.{eqb, leb, ltb}
use lib.ListN.{get_or}
use Rattle.lists.specs.Choice.{both, pick, give, holds, through}
use Rattle.lists.proofs.Cases.{true_or_false}
use Rattle.lists.proofs.ChoiceLaws.{same_truth, both_true}
use Rattle.grid.specs.declared.Direction.{Direction}
use Rattle.grid.specs.declared.Grid.{Grid}
use Rattle.grid.specs.Grid.{Limits, Cell, border}
use Rattle.grid.proofs.Geometry.{coords}
use Rattle.borders.specs.Entry.{entry_of}
use Rattle.borders.specs.Border.{stands}
use Rattle.shape.specs.Shape.{along}
use Rattle.offsets.specs.declared.shift.Shift.{Shift}
use Rattle.images.specs.declared.Image.{Image}
use Rattle.images.specs.Images.{direction_in, spot}
use Rattle.offsets.specs.Reach.{moved, falls_off, falls_marked}
use Rattle.offsets.specs.Landings.{kept_of, fail_at}
use Rattle.offsets.specs.Trial.{shift_of}
use Rattle.offsets.proofs.NoneLaws.{is_none, none_give}
use Rattle.words.specs.Words.{bit, Says, Full, reads}
use Rattle.words.specs.Layout.{side_at, back_of}
use Rattle.border_words.specs.Sides.{BorderWords}
use Rattle.unit_codes.specs.Codes.{cell_code, border_code}
use Rattle.unit_codes.specs.Spans.{image_row, image_col}
use Rattle.unit_codes.proofs.CodeLaws.{back_low}
use Rattle.unit_codes.proofs.SpanLaws.{image_low}

-- the two numbers of a code
code_row : (a b : ℕ) → b < 64 → (64 * a + b) / 64 ≡ a
code_row a b h = (coords 64 (64 * a + b) a b h (omega arith)).0

code_by : (a b : ℕ) → b < 64 → (64 * a + b) % 64 ≡ b
code_by a b h = (coords 64 (64 * a + b) a b h (omega arith)).1

-- how many rows further on a cell's code reads, and a border's
module _ (m : Image) (g : Grid) (limits : Limits g) (f c : ℕ) (first : Cell g f) (cell : Cell g c) where
  narrow : (image_col m g f < 32) × (image_col m g c < 32)
  narrow = ((image_low limits m f first).1, (image_low limits m c cell).1)

  pub cell_code_row : cell_code m g f c / 64 ≡ image_row m g c - image_row m g f
  cell_code_row = let k = narrow in code_row (image_row m g c - image_row m g f) (32 + image_col m g c - image_col m g f) (omega arith)

  pub cell_code_by : cell_code m g f c % 64 ≡ 32 + image_col m g c - image_col m g f
  cell_code_by = let k = narrow in code_by (image_row m g c - image_row m g f) (32 + image_col m g c - image_col m g f) (omega arith)

  module _ (inner : Bool) (d : Direction) where
    pub border_code_row : border_code m g f inner c d / 64 ≡ side_at inner d + (image_row m g c - image_row m g f)
    border_code_row = let k = narrow in code_row (side_at inner d + (image_row m g c - image_row m g f)) (32 + image_col m g c - back_of d - image_col m g f) (omega (arith, back_low d))

    pub border_code_by : border_code m g f inner c d % 64 ≡ 32 + image_col m g c - back_of d - image_col m g f
    border_code_by = let k = narrow in code_by (side_at inner d + (image_row m g c - image_row m g f)) (32 + image_col m g c - back_of d - image_col m g f) (omega (arith, back_low d))

module _ (m : Image) (g : Grid) (limits : Limits g) (unit f t x c : ℕ) (first : Cell g f) (cell : Cell g c) (wide : x < g.width) (after : image_row m g f ≤ image_row m g c) (low : image_row m g c - image_row m g f + t < g.height) where
  abbrev s : Shift
  s = shift_of m g unit f (t * g.width + x)

  -- the row and the column on which c falls
  abbrev row_to : ℕ
  row_to = image_row m g c - image_row m g f + t

  abbrev col_to : ℕ
  col_to = image_col m g c + x - image_col m g f

  -- c's column stays in the row
  abbrev pub stays : Bool
  stays = both (leb (image_col m g f) (image_col m g c + x)) (ltb col_to g.width)

  close : (image_col m g f < 32) × (image_col m g c < 32)
  close = narrow m g limits f c first cell

  moved_is : moved g s (spot g c) ≡ give stays (row_to * g.width + col_to)
  unfolding moved through along give image_row image_col
  moved_is =
      let q = coords g.width (t * g.width + x) t x wide refl in
      let e : image_row m g c + t - image_row m g f ≡ row_to = omega arith in
      rw (q.0, q.1, le-leb (image_row m g f) (image_row m g c + t) (omega arith), e, lt-ltb row_to g.height low) (inner stays)
    where
      inner : (b : Bool) → through (give b col_to) (λ z. some (row_to * g.width + z)) ≡ give b (row_to * g.width + col_to)
      inner true = refl
      inner false = refl

  pub on_stays : (full : ℕ) → Full g.width full → bit full (x + cell_code m g f c % 64) ≡ stays
  on_stays full h =
      ap (λ (n : ℕ). bit full (x + n)) (cell_code_by m g limits f c first cell) ∙ h place ∙ same_truth (both (leb 32 place) (ltb place (32 + g.width))) stays to from
    where
      place : ℕ
      place = x + (32 + image_col m g c - image_col m g f)

      to : both (leb 32 place) (ltb place (32 + g.width)) ≡ true → stays ≡ true
      to q =
          let k = close in
          let b = both_true (leb 32 place) (ltb place (32 + g.width)) q in
          let l = leb-true 32 place b.0 in
          let h = ltb-true place (32 + g.width) b.1 in
          rw (le-leb (image_col m g f) (image_col m g c + x) (omega arith), lt-ltb col_to g.width (omega arith))

      from : stays ≡ true → both (leb 32 place) (ltb place (32 + g.width)) ≡ true
      from q =
          let k = close in
          let b = both_true (leb (image_col m g f) (image_col m g c + x)) (ltb col_to g.width) q in
          let l = leb-true (image_col m g f) (image_col m g c + x) b.0 in
          let h = ltb-true col_to g.width b.1 in
          rw (le-leb 32 place (omega arith), lt-ltb place (32 + g.width) (omega arith))

  module _ (on : stays ≡ true) where
    column : (image_col m g f ≤ image_col m g c + x) × (col_to < g.width)
    column =
        let b = both_true (leb (image_col m g f) (image_col m g c + x)) (ltb col_to g.width) on in
        (leb-true (image_col m g f) (image_col m g c + x) b.0, ltb-true col_to g.width b.1)

    moved_on : moved g s (spot g c) ≡ some (row_to * g.width + col_to)
    unfolding give
    moved_on = moved_is ∙ ap (λ b. give b (row_to * g.width + col_to)) on

    -- a row's word says of c what it says of the cell on which c falls
    reads_cell : (P : ℕ → Bool) (table : List ℕ) → Says g.width P (get_or table row_to 0) → reads table t x (cell_code m g f c) ≡ P col_to
    reads_cell P table h =
        let k = column in
        let e : x + (32 + image_col m g c - image_col m g f) ≡ 32 + col_to = omega arith in
        ap₂ (λ (r b : ℕ). bit (get_or table (r + t) 0) (x + b)) (cell_code_row m g limits f c first cell) (cell_code_by m g limits f c first cell) ∙ ap (bit (get_or table row_to 0)) e ∙ h col_to k.1

    pub met_is : (pids marks near : List ℕ) → Says g.width (λ z. not (eqb (get_or marks (get_or pids (row_to * g.width + z) 0) 0) 0)) (get_or near row_to 0)
        → falls_marked g s pids marks c ≡ reads near t x (cell_code m g f c)
    unfolding holds
    met_is pids marks near h = rw moved_on (sym (reads_cell (λ z. not (eqb (get_or marks (get_or pids (row_to * g.width + z) 0) 0) 0)) near h))

    -- a border of direction d lands badly where its code reads a bit
    pub lands_is : (states ids words : List ℕ) → BorderWords g states words → (inner : Bool) (d : Direction)
        → is_none (fail_at g s states ids inner c d) ≡ not (both (kept_of g states ids inner unit c d) (reads words t x (border_code m g f inner c (direction_in m d))))
    unfolding fail_at through
    lands_is states ids words b inner d =
        rw moved_on
        (none_give (both (kept_of g states ids inner unit c d) (stands g states (pick inner 2 1) to (row_to * g.width + col_to))) (entry_of inner (border g to (row_to * g.width + col_to)))
        ∙ ap (λ v. not (both (kept_of g states ids inner unit c d) v)) (sym reads_border))
      where
        to : Direction
        to = direction_in m d

        reads_border : reads words t x (border_code m g f inner c to) ≡ stands g states (pick inner 2 1) to (row_to * g.width + col_to)
        reads_border =
            let k = column in
            let n = close in
            let l = back_low to in
            let a = side_at inner to + (image_row m g c - image_row m g f) in
            let r = 32 + image_col m g c - back_of to - image_col m g f in
            let e : a + t ≡ side_at inner to + row_to = omega arith in
            let q : x + r ≡ 32 + col_to - back_of to = omega arith in
            ap₂ (λ (y z : ℕ). bit (get_or words (y + t) 0) (x + z)) (border_code_row m g limits f c first cell inner to) (border_code_by m g limits f c first cell inner to)
            ∙ ap₂ (λ (y z : ℕ). bit (get_or words y 0) z) e q ∙ b.says inner to row_to col_to low k.1

  -- c falls on the board and off the unit
  pub off_is : (ids inside : List ℕ) (full : ℕ) → Full g.width full → Says g.width (λ z. eqb (get_or ids (row_to * g.width + z) 0) unit) (get_or inside row_to 0)
      → falls_off g s ids c ≡ both (bit full (x + cell_code m g f c % 64)) (not (reads inside t x (cell_code m g f c)))
  unfolding holds give
  off_is ids inside full h i =
      ⊎_elim
      (λ (e : stays ≡ true). rw (moved_on e, on_stays full h, e, reads_cell e (λ z. eqb (get_or ids (row_to * g.width + z) 0) unit) inside i))
      (λ (e : stays ≡ false). rw (moved_is, on_stays full h, e))
      (true_or_false stays)
