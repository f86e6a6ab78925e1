-- A unit whose codes are written: what its trials are handed. Assumes nothing.
use Prim.Native.Nat.{ℕ, ◌+◌, ◌*◌, ◌%◌, ◌<◌, ◌≤◌}
use mathlib.Core.Path.{◌≡◌, ap, ◌∙◌}
use mathlib.Core.List.{List}
use native.Mathlib.Omega.{arith}
use lib.ListN.{get_or, length, take}
use lib.Seq.{length-sets}
use Rattle.lists.specs.Choice.{both}
use Rattle.lists.specs.Lists.{all}
use Rattle.lists.proofs.SetsLaws.{front}
use Rattle.grid.specs.declared.Grid.{Grid}
use Rattle.grid.proofs.Geometry.{row_lt}
use Rattle.boundary.specs.Appended.{Appended}
use Rattle.images.specs.declared.Image.{Image}
use Rattle.shape.specs.Shape.{head_or0}
use Rattle.offsets.specs.declared.table.CellInfo.{CellInfo}
use Rattle.offsets.specs.Table.{blank, unit_in, units_in}
use Rattle.offsets.specs.Trial.{Unit}
use Rattle.offsets.proofs.TrialLaws.{head_cell}
use Rattle.words.specs.Words.{bit}
use Rattle.unit_codes.specs.declared.turned.Rows.{Rows}
use Rattle.unit_codes.specs.Spans.{Spans}
use Rattle.unit_codes.specs.Codes.{cell_codes, border_codes}
use Rattle.unit_codes.proofs.WriteLaws.{cells_most, borders_most}
use Rattle.cell_words.specs.Cells.{Inside}
use Rattle.row_trials.specs.Coded.{CodedUnit, Asking}

-- a list at the front of a buffer
written : {b xs b' : List ℕ} {n : ℕ} → Appended b 0 xs b' n → length xs ≤ length b → (take n b' ≡ xs) × (n ≤ length b')
written {b} {xs} {b'} {n} a h =
    let e : n ≡ length xs = omega (arith, a.place) in
    let l : length b' ≡ length b = ap length a.stored ∙ length-sets b 0 xs in
    (rw (e, a.stored) (front b xs h), omega arith)

pub coded : {m : Image} {g : Grid} {table : List CellInfo} {cs states : List ℕ} {rows : Rows} {full : ℕ} {words : List ℕ} {codes codes' borders borders' inside : List ℕ} {on count more : ℕ}
    → Spans m g cs rows
    → Asking g states cs full words (length codes) (length borders)
    → Appended codes 0 (cell_codes m g rows.top cs) codes' count
    → Appended borders 0 (border_codes m g states table rows.top cs) borders' more
    → Inside g (units_in g table) (unit_in table (head_or0 cs)) inside
    → ((x : ℕ) → bit on x ≡ both (bit full (x + 32)) (all (λ e. bit full (x + e % 64)) (take count codes')))
    → CodedUnit m g states table cs rows (take count codes') (take more borders') full words inside on
coded {m} {g} {table} {cs} {states} {rows} s k a b i on_is =
    let c = written a (omega (arith, cells_most m g rows.top cs, k.codes_long)) in
    let d = written b (omega (arith, borders_most m g states table cs rows.top, k.borders_long)) in
    record {
      span = s;
      cells_are = c.0;
      borders_are = d.0;
      whole = k.whole;
      on_is = rw (← c.0) on_is;
      words_are = k.words_are;
      inside_is = i;
    }

-- the codes that are written fill so much of their buffer
pub count_fits : (m : Image) (g : Grid) (top : ℕ) (cs : List ℕ) {codes codes' : List ℕ} {count : ℕ} → length cs ≤ length codes → Appended codes 0 (cell_codes m g top cs) codes' count → count ≤ length codes'
count_fits m g top cs l a = (written a (omega (arith, cells_most m g top cs, l))).1

pub more_fits : (m : Image) (g : Grid) (states : List ℕ) (table : List CellInfo) (top : ℕ) (cs : List ℕ) {borders borders' : List ℕ} {more : ℕ} → 6 * length cs ≤ length borders
    → Appended borders 0 (border_codes m g states table top cs) borders' more → more ≤ length borders'
more_fits m g states table top cs l a = (written a (omega (arith, borders_most m g states table cs top, l))).1

-- the unit's first cell is in one of the board's rows
pub first_low : {g : Grid} {table : List CellInfo} {cs : List ℕ} → Unit g table cs → {first : CellInfo} {row : ℕ} → first ≡ get_or table (head_or0 cs) blank → row ≡ first.row → row < g.height
first_low {g} {table} {cs} u e q =
    omega (arith, q, ap (λ (i : CellInfo). i.row) e, u.table_of.row_at (head_or0 cs) (head_cell u), row_lt g (head_or0 cs) (head_cell u))
