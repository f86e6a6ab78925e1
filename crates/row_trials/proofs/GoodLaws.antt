-- An offset of a row is good exactly where its bits say so. Assumes nothing.
use Prim.Native.Nat.{ℕ, ◌+◌, ◌-◌, ◌*◌, ◌%◌, ◌<◌, ◌≤◌}
use mathlib.Core.Path.{◌≡◌, refl, sym, ap, ap₂, ◌∙◌}
use mathlib.Core.Logic.{⊎_elim}
use mathlib.Core.Bool.{Bool, true, false, not}
use mathlib.Core.List.{List, [], ◌∷◌}
use native.Mathlib.Omega.{arith}
use lib.Dec.{eqb}
use lib.ListN.{get_or, length}
use Rattle.lists.specs.Choice.{both, either, when}
use Rattle.lists.specs.Lists.{In, all, any, gather}
use Rattle.lists.proofs.Cases.{true_or_false}
use Rattle.lists.proofs.ListLaws.{all_true}
use Rattle.grid.specs.declared.Grid.{Grid}
use Rattle.grid.specs.Grid.{Cell}
use Rattle.borders.proofs.Congruence.{any_same, all_same}
use Rattle.groups.proofs.GroupLaws.{in_cells}
use Rattle.images.specs.declared.Image.{Image}
use Rattle.images.specs.Images.{direction_in}
use Rattle.shape.specs.Shape.{head_or0}
use Rattle.offsets.specs.declared.shift.Shift.{Shift}
use Rattle.offsets.specs.declared.table.CellInfo.{CellInfo}
use Rattle.offsets.specs.Table.{unit_in, potential_in, units_in, potentials_in}
use Rattle.offsets.specs.Reach.{falls_off, falls_marked, reaches_of}
use Rattle.offsets.specs.Landings.{kept_of, fail_at, fail_cell, first_fail, directions_of}
use Rattle.offsets.specs.Trial.{shift_of, Placed}
use Rattle.offsets.proofs.TableLaws.{potential_at}
use Rattle.offsets.proofs.NoneLaws.{is_none, neither, none_first}
use Rattle.offsets.proofs.TrialLaws.{good_is}
use Rattle.words.specs.Words.{bit, Says, Full, reads}
use Rattle.words.proofs.AnyLaws.{any_append, any_one, all_one, any_when, any_gather, all_gather}
use Rattle.border_words.specs.Sides.{BorderWords}
use Rattle.unit_codes.specs.Codes.{cell_code, border_code, codes_at, cell_codes, border_codes}
use Rattle.unit_codes.specs.Spans.{image_row}
use Rattle.cell_words.specs.Cells.{Inside, NearRow}
use Rattle.cell_words.proofs.OwnLaws.{cell_at}
use Rattle.row_trials.specs.Rows.{good_at}
use Rattle.row_trials.proofs.LandLaws.{stays, on_stays, met_is, lands_is, off_is}

both_swap : (a b c d : Bool) → both (both a b) (both c d) ≡ both (both a c) (both b d)
both_swap true true c d = refl
both_swap true false true d = refl
both_swap true false false d = refl
both_swap false b c d = refl

-- all are on, and none over
all_split : (p q : ℕ → Bool) (xs : List ℕ) → all (λ x. both (p x) (not (q x))) xs ≡ both (all p xs) (not (any q xs))
unfolding all any
all_split p q [] = refl
all_split p q (x ∷ xs) =
    ap (both (both (p x) (not (q x)))) (all_split p q xs) ∙ both_swap (p x) (not (q x)) (all p xs) (not (any q xs))
    ∙ ap (both (both (p x) (all p xs))) (neither (q x) (any q xs))

shuffle : (o m b : Bool) → both (both (not o) m) (not b) ≡ both m (not (either o b))
shuffle true true b = refl
shuffle true false b = refl
shuffle false m b = refl

module _ (m : Image) {g : Grid} {states : List ℕ} {table : List CellInfo} {marks cs : List ℕ} (p : Placed g states table marks cs) (f : ℕ) (first_in : In f cs) (full : ℕ) (whole : Full g.width full) (words near inside : List ℕ)
    (b : BorderWords g states words)
    (i : Inside g (units_in g table) (unit_in table (head_or0 cs)) inside)
    (t x : ℕ) (wide : x < g.width)
    (fit : (c : ℕ) → In c cs → (image_row m g f ≤ image_row m g c) × (image_row m g c - image_row m g f + t < g.height))
    (n : (c : ℕ) → In c cs → NearRow g states (potentials_in g table) (potential_in table (head_or0 cs)) near (image_row m g c - image_row m g f + t)) where
  abbrev unit : ℕ
  unit = unit_in table (head_or0 cs)

  abbrev ids : List ℕ
  ids = units_in g table

  abbrev pids : List ℕ
  pids = potentials_in g table

  abbrev s : Shift
  s = shift_of m g unit f (t * g.width + x)

  abbrev on_at : ℕ → Bool
  on_at c = bit full (x + cell_code m g f c % 64)

  abbrev near_at : ℕ → Bool
  near_at c = reads near t x (cell_code m g f c)

  abbrev over_at : ℕ → Bool
  over_at c = reads inside t x (cell_code m g f c)

  abbrev bad_at : Bool → ℕ → Bool
  bad_at inner c = any (reads words t x) (codes_at m g states ids unit f inner c)

  on_board_lem : (c : ℕ) → In c cs → Cell g c
  on_board_lem c h = (in_cells g ids unit c (rw p.cells_are at h)).0

  first_cell : Cell g f
  first_cell = on_board_lem f first_in

  off_one : (c : ℕ) → In c cs → falls_off g s ids c ≡ both (on_at c) (not (over_at c))
  off_one c h =
      off_is m g p.limits unit f t x c first_cell (on_board_lem c h) wide (fit c h).0 (fit c h).1 ids inside full whole (i.says (image_row m g c - image_row m g f + t) (fit c h).1)

  all_off : all (falls_off g s ids) cs ≡ both (all on_at cs) (not (any over_at cs))
  all_off = all_same (falls_off g s ids) (λ c. both (on_at c) (not (over_at c))) cs off_one ∙ all_split on_at over_at cs

  -- near are the cells in marked potential units
  near_marks : (c : ℕ) (h : In c cs)
      → Says g.width (λ z. not (eqb (get_or marks (get_or pids ((image_row m g c - image_row m g f + t) * g.width + z) 0) 0) 0)) (get_or near (image_row m g c - image_row m g f + t) 0)
  near_marks c h z l =
      let y = image_row m g c - image_row m g f + t in
      let k = cell_at g y z (fit c h).1 l in
      let o : get_or pids (y * g.width + z) 0 < length marks = rw (potential_at g table (y * g.width + z) k) (p.marks_long (y * g.width + z) k) in
      n c h z l ∙ sym (p.marked (get_or pids (y * g.width + z) 0) o)

  -- a cell has a border that lands badly where one of its codes reads a bit
  bad_codes : (inner : Bool) (c : ℕ)
      → any (λ d. both (kept_of g states ids inner unit c d) (reads words t x (border_code m g f inner c (direction_in m d)))) (directions_of inner) ≡ bad_at inner c
  unfolding codes_at
  bad_codes inner c =
      let dirs = directions_of inner in
      sym
      (any_gather (reads words t x) (λ d. when (kept_of g states ids inner unit c d) (border_code m g f inner c (direction_in m d))) dirs
      ∙ any_same (λ d. any (reads words t x) (when (kept_of g states ids inner unit c d) (border_code m g f inner c (direction_in m d))))
      (λ d. both (kept_of g states ids inner unit c d) (reads words t x (border_code m g f inner c (direction_in m d)))) dirs
      (λ d h. any_when (reads words t x) (kept_of g states ids inner unit c d) (border_code m g f inner c (direction_in m d))))

  module _ (on : all on_at cs ≡ true) where
    stay : (c : ℕ) (h : In c cs) → stays m g p.limits unit f t x c first_cell (on_board_lem c h) wide (fit c h).0 (fit c h).1 ≡ true
    stay c h = sym (on_stays m g p.limits unit f t x c first_cell (on_board_lem c h) wide (fit c h).0 (fit c h).1 full whole) ∙ all_true on_at cs on c h

    any_met : any (falls_marked g s pids marks) cs ≡ any near_at cs
    any_met =
        any_same (falls_marked g s pids marks) near_at cs
        (λ c h. met_is m g p.limits unit f t x c first_cell (on_board_lem c h) wide (fit c h).0 (fit c h).1 (stay c h) pids marks near (near_marks c h))

    none_bad : (inner : Bool) → is_none (first_fail g s states ids inner cs) ≡ not (any (bad_at inner) cs)
    unfolding first_fail fail_cell
    none_bad inner =
        none_first (fail_cell g s states ids inner) (bad_at inner) cs
        (λ c h.
        none_first (fail_at g s states ids inner c) (λ d. both (kept_of g states ids inner unit c d) (reads words t x (border_code m g f inner c (direction_in m d)))) (directions_of inner)
        (λ d k. lands_is m g p.limits unit f t x c first_cell (on_board_lem c h) wide (fit c h).0 (fit c h).1 (stay c h) states ids words b inner d)
        ∙ ap not (bad_codes inner c))

  -- by the cells
  good_cells : good_at m g states table cs f t x ≡ both (both (all on_at cs) (any near_at cs)) (not (either (any over_at cs) (either (any (bad_at true) cs) (any (bad_at false) cs))))
  unfolding reaches_of
  good_cells =
      good_is m f p first_in (cell_at g t x (omega (arith, (fit f first_in).1)) wide)
      ∙ ap
      (λ v. both (both v (any (falls_marked g s pids marks) cs)) (both (is_none (first_fail g s states ids true cs)) (is_none (first_fail g s states ids false cs))))
      all_off
      ∙ ⊎_elim
      (λ (on : all on_at cs ≡ true).
      rw (on, any_met on, none_bad on true, none_bad on false, neither (any (bad_at true) cs) (any (bad_at false) cs))
      (shuffle (any over_at cs) (any near_at cs) (either (any (bad_at true) cs) (any (bad_at false) cs))))
      (λ (off : all on_at cs ≡ false). rw off)
      (true_or_false (all on_at cs))

  any_cells : (q : ℕ → Bool) → any q (cell_codes m g f cs) ≡ any (λ c. q (cell_code m g f c)) cs
  unfolding cell_codes
  any_cells q =
      any_gather q (λ c. cell_code m g f c ∷ []) cs
      ∙ any_same (λ c. any q (cell_code m g f c ∷ [])) (λ c. q (cell_code m g f c)) cs (λ c h. any_one q (cell_code m g f c))

  all_cells : (q : ℕ → Bool) → all q (cell_codes m g f cs) ≡ all (λ c. q (cell_code m g f c)) cs
  unfolding cell_codes
  all_cells q =
      all_gather q (λ c. cell_code m g f c ∷ []) cs
      ∙ all_same (λ c. all q (cell_code m g f c ∷ [])) (λ c. q (cell_code m g f c)) cs (λ c h. all_one q (cell_code m g f c))

  any_borders : any (reads words t x) (border_codes m g states table f cs) ≡ either (any (bad_at true) cs) (any (bad_at false) cs)
  unfolding border_codes
  any_borders =
      let codes = codes_at m g states ids unit f in
      any_append (reads words t x) (gather (codes true) cs) (gather (codes false) cs)
      ∙ ap₂ either (any_gather (reads words t x) (codes true) cs) (any_gather (reads words t x) (codes false) cs)

  -- by the codes
  pub good_codes : good_at m g states table cs f t x
      ≡ both (both (all (λ e. bit full (x + e % 64)) (cell_codes m g f cs)) (any (reads near t x) (cell_codes m g f cs))) (not (either (any (reads inside t x) (cell_codes m g f cs)) (any (reads words t x) (border_codes m g states table f cs))))
  good_codes =
      good_cells
      ∙ sym
      (ap₂ (λ a c. both a (not c))
      (ap₂ both (all_cells (λ e. bit full (x + e % 64))) (any_cells (reads near t x)))
      (ap₂ either (any_cells (reads inside t x)) any_borders))
