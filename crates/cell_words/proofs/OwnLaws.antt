-- The words of a unit's own cells, set cell by cell. Assumes nothing.
use Prim.Native.Nat.{ℕ, ◌+◌, ◌*◌, ◌≤◌, ◌<◌}
use mathlib.Core.Path.{◌≡◌, refl, sym, ap, ◌∙◌}
use mathlib.Core.Logic.{⊎_elim, ◌≢◌}
use mathlib.Core.Bool.{Bool, true}
use mathlib.Core.List.{List}
use native.Mathlib.Omega.{arith}
use native.Mathlib.Nat.{mul-le-mul, suc-mul, le_refl, div-add-mod'}
use borrow.Author.Tests.{eq-eqb, ne_eqb, eqb-true}
use lib.Dec.{eqb}
use lib.ListN.{get_or, length, set, length-set, drop, drop_of_length-le, replicate, length-replicate}
use lib.Seq.{get_or-set_same, get_or-set_other}
use Rattle.lists.specs.Choice.{both, either}
use Rattle.lists.specs.Lists.{In, any}
use Rattle.lists.proofs.Cases.{eq_or_ne}
use Rattle.lists.proofs.ChoiceLaws.{both_true, true_both, same_truth}
use Rattle.lists.proofs.ListLaws.{get_d_in, any_true, true_any, zeros_at}
use Rattle.grid.specs.declared.Grid.{Grid}
use Rattle.grid.specs.Grid.{Limits, Cell, row, col}
use Rattle.grid.proofs.Geometry.{coords, row_lt, col_lt}
use Rattle.groups.specs.Groups.{cells_of}
use Rattle.groups.proofs.GroupLaws.{in_cells, cells_in_lem}
use Rattle.shape.specs.Shape.{head_or0}
use Rattle.offsets.specs.declared.table.CellInfo.{CellInfo}
use Rattle.offsets.specs.Table.{row_in, col_in, unit_in, units_in}
use Rattle.offsets.specs.Trial.{Unit}
use Rattle.offsets.proofs.ReachLaws.{next_cell}
use Rattle.words.specs.Words.{bit}
use Rattle.words.proofs.WordLaws.{bit_zero}
use Rattle.lists.proofs.ChoiceLaws.{either_assoc, either_false}
use Rattle.cell_words.specs.Cells.{Blank, Inside}

-- the cells of a row are cells
pub cell_at : (g : Grid) (y x : ℕ) → y < g.height → x < g.width → Cell g (y * g.width + x)
cell_at g y x h k = omega (arith, mul-le-mul h (le_refl g.width), suc-mul y g.width)

pub blank : {g : Grid} → Limits g → Blank g (replicate 32 0)
blank l = record { clear = zeros_at 32; long = simp length-replicate l.height_fits }

-- cell c has bit j of row y's word
abbrev stands_at : List CellInfo → ℕ → ℕ → ℕ → Bool
stands_at table y j c = both (eqb (row_in table c) y) (eqb j (32 + col_in table c))

-- the cells from place i on are still to be set
pub record AddWalk (table : List CellInfo) (cs inside₀ inside : List ℕ) (i : ℕ) : Type 0 where
  pub long : length inside ≡ length inside₀
  pub rest : (y j : ℕ) → either (bit (get_or inside y 0) j) (any (stands_at table y j) (drop i cs)) ≡ any (stands_at table y j) cs

-- a bit more in row y's word
stored : (table : List CellInfo) (inside : List ℕ) (new c y x : ℕ) → y ≡ row_in table c → x ≡ col_in table c → y < length inside
    → ((j : ℕ) → bit new j ≡ either (bit (get_or inside y 0) j) (eqb j (32 + x))) → (z j : ℕ)
    → bit (get_or (set inside y new) z 0) j ≡ either (bit (get_or inside z 0) j) (stands_at table z j c)
stored table inside new c y x p q l n z j =
    ⊎_elim
    (λ (e : z ≡ y). rw (e, get_or-set_same inside y new 0 l, eq-eqb (row_in table c) y (sym p), ← q) (n j))
    (λ (e : z ≢ y). rw (get_or-set_other inside y z new 0 e, ne_eqb (row_in table c) z (λ k. e (sym k ∙ sym p))) (sym (either_false (bit (get_or inside z 0) j))))
    (eq_or_ne z y)

-- THE UNIT
module _ {g : Grid} {table : List CellInfo} {cs : List ℕ} (u : Unit g table cs) where
  abbrev ids : List ℕ
  ids = units_in g table

  abbrev unit : ℕ
  unit = unit_in table (head_or0 cs)

  pub on_board_lem : (c : ℕ) → In c cs → Cell g c
  on_board_lem c m = (in_cells g ids unit c (rw u.cells_are at m)).0

  pub row_is : (c : ℕ) → In c cs → row_in table c ≡ row g c
  row_is c m = u.table_of.row_at c (on_board_lem c m)

  -- a turn, at cell c
  module _ {i c : ℕ} (h : i < length cs) (q : c ≡ get_or cs i 0) where
    own_in : In c cs
    own_in = rw q (get_d_in 0 cs i h)

    pub own_cell : Cell g c
    own_cell = on_board_lem c own_in

    -- its row has a word among n, as many as there were at the start
    pub own_row : {y n n₀ : ℕ} → y ≡ row_in table c → g.height ≤ n₀ → n ≡ n₀ → (y < 32) × (y < n)
    own_row e r l =
        let k = row_lt g c (on_board_lem c own_in) in
        (omega (arith, row_is c own_in, u.limits.height_fits), omega (arith, row_is c own_in))

    pub own_col : {x : ℕ} → x ≡ col_in table c → x < 32
    own_col e = omega (arith, e, u.table_of.col_at c (on_board_lem c own_in), col_lt g c (on_board_lem c own_in), u.limits.width_fits)

    module _ {inside₀ inside : List ℕ} {y : ℕ} (y-is : y ≡ row_in table c) (l : y < length inside) where
      pub add_turn : (new : ℕ) {x : ℕ} → AddWalk table cs inside₀ inside i → x ≡ col_in table c
          → ((j : ℕ) → bit new j ≡ either (bit (get_or inside y 0) j) (eqb j (32 + x)))
          → AddWalk table cs inside₀ (set inside y new) (i + 1)
      unfolding any
      add_turn new {x} w x-is n =
          record {
            long = length-set inside y new ∙ w.long;
            rest = λ z j.
                ap (λ b. either b (any (stands_at table z j) (drop (i + 1) cs))) (stored table inside new c y x y-is x-is l n z j)
                ∙ either_assoc (bit (get_or inside z 0) j) (stands_at table z j c) (any (stands_at table z j) (drop (i + 1) cs))
                ∙ ap (λ r. either (bit (get_or inside z 0) j) (any (stands_at table z j) r)) (sym (next_cell cs i c h q)) ∙ w.rest z j;
          }

  pub add_start : {inside : List ℕ} → Blank g inside → AddWalk table cs inside inside 0
  add_start b = record { long = refl; rest = λ y j. rw (b.clear y, bit_zero j) }

  -- the cells that are to have bits are those with the unit's number
  own_at : {y x : ℕ} → y < g.height → x < g.width → any (stands_at table y (32 + x)) (cells_of g ids unit) ≡ eqb (get_or ids (y * g.width + x) 0) unit
  own_at {y} {x} a b = same_truth (any (stands_at table y (32 + x)) (cells_of g ids unit)) (eqb (get_or ids (y * g.width + x) 0) unit) to from
    where
      to : any (stands_at table y (32 + x)) (cells_of g ids unit) ≡ true → eqb (get_or ids (y * g.width + x) 0) unit ≡ true
      to q =
          let o = any_true (stands_at table y (32 + x)) (cells_of g ids unit) q in
          let c = o.0 in
          let k = in_cells g ids unit c o.1 in
          let s = both_true (eqb (row_in table c) y) (eqb (32 + x) (32 + col_in table c)) o.2 in
          let m : row g c ≡ y = sym (u.table_of.row_at c k.0) ∙ eqb-true (row_in table c) y s.0 in
          let n : col g c ≡ x = omega (arith, u.table_of.col_at c k.0, eqb-true (32 + x) (32 + col_in table c) s.1) in
          let e : c ≡ y * g.width + x = sym (div-add-mod' c g.width) ∙ rw (m, n) in
          eq-eqb (get_or ids (y * g.width + x) 0) unit (rw (← e) k.1)

      from : eqb (get_or ids (y * g.width + x) 0) unit ≡ true → any (stands_at table y (32 + x)) (cells_of g ids unit) ≡ true
      from q =
          let c = y * g.width + x in
          let k = cell_at g y x a b in
          let d = coords g.width c y x b refl in
          true_any (stands_at table y (32 + x)) (cells_of g ids unit) c (cells_in_lem g ids unit c k (eqb-true (get_or ids c 0) unit q))
          (true_both (eqb (row_in table c) y) (eqb (32 + x) (32 + col_in table c)) (eq-eqb (row_in table c) y (u.table_of.row_at c k ∙ d.0))
          (eq-eqb (32 + x) (32 + col_in table c) (omega (arith, u.table_of.col_at c k, d.1))))

  pub add_end : {inside₀ inside : List ℕ} {i : ℕ} → Blank g inside₀ → length cs ≤ i → AddWalk table cs inside₀ inside i → Inside g ids unit inside
  unfolding any
  add_end {inside₀} {inside} {i} b l w =
      record {
        says = λ y a x k.
            sym (either_false (bit (get_or inside y 0) (32 + x)))
            ∙ ap (λ r. either (bit (get_or inside y 0) (32 + x)) (any (stands_at table y (32 + x)) r)) (sym (drop_of_length-le cs l))
            ∙ w.rest y (32 + x) ∙ ap (any (stands_at table y (32 + x))) u.cells_are ∙ own_at a k;
        long = omega (arith, w.long, b.long);
      }
