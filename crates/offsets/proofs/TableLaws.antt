-- What stands in the table of an ask, and how it is filled, cell by cell. Assumes nothing.
use Prim.Native.Nat.{ℕ, ◌+◌, ◌*◌, ◌<◌}
use mathlib.Core.Path.{◌≡◌, ap, sym, ◌∙◌}
use mathlib.Core.Logic.{◌≢◌, ⊎_elim}
use mathlib.Core.List.{List, map}
use native.Mathlib.Omega.{arith}
use lib.ListN.{get_or, length, set, length-set}
use Rattle.std.proofs.Common.{get_or-set_same, get_or-set_other}
use Rattle.lists.specs.Lists.{range}
use Rattle.lists.proofs.Cases.{eq_or_ne}
use Rattle.lists.proofs.ListLaws.{table_at, table_is}
use Rattle.grid.specs.declared.Grid.{Grid}
use Rattle.grid.specs.Grid.{cells, Cell, row, col}
use Rattle.grid.proofs.Geometry.{coords}
use Rattle.std.proofs.lemmas.Nat.{mul-add-lt}
use Rattle.offsets.specs.declared.table.CellInfo.{CellInfo}
use Rattle.images.specs.Images.{spot}
use Rattle.offsets.specs.Table.{blank, spot_of, Table, unit_in, potential_in, units_in, potentials_in, Fillable, Filled}

-- WHAT STANDS IN IT

module _ (g : Grid) (table : List CellInfo) where
  pub unit_at_lem : (c : ℕ) → Cell g c → get_or (units_in g table) c 0 ≡ unit_in table c
  unfolding units_in
  unit_at_lem c h = table_at (unit_in table) (cells g) c h

  pub potential_at : (c : ℕ) → Cell g c → get_or (potentials_in g table) c 0 ≡ potential_in table c
  unfolding potentials_in
  potential_at c h = table_at (potential_in table) (cells g) c h

pub spot_at : {g : Grid} {table : List CellInfo} → Table g table → (c : ℕ) → Cell g c → spot_of (get_or table c blank) ≡ spot g c
spot_at t c h = rw (t.row_at c h, t.col_at c h)

-- HOW IT IS FILLED

-- what a cell has
abbrev pub info : Grid → List ℕ → List ℕ → ℕ → CellInfo
info g ids pids c = record { row = row g c; col = col g c; unit = get_or ids c 0; potential = get_or pids c 0 }

-- the cells before this one have theirs
pub record Filling (g : Grid) (ids pids : List ℕ) (table₀ table : List CellInfo) (cell : ℕ) : Type 0 where
  pub done : (c : ℕ) → c < cell → get_or table c blank ≡ info g ids pids c
  pub long : length table ≡ length table₀

module _ {g : Grid} {ids pids : List ℕ} {table₀ : List CellInfo} (p : Fillable g ids pids table₀) where
  -- the cell at a row and column of the board
  pub place_cell : {cell y x : ℕ} → cell ≡ y * g.width + x → y < g.height → x < g.width → Cell g cell
  place_cell {cell} {y} {x} e h k = omega (arith, mul-add-lt y g.width x g.height h k)

  module _ {table : List CellInfo} {cell y x : ℕ} (f : Filling g ids pids table₀ table cell) (number : cell ≡ y * g.width + x) (h : y < g.height) (k : x < g.width) where
    pub filling_turn : {table' : List CellInfo} → table' ≡ set table cell (record { row = y; col = x; unit = get_or ids cell 0; potential = get_or pids cell 0 })
        → Filling g ids pids table₀ table' (cell + 1)
    filling_turn {table'} stored =
        let q = coords g.width cell y x k number in
        let i : cell < length table = omega (arith, place_cell number h k, p.room, f.long) in
        let this : get_or table' cell blank ≡ info g ids pids cell = rw (stored, q.0, q.1) (get_or-set_same table cell _ blank i) in
        let those : (c : ℕ) → c < cell → get_or table' c blank ≡ info g ids pids c =
        λ c l. ap (λ (t : List CellInfo). get_or t c blank) stored ∙ get_or-set_other table cell c _ blank (omega arith) ∙ f.done c l in
        record {
          done = λ c l. ⊎_elim (λ (e : c ≡ cell). rw e this) (λ (e : c ≢ cell). those c (omega arith)) (eq_or_ne c cell);
          long = ap length stored ∙ length-set table cell _ ∙ f.long;
        }

  column : (f : ℕ → ℕ) (xs : List ℕ) → length xs ≡ cells g → ((c : ℕ) → Cell g c → f c ≡ get_or xs c 0) → map f (range (cells g)) ≡ xs
  column f xs n e = sym (table_is f (cells g) xs n (λ c h. sym (e c h)))

  pub filling_end : {table : List CellInfo} → Filling g ids pids table₀ table (cells g) → Filled g ids pids table
  unfolding units_in potentials_in
  filling_end {table} f =
      record {
        table_of =
            record {
              long = omega (arith, f.long, p.room);
              row_at = λ c l. ap (λ (i : CellInfo). i.row) (f.done c l);
              col_at = λ c l. ap (λ (i : CellInfo). i.col) (f.done c l);
            };
        units = column (unit_in table) ids p.ids_long (λ c l. ap (λ (i : CellInfo). i.unit) (f.done c l));
        potentials = column (potential_in table) pids p.pids_long (λ c l. ap (λ (i : CellInfo). i.potential) (f.done c l));
      }
