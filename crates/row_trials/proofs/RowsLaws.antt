-- The rows of a unit's trials in turn: one turn, and the end. Assumes nothing.
use Prim.Native.Nat.{ℕ, ◌+◌, ◌-◌, ◌≤◌, ◌<◌}
use mathlib.Core.Path.{◌≡◌, refl, sym, ap, ◌∙◌}
use mathlib.Core.Bool.{Bool, true, false}
use mathlib.Core.List.{List}
use native.Mathlib.Omega.{arith}
use lib.ListN.{get_or}
use Rattle.lists.specs.Choice.{either}
use Rattle.lists.specs.Lists.{any, count_from}
use Rattle.lists.proofs.ListLaws.{count_from_step, count_from_end}
use Rattle.grid.specs.declared.Grid.{Grid}
use Rattle.images.specs.declared.Image.{Image}
use Rattle.offsets.specs.declared.table.CellInfo.{CellInfo}
use Rattle.offsets.specs.Table.{blank, potential_in, potentials_in}
use Rattle.offsets.specs.Trial.{Placed}
use Rattle.shape.specs.Shape.{head_or0}
use Rattle.cell_words.specs.declared.Near.{Near}
use Rattle.cell_words.specs.Marks.{Stamping}
use Rattle.cell_words.specs.Cells.{Stamped, Restamped}
use Rattle.cell_words.proofs.NearLaws.{same_lists, same_then}
use Rattle.row_trials.specs.Rows.{row_good, rows_good, NearRows, Held}

any_next : (p : ℕ → Bool) (n i : ℕ) → i < n → any p (count_from i (n - i)) ≡ either (p i) (any p (count_from (i + 1) (n - (i + 1))))
unfolding any
any_next p n i h = rw (count_from_step n i h)

any_last : (p : ℕ → Bool) (n i : ℕ) → n ≤ i → any p (count_from i (n - i)) ≡ false
unfolding any
any_last p n i h = rw (count_from_end n i h)

-- what is left of the rows, from t on
pub record RowsWalk (m : Image) (g : Grid) (states : List ℕ) (table : List CellInfo) (cs : List ℕ) (f from to : ℕ) (near₀ near : Near) (t : ℕ) : Type 0 where
  pub rest : rows_good m g states table cs f t to ≡ rows_good m g states table cs f from to
  pub held : Held g states (potentials_in g table) near₀ near

module _ {m : Image} {g : Grid} {states : List ℕ} {table : List CellInfo} {cs : List ℕ} {f from to : ℕ} where
  pub rows_start : {near : Near} → Stamped g states (potentials_in g table) near → RowsWalk m g states table cs f from to near near from
  rows_start {near} s = record { rest = refl; held = record { stamped = s; same = same_lists near } }

  module _ {near₀ near : Near} {t : ℕ} (w : RowsWalk m g states table cs f from to near₀ near t) where
    pub rows_end : to ≤ t → false ≡ rows_good m g states table cs f from to
    rows_end h = sym (any_last (row_good m g states table cs f) to t h) ∙ w.rest

    module _ (l : t < to) where
      left : either (row_good m g states table cs f t) (rows_good m g states table cs f (t + 1) to) ≡ rows_good m g states table cs f from to
      left = sym (any_next (row_good m g states table cs f) to t l) ∙ w.rest

      pub rows_found : {r : Bool} → r ≡ row_good m g states table cs f t → r ≡ true → true ≡ rows_good m g states table cs f from to
      rows_found e q = rw (sym e ∙ q) at left

      pub rows_turn : {p a b : ℕ} {near' : Near} → Restamped g states (potentials_in g table) p a b near near' → {r : Bool} → r ≡ row_good m g states table cs f t → r ≡ false
          → RowsWalk m g states table cs f from to near₀ near' (t + 1)
      rows_turn s e q = record { rest = (rw (sym e ∙ q) at left); held = record { stamped = s.stamped; same = same_then w.held.same s.same } }

own_is : (table : List CellInfo) (cs : List ℕ) {first : CellInfo} → first ≡ get_or table (head_or0 cs) blank → first.potential ≡ potential_in table (head_or0 cs)
own_is table cs e = ap (λ (i : CellInfo). i.potential) e

-- the unit's potential unit has its marks; and the rows on which it falls have their words once they are stamped
module _ {g : Grid} {states : List ℕ} {table : List CellInfo} {cs : List ℕ} {first : CellInfo} (e : first ≡ get_or table (head_or0 cs) blank) where
  pub stamping : {marks : List ℕ} → Placed g states table marks cs → Stamping g states table marks first.potential
  stamping p = record { marks_long = p.marks_long; marked = rw (own_is table cs e) p.marked }

  pub near_rows : {t to tall : ℕ} → t < to → to ≤ g.height - tall → {near near' : Near} → Restamped g states (potentials_in g table) first.potential t (t + tall + 1) near near'
      → NearRows g states table cs t tall near'.words.now
  near_rows {t} h k {near' = near'} s =
      record {
        high = omega (arith, k);
        long = s.stamped.words_long;
        says = λ y a b. rw (own_is table cs e) at (s.stamped.says y first.potential (omega arith) (s.here y a (omega arith)));
      }
