-- Stamps: no row's word is made yet, and a row's word is made. Assumes nothing.
use Prim.Native.Nat.{ℕ, ◌+◌, ◌*◌, ◌≤◌, ◌<◌}
use mathlib.Core.Path.{◌≡◌, refl, sym, ap, ◌∙◌}
use mathlib.Core.Logic.{⊎_elim, ◌≢◌}
use mathlib.Core.Bool.{Bool, not}
use mathlib.Core.List.{List}
use native.Mathlib.Omega.{arith}
use lib.Dec.{eqb}
use lib.ListN.{get_or, set, length-set, replicate, length-replicate, get_or-replicate}
use lib.Seq.{get_or-set_same, get_or-set_other}
use Rattle.std.specs.Prelude.{Option, Some, None}
use Rattle.lists.proofs.Cases.{eq_or_ne}
use Rattle.grid.specs.declared.Grid.{Grid}
use Rattle.shape.specs.Shape.{adjacent}
use Rattle.offsets.specs.declared.table.CellInfo.{CellInfo}
use Rattle.offsets.specs.Table.{potential_in, potentials_in}
use Rattle.offsets.proofs.TableLaws.{potential_at}
use Rattle.words.specs.Words.{bit, Says}
use Rattle.cell_words.specs.declared.Near.{Near}
use Rattle.cell_words.specs.Marks.{Stamping}
use Rattle.cell_words.specs.Cells.{NearRow, Stamped, SameLists, Restamped}
use Rattle.cell_words.proofs.OwnLaws.{cell_at}

-- THE WORD of a row, column by column: the cell's potential unit is marked
abbrev pub marked_at : List CellInfo → List ℕ → ℕ → Bool
marked_at table marks c = not (eqb (get_or marks (potential_in table c) 0) 0)

pub some_is : {a b : ℕ} → ◌≡◌ {A = Option ℕ} (Some a) (Some b) → a ≡ b
some_is e = cc

-- no row's word stands for a potential unit yet
pub none_stamped : {g : Grid} {n : ℕ} → g.height ≤ n → (states pids : List ℕ) (near : Near) → near.words.now ≡ replicate n 0 → near.stamps.now ≡ replicate n None → Stamped g states pids near
none_stamped {g} {n} l states pids near w s =
    record {
      words_long = rw w (simp length-replicate l);
      stamps_long = rw s (simp length-replicate l);
      says = λ y p h e. absurd (none_some (sym (get_or-replicate {A = Option ℕ} n y None None (omega (arith, l))) ∙ rw s at e));
    }
  where
    none_some : {p : ℕ} → ◌≡◌ {A = Option ℕ} None (Some p) → ⊥
    none_some q = let z : ◌≡◌ {A = ℕ} 0 1 = cc in omega arith

-- THE LISTS
pub same_lists : (near : Near) → SameLists near near
same_lists near = record { words = refl; stamps = refl; words_as_long = refl; stamps_as_long = refl }

pub same_then : {a b c : Near} → SameLists a b → SameLists b c → SameLists a c
same_then m n =
    record {
      words = n.words ∙ m.words;
      stamps = n.stamps ∙ m.stamps;
      words_as_long = n.words_as_long ∙ m.words_as_long;
      stamps_as_long = n.stamps_as_long ∙ m.stamps_as_long;
    }

-- ONE ROW
module _ {g : Grid} {states : List ℕ} {table : List CellInfo} {marks : List ℕ} {p : ℕ} (s : Stamping g states table marks p) {y : ℕ} (h : y < g.height) where
  abbrev pids : List ℕ
  pids = potentials_in g table

  module _ {near : Near} (t : Stamped g states pids near) where
    -- its word is made
    pub made : (word : ℕ) → Says g.width (λ x. marked_at table marks (y * g.width + x)) word
        → Restamped g states pids p y (y + 1) near
        (record {
          words = record { ref_ptr = near.words.ref_ptr; ghost_name = near.words.ghost_name; now = set near.words.now y word };
          stamps = record { ref_ptr = near.stamps.ref_ptr; ghost_name = near.stamps.ghost_name; now = set near.stamps.now y (Some p) };
        })
    made word w =
        record {
          stamped =
              record {
                words_long = simp length-set t.words_long;
                stamps_long = simp length-set t.stamps_long;
                says = λ z q a b. ⊎_elim (λ (e : z ≡ y). same z q e b) (λ (n : z ≢ y). other z q n a b) (eq_or_ne z y);
              };
          same =
              record {
                words = refl;
                stamps = refl;
                words_as_long = length-set near.words.now y word;
                stamps_as_long = length-set near.stamps.now y (Some p);
              };
          here = λ z a b. stamped_at z (omega arith);
          kept = λ z q. ⊎_elim (stamped_at z) (λ (n : z ≢ y). get_or-set_other near.stamps.now y z (Some p) None n ∙ q) (eq_or_ne z y);
        }
      where
        stamped_at : (z : ℕ) → z ≡ y → get_or (set near.stamps.now y (Some p)) z None ≡ Some p
        stamped_at z e = rw e (get_or-set_same near.stamps.now y (Some p) None (omega (arith, t.stamps_long)))

        row_says : NearRow g states pids p (set near.words.now y word) y
        row_says x k =
            let c = y * g.width + x in
            let l = cell_at g y x h k in
            ap (λ (v : ℕ). bit v (32 + x)) (get_or-set_same near.words.now y word 0 (omega (arith, t.words_long))) ∙ w x k ∙ s.marked (potential_in table c) (s.marks_long c l)
            ∙ ap (adjacent g states pids p) (sym (potential_at g table c l))

        same : (z q : ℕ) → z ≡ y → get_or (set near.stamps.now y (Some p)) z None ≡ Some q → NearRow g states pids q (set near.words.now y word) z
        same z q e b = let i : p ≡ q = some_is (sym (stamped_at z e) ∙ b) in rw (e, ← i) row_says

        other : (z q : ℕ) → z ≢ y → z < g.height → get_or (set near.stamps.now y (Some p)) z None ≡ Some q → NearRow g states pids q (set near.words.now y word) z
        other z q n a b = rw (get_or-set_other near.words.now y z word 0 n) (t.says z q a (rw (get_or-set_other near.stamps.now y z (Some p) None n) at b))
