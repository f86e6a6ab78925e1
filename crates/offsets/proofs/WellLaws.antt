-- Whether a unit's borders all land well, told a cell at a time by the cell on which it falls. Assumes nothing.
use Prim.Native.Nat.{ℕ, ◌+◌, ◌≤◌, ◌<◌}
use mathlib.Core.Path.{◌≡◌, refl, ap, ap₂, sym, ◌∙◌}
use mathlib.Core.Logic.{inl, inr}
use mathlib.Core.Bool.{Bool, true, false, not}
use mathlib.Core.List.{List, [], ◌∷◌}
use mathlib.Core.Option.{Option, none, some}
use lib.ListN.{get_or, length, drop, drop_of_length-le}
use Rattle.std.specs.Prelude as std
use Rattle.lists.specs.Choice.{both, holds, through}
use Rattle.lists.specs.Lists.{In, all, any, first}
use Rattle.lists.proofs.ChoiceLaws.{both_false}
use Rattle.lists.proofs.ListLaws.{get_d_in}
use Rattle.grid.specs.declared.Grid.{Grid}
use Rattle.grid.specs.Grid.{Cell}
use Rattle.offsets.specs.declared.shift.Shift.{Shift}
use Rattle.images.specs.declared.Spot.{Spot}
use Rattle.offsets.specs.declared.table.CellInfo.{CellInfo}
use Rattle.offsets.specs.Told.{told}
use Rattle.images.specs.Images.{spot}
use Rattle.offsets.specs.Table.{Table, blank, spot_of, units_in}
use Rattle.offsets.specs.Reach.{InGrid, Small, moved}
use Rattle.offsets.specs.Landings.{directions_of, fail_at, fail_cell, first_fail, lands_badly, has_bad, lands_well, Falling}
use Rattle.offsets.proofs.TableLaws.{spot_at}
use Rattle.offsets.proofs.ReachLaws.{in_grid, fell, fell_cell, next_cell}
use Rattle.offsets.proofs.NoneLaws.{is_none, none_give, none_or_else, none_first, neither}
use Rattle.offsets.proofs.ToldLaws.{told_some, told_none}

-- ONE TURN OF THE LOOP, at cell c
module _ {g : Grid} (states : List ℕ) {table : List CellInfo} {cs : List ℕ} {s : Shift} (tab : Table g table) (r : Falling g cs s) {i c : ℕ} (h : i < length cs) (q : c ≡ get_or cs i 0) where
  abbrev test : ℕ → Bool
  test = lands_well g s states (units_in g table)

  member : In c cs
  member = rw q (get_d_in 0 cs i h)

  pub cell_on : Cell g c
  cell_on = r.on_board c member

  turn : all test (drop i cs) ≡ both (test c) (all test (drop (i + 1) cs))
  unfolding all
  turn = ap (all test) (next_cell cs i c h q)

  wrong : test c ≡ false → all test (drop i cs) ≡ all test cs → false ≡ all test cs
  wrong e rest = rw e at (sym turn) ∙ rest

  module _ {p : Spot} (p-is : p ≡ spot_of (get_or table c blank)) where
    spot_is : p ≡ spot g c
    spot_is = p-is ∙ spot_at tab c cell_on

    pub fall_asks : Small g s × InGrid g p
    fall_asks = (r.small, rw spot_is (in_grid c cell_on))

    module _ {f : std.Option ℕ} (fall-is : f ≡ told (moved g s p)) where
      pub turn_off : f ≡ std.None → all test (drop i cs) ≡ all test cs → false ≡ all test cs
      unfolding holds
      turn_off e = let o : moved g s (spot g c) ≡ none = ap (moved g s) (sym spot_is) ∙ told_none _ (sym fall-is ∙ e) in wrong (rw o)

      module _ {x : ℕ} (e : f ≡ std.Some x) where
        falls_on : moved g s (spot g c) ≡ some x
        falls_on = ap (moved g s) (sym spot_is) ∙ told_some _ x (sym fall-is ∙ e)

        pub fall_on : Cell g x
        fall_on = fell_cell g s (spot g c) x (fell g s (spot g c) x falls_on)

        module _ {bad : Bool} (bad-is : bad ≡ has_bad g s states (units_in g table) c x) where
          test_is : test c ≡ not bad
          unfolding holds
          test_is = rw falls_on (ap not (sym bad-is))

          pub turn_bad : bad ≡ true → all test (drop i cs) ≡ all test cs → false ≡ all test cs
          turn_bad k = wrong (test_is ∙ ap not k)

          pub turn_well : bad ≡ false → all test (drop i cs) ≡ all test cs → all test (drop (i + 1) cs) ≡ all test cs
          turn_well k rest = rw (test_is ∙ ap not k) at (sym turn) ∙ rest

pub all_well : (test : ℕ → Bool) (cs : List ℕ) (i : ℕ) → length cs ≤ i → all test (drop i cs) ≡ all test cs → true ≡ all test cs
unfolding all
all_well test cs i h rest = rw (drop_of_length-le cs h) at rest

-- WHAT IS FOUND WHERE THEY DO NOT
both_turned : (a b c d : Bool) → both (both a b) (both c d) ≡ both (both a c) (both b d)
both_turned true b true d = refl
both_turned true b false d = both_false b
both_turned false b c d = refl

module _ (g : Grid) (states ids : List ℕ) (s : Shift) where
  found : Bool → ℕ → Option ℕ
  found inner c = fail_cell g s states ids inner c

  -- a cell that falls on x
  module _ (c x : ℕ) (on : moved g s (spot g c) ≡ some x) where
    found_none : (inner : Bool) → is_none (found inner c) ≡ not (any (lands_badly g s states ids inner c x) (directions_of inner))
    unfolding found fail_cell fail_at through lands_badly
    found_none inner =
        none_first (fail_at g s states ids inner c) (lands_badly g s states ids inner c x) (directions_of inner)
        (λ d m. rw on (none_give (lands_badly g s states ids inner c x d) _))

    well_found : lands_well g s states ids c ≡ both (is_none (found true c)) (is_none (found false c))
    unfolding holds has_bad
    well_found =
        let bad : Bool → Bool = λ inner. any (lands_badly g s states ids inner c x) (directions_of inner) in
        rw on (sym (neither (bad true) (bad false)) ∙ ap₂ both (sym (found_none true)) (sym (found_none false)))

  both_found : (cs : List ℕ) → ((c : ℕ) → In c cs → lands_well g s states ids c ≡ both (is_none (found true c)) (is_none (found false c)))
      → all (lands_well g s states ids) cs ≡ both (is_none (first (found true) cs)) (is_none (first (found false) cs))
  unfolding all first is_none
  both_found [] h = refl
  both_found (c ∷ cs) h =
      ap₂ both (h c (inl refl)) (both_found cs (λ d m. h d (inr m)))
      ∙ both_turned (is_none (found true c)) (is_none (found false c)) (is_none (first (found true) cs)) (is_none (first (found false) cs))
      ∙ sym (ap₂ both (none_or_else (found true c) (first (found true) cs)) (none_or_else (found false c) (first (found false) cs)))

  pub well_is : {cs : List ℕ} → Falling g cs s
      → all (lands_well g s states ids) cs ≡ both (is_none (first_fail g s states ids true cs)) (is_none (first_fail g s states ids false cs))
  unfolding first_fail found
  well_is {cs} r = both_found cs (λ c m. let o = r.falls c m in well_found c o.0 o.1)
