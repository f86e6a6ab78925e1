-- Questions 3, 7, 8 and 9 as the code puts them: a law for each answer; the sizes are those of the rooms. Assumes nothing.
use Prim.Native.Nat.{ℕ, zero, suc, ◌≤◌, ◌<◌}
use mathlib.Core.Path.{◌≡◌, refl, ap, ap₂, sym, ◌∙◌}
use mathlib.Core.Bool.{Bool, true, false}
use mathlib.Core.List.{List, [], ◌∷◌}
use native.Mathlib.Omega.{arith}
use borrow.Author.Tests.{eq-eqb, ltb-true}
use lib.Dec.{eqb, ltb, leb}
use lib.ListN.{length, get_or}
use Rattle.limits.specs.Limits.{no_clue}
use Rattle.lists.specs.Choice.{either, pick}
use Rattle.lists.specs.Lists.{range, all}
use Rattle.lists.proofs.ListLaws.{all_true, in_range}
use Rattle.lists.proofs.SetsLaws.{front_at}
use Rattle.grid.specs.declared.Grid.{Grid}
use Rattle.grid.specs.Grid.{Limits, cells, border_count}
use Rattle.borders.proofs.Congruence.{all_same}
use Rattle.groups.specs.Turn.{sizes_of}
use Rattle.groups.proofs.Counting.{sized_by}
use Rattle.rooms.specs.Rooms.{room_ids, room_count, room_cells}
use Rattle.rooms.specs.Lent.{Given, Places, Roomed}
use Rattle.rooms.proofs.PutLaws.{sizes_there}
use Rattle.rooms.proofs.RoomLaws.{rooms_few}
use Rattle.clues.specs.Clues.{rises, fits_room, clues_fit, rooms_code, lists_code, clue_fits, all_fit}

-- A LAW FOR EACH ANSWER, where the code tells whether each wall is below n
module _ (g : Grid) (given clues : List ℕ) {n : ℕ} (q : n ≡ border_count g) {t : Bool} (k : t ≡ all (λ e. ltb e n) given) where
  tested : all (λ e. ltb e (border_count g)) given ≡ t
  tested = sym (k ∙ ap (λ x. all (λ e. ltb e x) given) q)

  pub not_there : t ≡ false → 3 ≡ lists_code g given clues
  unfolding lists_code
  not_there a = rw (tested, a)

  module _ (a : t ≡ true) where
    pub not_rising : rises given ≡ false → 7 ≡ lists_code g given clues
    unfolding lists_code
    not_rising b = rw (tested, a, b)

    pub by_rooms : rises given ≡ true → rooms_code g given clues ≡ lists_code g given clues
    unfolding lists_code
    by_rooms b = rw (tested, a, b)

    pub walls_given : Limits g → Given g given
    walls_given l = record { limits = l; below = λ e m. ltb-true e (border_count g) (all_true (λ x. ltb x (border_count g)) given (tested ∙ a) e m) }

module _ (g : Grid) (given clues : List ℕ) where
  by_clues : length clues ≡ room_count g given → (t : Bool) → clues_fit g given clues ≡ t → pick t 0 9 ≡ rooms_code g given clues
  by_clues c t d = rw (eq-eqb (length clues) (room_count g given) c, d)

-- the element at a place does not depend on what stands for none
pub other_default : (xs : List ℕ) (i a b : ℕ) → i < length xs → get_or xs i a ≡ get_or xs i b
other_default [] i a b h = absurd (omega arith)
other_default (x ∷ xs) zero a b h = refl
other_default (x ∷ xs) (suc i) a b h = other_default xs i a b (omega arith)

-- the rooms' sizes stand in the slice, and there is a clue for each
module _ (g : Grid) (given ids sizes ids' sizes' : List ℕ) (lent : Places g ids sizes) (clues : List ℕ) (o : Roomed g given ids sizes ids' sizes' (length clues)) where
  room_size : (r : ℕ) → r < length clues → get_or sizes' r 0 ≡ length (room_cells g given r)
  room_size r h =
      let z = sized_by (cells g) (room_ids g given) (room_count g given) in
      rw o.sizes_are (front_at sizes (sizes_of (cells g) (room_ids g given) (room_count g given)) r (omega (arith, z.long, rooms_few g given, lent.sizes_long)) (omega (arith, z.long, o.count_is)))
      ∙ z.are r (omega (arith, o.count_is))

  fits_same : all_fit sizes' clues ≡ clues_fit g given clues
  unfolding all_fit clues_fit
  fits_same =
      ap (λ k. all (clue_fits sizes' clues) (range k)) o.count_is
      ∙ all_same (clue_fits sizes' clues) (fits_room g given clues) (range (room_count g given))
      (λ r m.
      let h : r < length clues = omega (arith, in_range (room_count g given) r m, o.count_is) in
      ap₂ (λ c k. either (eqb c no_clue) (leb c k)) (other_default clues r 0 no_clue h) (room_size r h))

-- the answers of questions 8 and 9, once the rooms are counted
module _ (g : Grid) (given clues : List ℕ) (w : Given g given) {ids sizes ids' sizes' : List ℕ} {count : ℕ} (l : Places g ids sizes)
    (o : Roomed g given ids sizes ids' sizes' count) where
  module _ (e : length clues ≡ count) where
    counted : Roomed g given ids sizes ids' sizes' (length clues)
    counted = rw e o

    pub sizes_long : length clues ≤ length sizes'
    sizes_long = sizes_there g given w l counted

    pub by_sizes : (t : Bool) → all_fit sizes' clues ≡ t → pick t 0 9 ≡ rooms_code g given clues
    by_sizes t q = by_clues g given clues counted.count_is t (sym (fits_same g given ids sizes ids' sizes' l clues counted) ∙ q)
