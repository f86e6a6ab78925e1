-- What the code of grouping and hand-out tests, and what that makes of their answers. Assumes nothing.
use Prim.Native.Nat.{ℕ, zero, suc, ◌+◌, ◌-◌, ◌≤◌, ◌<◌}
use mathlib.Core.Path.{◌≡◌, refl, ap, sym, ◌∙◌}
use mathlib.Core.Logic.{◌≢◌, ⊎_elim}
use mathlib.Core.Bool.{Bool, true, false}
use mathlib.Core.List.{List}
use native.Mathlib.Omega.{arith}
use borrow.Author.Tests.{lt-ltb, le-ltb, le-leb, lt-leb, eq-eqb, ne_eqb, ltb-true, leb-true, eqb-true}
use lib.Dec.{eqb, ltb, leb}
use lib.ListN.{get_or, length, take}
use lib.Seq.{length-take-le}
use Rattle.std.proofs.lemmas.List.{get_or-take}
use Rattle.limits.specs.Limits.{most_cells}
use Rattle.lists.specs.Choice.{both, pick}
use Rattle.lists.specs.Lists.{range, all}
use Rattle.std.specs.Prelude.{Option, Some, None, MatchOption}
use Rattle.std.specs.Borrow.{Bor}
use Rattle.std.specs.Slice.{IsItemAt}
use Rattle.std.specs.List.{IsAllAdjacentAnswer}
use Rattle.lists.proofs.Cases.{le_or_lt}
use Rattle.lists.proofs.ChoiceLaws.{both_true, both_false, same_truth}
use Rattle.lists.proofs.ListLaws.{all_true, all_not, true_all, range_in, in_range, in_get_d, get_d_in}
use Rattle.grid.specs.declared.Grid.{Grid}
use Rattle.grid.specs.Grid.{cells, sizes_ok, Limits}
use Rattle.grid.proofs.Geometry.{limits, limits_ok, cells_le, cells_some}
use Rattle.borders.proofs.Congruence.{all_same}
use Rattle.board.specs.declared.Board.{Board}
use Rattle.board.specs.Board.{size_of, board_code}
use Rattle.board.proofs.Laws.{board_ready}
use Rattle.groups.specs.declared.GroupInfo.{GroupInfo}
use Rattle.groups.specs.Lent.{Lent, Grouped, Slot}
use Rattle.groups.specs.Info.{blank_places, grouping, info_of, grouping_code, grouping_of, end_of, starts_rise, groups_exist, info_together, info_code, group_part, hand_out_of, hand_out_start, address_of}

-- QUESTION 2 OF A GROUP RECORD

module _ (n count : ℕ) (starts : List ℕ) where
  pub end_next : (k : ℕ) → k + 1 < count → get_or starts (k + 1) 0 ≡ end_of n count starts k
  unfolding end_of
  end_next k h = rw (lt-ltb (k + 1) count h)

  pub end_last : (k : ℕ) → count ≤ k + 1 → n ≡ end_of n count starts k
  unfolding end_of
  end_last k h = rw (le-ltb (k + 1) count h)

  -- the test of one start
  abbrev pub rises : ℕ → Bool
  rises k = ltb (get_or starts k 0) (end_of n count starts k)

  pub not_from_zero : get_or starts 0 0 ≢ 0 → starts_rise n count starts ≡ false
  unfolding starts_rise
  not_from_zero q = rw (ne_eqb (get_or starts 0 0) 0 q)

  by_rises : get_or starts 0 0 ≡ 0 → starts_rise n count starts ≡ all rises (range count)
  unfolding starts_rise
  by_rises q = rw (eq-eqb (get_or starts 0 0) 0 q)

-- what the library reads of the next start, or n where there is none
pub end_told : (n : ℕ) (starts : List ℕ) (k : ℕ) (r : Option (Bor ℕ)) {e : ℕ} → IsItemAt starts (k + 1) r → MatchOption r (e ≡ n) (λ x. e ≡ x.now)
    → e ≡ end_of n (length starts) starts k
end_told n starts k None h m = m ∙ end_last n (length starts) starts k h.3
end_told n starts k (Some x) h m = m ∙ h.3.1 0 ∙ end_next n (length starts) starts k h.3.0

-- starts rise where each is below the next, as the library tests, and the last below n
module _ (n : ℕ) (starts : List ℕ) where
  abbrev pub last : ℕ
  last = get_or starts (length starts - 1) 0

  abbrev pub each : ℕ → Bool
  each = rises n (length starts) starts

  sorted_rises : IsAllAdjacentAnswer (λ x y b. b ≡ ltb x y) starts true → last < n → all each (range (length starts)) ≡ true
  sorted_rises h l =
      true_all each (range (length starts))
      (λ k m.
      let i = in_range (length starts) k m in
      ⊎_elim
      (λ (e : length starts ≤ k + 1).
      let z : k ≡ length starts - 1 = omega arith in
      rw (← end_last n (length starts) starts k e, z) (lt-ltb last n l))
      (λ (e : k + 1 < length starts). rw (← end_next n (length starts) starts k e) (sym (h k 0 e)))
      (le_or_lt (length starts) (k + 1)))

  falls : IsAllAdjacentAnswer (λ x y b. b ≡ ltb x y) starts false → all each (range (length starts)) ≡ false
  falls h =
      all_not each (range (length starts)) h.0 (range_in (length starts) h.0 (omega (arith, h.1)))
      (rw (← end_next n (length starts) starts h.0 h.1) (sym (h.2 0)))

  ends_late : 0 < length starts → n ≤ last → all each (range (length starts)) ≡ false
  ends_late some l =
      all_not each (range (length starts)) (length starts - 1) (range_in (length starts) (length starts - 1) (omega arith))
      (rw (← end_last n (length starts) starts (length starts - 1) (omega arith)) (le-ltb last n l))

  -- what the code answers where they begin with 0, and the library says whether they rise
  module _ (zero_first : get_or starts 0 0 ≡ 0) {s : Bool} (h : IsAllAdjacentAnswer (λ x y b. b ≡ ltb x y) starts s) where
    pub rising_told : s ≡ true → 0 < length starts → ltb last n ≡ starts_rise n (length starts) starts
    rising_told e some =
        ⊎_elim
        (λ (l : n ≤ last). rw (le-ltb last n l) (sym (by_rises n (length starts) starts zero_first ∙ ends_late some l)))
        (λ (l : last < n). rw (lt-ltb last n l) (sym (by_rises n (length starts) starts zero_first ∙ sorted_rises (rw e at h) l)))
        (le_or_lt n last)

    pub falling_told : s ≡ false → starts_rise n (length starts) starts ≡ false
    falling_told e = by_rises n (length starts) starts zero_first ∙ falls (rw e at h)

-- starts without the places behind the last group's
module _ (n count : ℕ) (starts : List ℕ) (long : count ≤ length starts) where
  pub front_long : length (take count starts) ≡ count
  front_long = length-take-le count starts long

  pub front_start : (k : ℕ) → k < count → get_or (take count starts) k 0 ≡ get_or starts k 0
  front_start k h = get_or-take count starts k 0 h

  pub front_end : (k : ℕ) → end_of n count (take count starts) k ≡ end_of n count starts k
  front_end k =
      ⊎_elim
      (λ (l : count ≤ k + 1). sym (end_last n count (take count starts) k l) ∙ end_last n count starts k l)
      (λ (l : k + 1 < count). sym (end_next n count (take count starts) k l) ∙ front_start (k + 1) l ∙ end_next n count starts k l)
      (le_or_lt count (k + 1))

  -- so a group has its part there too
  pub front_slot : {g : Grid} {flat : List ℕ} {k : ℕ} → n ≡ cells g → Slot g starts flat count k → Slot g (take count starts) flat (length (take count starts)) k
  front_slot {k = k} e w =
      rw front_long
      (record {
        exists = w.exists;
        starts_long = omega (arith, front_long);
        order = rw (front_start k w.exists, ← e, front_end k, e) w.order;
        within = rw (← e, front_end k, e) w.within;
        flat_long = w.flat_long;
      })

  pub front_part : (flat : List ℕ) (k : ℕ) → k < count → group_part n (length (take count starts)) (take count starts) flat k ≡ group_part n count starts flat k
  front_part flat k h = rw (front_long, front_start k h, front_end k) refl

  pub front_rises : 0 < count → starts_rise n (length (take count starts)) (take count starts) ≡ starts_rise n count starts
  unfolding starts_rise
  front_rises some =
      rw (front_long, front_start 0 some)
      (ap (both (eqb (get_or starts 0 0) 0))
      (all_same (rises n count (take count starts)) (rises n count starts) (range count)
      (λ k m. rw (front_start k (in_range count k m), front_end k) refl)))

-- the test of one cell's group
abbrev pub exists : ℕ → List ℕ → ℕ → Bool
exists count ids c = ltb (get_or ids c 0) count

-- a test of a list's elements is one of its places
all_places : (p : ℕ → Bool) (xs : List ℕ) → all p xs ≡ all (λ c. p (get_or xs c 0)) (range (length xs))
all_places p xs =
    same_truth (all p xs) (all (λ c. p (get_or xs c 0)) (range (length xs)))
    (λ q.
    true_all (λ c. p (get_or xs c 0)) (range (length xs))
    (λ c m. all_true p xs q (get_or xs c 0) (get_d_in 0 xs c (in_range (length xs) c m))))
    (λ q.
    true_all p xs
    (λ x m.
    let o = in_get_d 0 x xs m in
    rw (← o.2) (all_true (λ c. p (get_or xs c 0)) (range (length xs)) q o.0 (range_in (length xs) o.0 o.1))))

-- the front that has a group for each of n cells
pub front_exist : (n count : ℕ) (ids : List ℕ) → n ≤ length ids → groups_exist (length (take n ids)) count (take n ids) ≡ groups_exist n count ids
unfolding groups_exist
front_exist n count ids h =
    rw (length-take-le n ids h)
    (all_same (exists count (take n ids)) (exists count ids) (range n)
    (λ c m. rw (get_or-take n ids c 0 (in_range n c m)) refl))

by_exists : (count : ℕ) (ids : List ℕ) {t : Bool} → t ≡ all (λ x. ltb x count) ids → t ≡ groups_exist (length ids) count ids
unfolding groups_exist
by_exists count ids e = e ∙ all_places (λ x. ltb x count) ids

-- GROUPING

pub lent : (n : ℕ) (buffer : List ℕ) → n ≤ most_cells → n ≤ length buffer → Lent n blank_places blank_places buffer
unfolding blank_places
lent n buffer h k = record { ids_long = h; starts_long = h; flat_long = k }

abbrev pub info : Grid → ℕ → List ℕ → List ℕ → GroupInfo
info g count ids starts = record { grid = g; count = count; ids = ids; starts = starts }

module _ (b : Board) (p : Bool) {code : ℕ} (told : code ≡ board_code b) where
  module _ (z : code ≡ 0) where
    pub sizes_fit : Limits (size_of b)
    sizes_fit = (board_ready b code told z).limits

    module _ (places : ℕ) (h : cells (size_of b) ≤ places) where
      accepted : grouping_code b places ≡ 0
      accepted = rw (← told, z, le-leb (cells (size_of b)) places h)

      pub grouping_is : (i : GroupInfo) → i ≡ info_of (size_of b) b.book.states p → grouping 0 i ≡ grouping_of b p places
      grouping_is i e = rw (accepted, e)

    -- the record of what was grouped
    pub info_is : {ids starts flat ids' starts' flat' : List ℕ} {count : ℕ} → ids ≡ blank_places → starts ≡ blank_places
        → Grouped (size_of b) b.book.states p ids starts flat ids' starts' flat' count
        → info b.grid count ids' starts' ≡ info_of (size_of b) b.book.states p
    info_is e f w = rw (w.count_is, w.ids_are, w.starts_are, e, f)

-- QUESTIONS 1 AND 2 OF A GROUP RECORD

pub record Holds (i : GroupInfo) : Type 0 where
  pub limits : Limits i.grid
  pub few : i.count ≤ cells i.grid
  pub rise : starts_rise (cells i.grid) i.count i.starts ≡ true
  pub exist : groups_exist (cells i.grid) i.count i.ids ≡ true

module _ (i : GroupInfo) where
  pub holds : info_code i ≡ 0 → Holds i
  holds = go (sizes_ok i.grid) refl (info_together (cells i.grid) i.count i.ids i.starts) refl
    where
      go : (s : Bool) → sizes_ok i.grid ≡ s → (t : Bool) → info_together (cells i.grid) i.count i.ids i.starts ≡ t → ◌≡◌ {A = ℕ} (pick s (pick t 0 2) 1) 0 → Holds i
      go true p true q z =
          let a = both_true (leb i.count (cells i.grid)) _ q in
          let b = both_true (starts_rise (cells i.grid) i.count i.starts) (groups_exist (cells i.grid) i.count i.ids) a.1 in
          record { limits = limits i.grid p; few = leb-true _ _ a.0; rise = b.0; exist = b.1 }
      go true p false q z = absurd (omega arith)
      go false p t q z = absurd (omega arith)

  pub holds_code : Holds i → info_code i ≡ 0
  holds_code w = rw (limits_ok i.grid w.limits, le-leb i.count (cells i.grid) w.few, w.rise, w.exist)

-- what the code tests, once the sizes are right: is there a group, are there no more than cells, and then the starts and the ids
module _ (i : GroupInfo) (right : sizes_ok i.grid ≡ true) where
  none_exists : i.count ≡ 0 → groups_exist (cells i.grid) i.count i.ids ≡ false
  unfolding groups_exist
  none_exists z =
      all_not (exists i.count i.ids) (range (cells i.grid)) 0 (range_in (cells i.grid) 0 (cells_some i.grid (limits i.grid right)))
      (le-ltb (get_or i.ids 0 0) i.count (omega (arith, z)))

  pub without_groups : i.count ≡ 0 → 2 ≡ info_code i
  without_groups z = rw (right, none_exists z, both_false (starts_rise (cells i.grid) i.count i.starts), both_false (leb i.count (cells i.grid))) refl

  module _ {n : ℕ} (whole : n ≡ cells i.grid) where
    pub too_many : n < i.count → 2 ≡ info_code i
    too_many h = rw (right, lt-leb i.count (cells i.grid) (rw whole at h)) refl

    module _ (starts_long : most_cells ≤ length i.starts) (ids_long : most_cells ≤ length i.ids) (some : i.count ≢ 0) (few : i.count ≤ n)
        {s : Bool} (told : s ≡ starts_rise n (length (take i.count i.starts)) (take i.count i.starts)) where
      pub by_exist : {e : Bool} → e ≡ all (λ x. ltb x i.count) (take n i.ids) → info_code i ≡ pick (both s e) 0 2
      by_exist b =
          let fit : cells i.grid ≤ most_cells = cells_le i.grid (limits i.grid right) in
          let rises = (rw whole at told) ∙ front_rises (cells i.grid) i.count i.starts (omega (arith, fit, few, whole)) (omega arith) in
          let exist = (rw whole at (by_exists i.count (take n i.ids) b)) ∙ front_exist (cells i.grid) i.count i.ids (omega (arith, fit)) in
          rw (right, le-leb i.count (cells i.grid) (rw whole at few), rises, exist) refl

      pub by_rise : s ≡ false → info_code i ≡ 2
      by_rise f = rw f at (by_exist {e = all (λ x. ltb x i.count) (take n i.ids)} refl)

-- starts that rise: each group has a cell, and ends at the last cell or before it
module _ (n count : ℕ) (starts : List ℕ) (rise : starts_rise n count starts ≡ true) where
  pub from_zero : get_or starts 0 0 ≡ 0
  unfolding starts_rise
  from_zero = eqb-true (get_or starts 0 0) 0 (both_true (eqb (get_or starts 0 0) 0) (all (rises n count starts) (range count)) rise).0

  pub start_before_end : (k : ℕ) → k < count → get_or starts k 0 < end_of n count starts k
  unfolding starts_rise
  start_before_end k h =
      ltb-true (get_or starts k 0) (end_of n count starts k)
      (all_true (rises n count starts) (range count) (both_true (eqb (get_or starts 0 0) 0) (all (rises n count starts) (range count)) rise).1 k (range_in count k h))

  -- by how many groups come behind k
  end_behind : (d k : ℕ) → count ≡ k + suc d → end_of n count starts k ≤ n
  end_behind zero k q = omega (arith, end_last n count starts k (omega arith))
  end_behind (suc d) k q =
      omega
      (arith, end_next n count starts k (omega arith), start_before_end (k + 1) (omega arith), end_behind d (k + 1) (omega arith))

  pub end_within : (k : ℕ) → k < count → end_of n count starts k ≤ n
  end_within k h = end_behind (count - suc k) k (omega arith)

-- HAND-OUT

-- what `group` returns, with its address
abbrev pub Handed : GroupInfo → List ℕ → ℕ → ℕ × ℕ → List ℕ → ℕ × ℕ → Type 0
Handed i buffer k p xs q = (xs ≡ hand_out_of i buffer k) × (q ≡ address_of p (hand_out_start i (length buffer) k))

module _ (i : GroupInfo) (buffer : List ℕ) (k : ℕ) (p : ℕ × ℕ) {code : ℕ} (told : code ≡ info_code i) where
  module _ (z : code ≡ 0) where
    pub info_holds : Holds i
    info_holds = holds i (sym told ∙ z)

    module _ (h : k < i.count) where
      module _ (l : cells i.grid ≤ length buffer) where
        pub handed_slot : i.count ≤ length i.starts → Slot i.grid i.starts buffer i.count k
        handed_slot long =
            record {
              exists = h;
              starts_long = long;
              order = omega (arith, start_before_end (cells i.grid) i.count i.starts info_holds.rise k h);
              within = end_within (cells i.grid) i.count i.starts info_holds.rise k h;
              flat_long = l;
            }

        pub handed_out : {xs : List ℕ} {q : ℕ × ℕ} → xs ≡ group_part (cells i.grid) i.count i.starts buffer k → q ≡ address_of p (get_or i.starts k 0) → Handed i buffer k p xs q
        handed_out e f = rw (← told, z, lt-ltb k i.count h, le-leb (cells i.grid) (length buffer) l) (e, f)

        -- by the starts in use alone
        module _ (long : most_cells ≤ length i.starts) where
          starts_fit : i.count ≤ length i.starts
          starts_fit = omega (arith, cells_le i.grid info_holds.limits, info_holds.few)

          pub front_handed : Slot i.grid (take i.count i.starts) buffer (length (take i.count i.starts)) k
          front_handed = front_slot (cells i.grid) i.count i.starts starts_fit refl (handed_slot starts_fit)

          pub front_handed_out : {xs : List ℕ} {q : ℕ × ℕ} → xs ≡ group_part (cells i.grid) (length (take i.count i.starts)) (take i.count i.starts) buffer k
              → q ≡ address_of p (get_or (take i.count i.starts) k 0) → Handed i buffer k p xs q
          front_handed_out e f =
              handed_out (e ∙ front_part (cells i.grid) i.count i.starts starts_fit buffer k h)
              (f ∙ ap (address_of p) (front_start (cells i.grid) i.count i.starts starts_fit k h))
