-- What is shown of groups (SPEC 4.1 and 4.2): the numbers, the cells of each group and of all, and the hand-out of a grouping's own record and buffer. Assumes nothing.
use Prim.Native.Nat.{ℕ, suc, ◌+◌, ◌-◌, ◌≤◌, ◌<◌}
use mathlib.Core.Path.{◌≡◌, refl, ap, sym, ◌∙◌}
use mathlib.Core.Logic.{◌↔◌, ⊎_elim}
use mathlib.Core.Bool.{Bool, true, false}
use mathlib.Core.List.{List}
use native.Mathlib.Omega.{arith}
use native.Mathlib.Numerals.{add-one}
use borrow.Author.Tests.{lt-ltb, ltb-true, leb-true, eq-eqb, eqb-true, eqb-false}
use lib.Dec.{eqb, leb}
use lib.ListN.{get_or, length, take, drop, length-drop}
use lib.Seq.{sets, length-sets, ext_get_or, get_or-take, get_or-drop, length-take-le}
use Rattle.limits.specs.Limits.{most_cells}
use Rattle.lists.specs.Choice.{pick}
use Rattle.lists.specs.Lists.{range, all}
use Rattle.lists.proofs.Cases.{le_or_lt}
use Rattle.lists.proofs.ListLaws.{all_true, true_all, in_range, range_in, table_long, table_at}
use Rattle.lists.proofs.ChoiceLaws.{true_both}
use Rattle.grid.specs.declared.Grid.{Grid}
use Rattle.grid.specs.Grid.{cells, Cell, Limits}
use Rattle.grid.proofs.Geometry.{cells_le, cells_some}
use Rattle.board.specs.declared.Board.{Board}
use Rattle.board.specs.Board.{size_of, board_code}
use Rattle.parts.specs.Parts.{Joined, root}
use Rattle.parts.proofs.PartLaws.{part_iff, part_order, part_used, part_lt, root_least, part_joined}
use Rattle.groups.specs.Groups.{edges, group_ids, group_count, cells_in, cells_of}
use Rattle.groups.specs.Turn.{in_turn, start_of, starts_of}
use Rattle.groups.specs.Lent.{Lent, Grouped, Between, InTurn}
use Rattle.groups.specs.Info.{blank_places, group_part, info_of, grouping_code, grouping_of, buffer_of, end_of, starts_rise, groups_exist, hand_out_of}
use Rattle.groups.proofs.EdgeLaws.{ids_at, ids_length, count_is}
use Rattle.lists.proofs.SetsLaws.{front, front_at}
use Rattle.groups.proofs.TurnLaws.{kept, rank, sorted, start, place, kept_at, kept_of, sorted_at, start_all, start_more, start_zero, place_at, place_of, rank_more}
use Rattle.groups.proofs.Counting.{at}
use Rattle.groups.proofs.Lending.{count_small}
use Rattle.groups.proofs.InfoLaws.{end_next, end_last, front_long, front_start, front_end, rises, exists, Holds, holds_code, handed_out, end_within, start_before_end, from_zero, sizes_fit}

module _ (g : Grid) (st : List ℕ) (p : Bool) where
  abbrev ids : List ℕ
  ids = group_ids g st p

  abbrev count : ℕ
  count = group_count g st p

  -- two cells have one group exactly when borders that pass join them
  pub same_group : (c d : ℕ) → Cell g c → Cell g d → (get_or ids c 0 ≡ get_or ids d 0) ↔ Joined (edges g st p) c d
  same_group c d h k = (
    λ q. (part_iff (edges g st p) c d).0 (sym (ids_at g st p c h) ∙ q ∙ ids_at g st p d k),
    λ j. ids_at g st p c h ∙ (part_iff (edges g st p) c d).1 j ∙ sym (ids_at g st p d k),
  )

  pub group_exists : (c : ℕ) → Cell g c → get_or ids c 0 < count
  group_exists c h = rw (ids_at g st p c h, count_is g st p) (part_lt (edges g st p) (cells g) c h)

  -- each number below the count is a group's, and the group has a first cell
  pub first_cell : (k : ℕ) → k < count → (c : ℕ) × Cell g c × (get_or ids c 0 ≡ k) × ((d : ℕ) → Cell g d → get_or ids d 0 ≡ k → c ≤ d)
  first_cell k h =
      let o = part_used (edges g st p) (cells g) k (rw (count_is g st p) at h) in (
        o.0,
        o.1,
        ids_at g st p o.0 o.1 ∙ o.3,
        λ d l q.
            let j : Joined (edges g st p) o.0 d = part_joined (edges g st p) o.0 d (o.3 ∙ sym (sym (ids_at g st p d l) ∙ q)) in
            omega (arith, o.2, root_least j),
      )

  -- and groups are numbered in the order of these
  pub by_first_cell : (c d : ℕ) → Cell g c → Cell g d → (get_or ids c 0 < get_or ids d 0) ↔ (root (edges g st p) c < root (edges g st p) d)
  by_first_cell c d h k = rw (ids_at g st p c h, ids_at g st p d k) (part_order (edges g st p) c d)

  -- no group is empty
  pub no_empty_group : (k : ℕ) → k < count → 0 < length (cells_of g ids k)
  unfolding cells_in
  no_empty_group k h = let o = first_cell k h in omega (arith, (kept_at (at ids) (cells g) k o.0 o.1 o.2).0)

  -- the groups' cells together are all cells, each once: there are as many places as cells, each cell has a place and no other
  pub all_cells : length (in_turn (cells g) ids count) ≡ cells g
  unfolding in_turn cells_in
  all_cells = start_all (at ids) (cells g) count group_exists

  pub each_once : (c : ℕ) → Cell g c
      → (i : ℕ) × (i < cells g) × (get_or (in_turn (cells g) ids count) i 0 ≡ c) × ((j : ℕ) → j < cells g → get_or (in_turn (cells g) ids count) j 0 ≡ c → j ≡ i)
  unfolding in_turn cells_in
  each_once c h =
      let a = place_at (at ids) (cells g) count c h (group_exists c h) in (
        place (at ids) (cells g) c,
        omega (arith, a.0, all_cells),
        a.1,
        λ j l q.
            let o = place_of (at ids) (cells g) count j (omega (arith, all_cells)) in
            let e : o.0 ≡ c =
            sym (place_at (at ids) (cells g) count o.0 o.1 o.2).1 ∙ ap (λ (i : ℕ). get_or (sorted (at ids) (cells g) count) i 0) (sym o.3) ∙ q in
            o.3 ∙ ap (place (at ids) (cells g)) e,
      )

-- within a group cells rise, whatever numbers the cells have
pub cells_rise : (g : Grid) (ids : List ℕ) (k i j : ℕ) → i < j → j < length (cells_of g ids k) → get_or (cells_of g ids k) i 0 < get_or (cells_of g ids k) j 0
unfolding cells_in
cells_rise g ids k i j h l =
    let a = kept_of (at ids) (cells g) k i (omega arith) in
    let b = kept_of (at ids) (cells g) k j l in
    let p : get_or (kept (at ids) (cells g) k) i 0 ≡ a.0 = rw a.3 at (kept_at (at ids) (cells g) k a.0 a.1 a.2).1 in
    let q : get_or (kept (at ids) (cells g) k) j 0 ≡ b.0 = rw b.3 at (kept_at (at ids) (cells g) k b.0 b.1 b.2).1 in
    ⊎_elim
    (λ (e : b.0 ≤ a.0). absurd (omega (arith, a.3, b.3, rank_more (at ids) b.0 a.0 k e)))
    (λ (e : a.0 < b.0). omega arith)
    (le_or_lt b.0 a.0)

-- A GROUP'S PART OF THE CELLS IN TURN

-- starts that stand at the front of any long enough list
module _ (g : Grid) (st : List ℕ) (p : Bool) (starts₀ : List ℕ) (fits : cells g ≤ length starts₀) where
  abbrev starts : List ℕ
  starts = sets starts₀ 0 (starts_of (cells g) (group_ids g st p) (group_count g st p))

  begin : ℕ → ℕ
  begin k = start (at (group_ids g st p)) (cells g) k

  start_at : (k : ℕ) → k < group_count g st p → get_or starts k 0 ≡ begin k
  unfolding begin starts_of start_of in_turn cells_in
  start_at k h =
      let long : length (starts_of (cells g) (group_ids g st p) (group_count g st p)) ≡ group_count g st p = table_long (start_of (cells g) (group_ids g st p)) (group_count g st p) in
      front_at starts₀ (starts_of (cells g) (group_ids g st p) (group_count g st p)) k (omega (arith, long, count_small g st p)) (omega (arith, long))
      ∙ table_at (start_of (cells g) (group_ids g st p)) (group_count g st p) k h

  end_at : (k : ℕ) → k < group_count g st p → end_of (cells g) (group_count g st p) starts k ≡ begin (suc k)
  unfolding begin
  end_at k h =
      ⊎_elim
      (λ (l : group_count g st p ≤ k + 1).
      let q : group_count g st p ≡ suc k = omega arith in
      sym (end_last (cells g) (group_count g st p) starts k l) ∙ sym (rw q at (start_all (at (group_ids g st p)) (cells g) (group_count g st p) (group_exists g st p))))
      (λ (l : k + 1 < group_count g st p). sym (end_next (cells g) (group_count g st p) starts k l) ∙ start_at (k + 1) l ∙ ap begin (add-one k))
      (le_or_lt (group_count g st p) (k + 1))

  -- they rise from 0
  starts_rise_lem : 0 < group_count g st p → starts_rise (cells g) (group_count g st p) starts ≡ true
  unfolding starts_rise begin
  starts_rise_lem some =
      true_both (eqb (get_or starts 0 0) 0) (all (rises (cells g) (group_count g st p) starts) (range (group_count g st p)))
      (eq-eqb (get_or starts 0 0) 0 (start_at 0 some ∙ start_zero (at (group_ids g st p)) (cells g)))
      (true_all (rises (cells g) (group_count g st p) starts) (range (group_count g st p))
      (λ k m.
      let h : k < group_count g st p = in_range (group_count g st p) k m in
      lt-ltb (get_or starts k 0) (end_of (cells g) (group_count g st p) starts k)
      (omega (arith, start_at k h, end_at k h, start_more (at (group_ids g st p)) (cells g) k, size k h))))
    where
      size : (k : ℕ) → k < group_count g st p → 0 < rank (at (group_ids g st p)) (cells g) k
      size k h = unfold cells_in in no_empty_group g st p k h

  -- what stands between two starts is exactly the group's cells
  pub part_cells : (flat₀ : List ℕ) (k : ℕ) → cells g ≤ length flat₀ → k < group_count g st p
      → group_part (cells g) (group_count g st p) starts (sets flat₀ 0 (in_turn (cells g) (group_ids g st p) (group_count g st p))) k ≡ cells_of g (group_ids g st p) k
  unfolding begin in_turn cells_in
  part_cells flat₀ k long h =
      let key = at (group_ids g st p) in
      let n = cells g in
      let turn = sorted key n (group_count g st p) in
      let flat = sets flat₀ 0 turn in
      let all_here : length turn ≡ n = start_all key n (group_count g st p) (group_exists g st p) in
      let same : length flat ≡ length flat₀ = length-sets flat₀ 0 turn in
      let more : begin (suc k) ≡ begin k + rank key n k = start_more key n k in
      let within : begin (suc k) ≤ n = omega (arith, end_at k h, end_within n (group_count g st p) starts (starts_rise_lem (omega arith)) k h) in
      let part_long : length (take (begin (suc k) - begin k) (drop (begin k) flat)) ≡ rank key n k =
      length-take-le (begin (suc k) - begin k) (drop (begin k) flat) (simp length-drop (omega arith)) ∙ omega arith in
      rw
      (start_at k h, end_at k h)
      (ext_get_or 0 (take (begin (suc k) - begin k) (drop (begin k) flat)) (kept key n k) part_long
      (λ i l.
      let r : i < rank key n k = omega arith in
      let s = sorted_at key n (group_count g st p) k i h r in
      get_or-take (begin (suc k) - begin k) (drop (begin k) flat) i 0 (omega arith) ∙ get_or-drop (begin k) flat i 0
      ∙ front_at flat₀ turn (begin k + i) (omega arith) s.0 ∙ s.1))

-- slices that the groups were written to have them between start and end
pub between : {g : Grid} {st : List ℕ} {p : Bool} {ids₀ starts₀ flat₀ ids starts flat : List ℕ} {count : ℕ}
    → Lent (cells g) ids₀ starts₀ flat₀ → Grouped g st p ids₀ starts₀ flat₀ ids starts flat count → (k : ℕ) → k < count
    → Between g (group_ids g st p) starts flat count k
between {g} {st} {p} {starts₀ = starts₀} {flat₀ = flat₀} l w k h =
    let h' : k < group_count g st p = rw w.count_is at h in
    let r = starts_rise_lem g st p starts₀ l.starts_long (omega arith) in
    rw
    (w.count_is, w.starts_are, w.flat_is)
    (record {
      some = start_before_end (cells g) (group_count g st p) (starts g st p starts₀ l.starts_long) r k h';
      within = end_within (cells g) (group_count g st p) (starts g st p starts₀ l.starts_long) r k h';
      are = part_cells g st p starts₀ l.starts_long flat₀ k l.flat_long h';
    })

-- and so each group
pub in_turn_lem : {g : Grid} {st : List ℕ} {p : Bool} {ids₀ starts₀ flat₀ ids starts flat : List ℕ} {count : ℕ} → Lent (cells g) ids₀ starts₀ flat₀
    → Grouped g st p ids₀ starts₀ flat₀ ids starts flat count → InTurn g (group_ids g st p) count starts flat
in_turn_lem {g} {st} {p} {starts₀ = starts₀} {flat₀ = flat₀} l w =
    record {
      few = rw w.count_is (count_small g st p);
      ids_long = omega (arith, ids_length g st p);
      starts_long = rw (w.count_is, w.starts_are) (simp length-sets (omega (arith, count_small g st p, l.starts_long)));
      flat_long = rw w.flat_is (simp length-sets l.flat_long);
      small = λ c h. rw w.count_is (group_exists g st p c h);
      between = between l w;
    }

-- without the places behind the last group's start
front_starts : {g : Grid} {ids : List ℕ} {count : ℕ} {starts flat : List ℕ} → InTurn g ids count starts flat → InTurn g ids (length (take count starts)) (take count starts) flat
front_starts {g} {ids} {count} {starts} {flat} w =
    let n = front_long (cells g) count starts w.starts_long in
    let same = front_start (cells g) count starts w.starts_long in
    let end = front_end (cells g) count starts w.starts_long in
    rw n
    (record {
      few = w.few;
      ids_long = w.ids_long;
      starts_long = omega (arith, n);
      flat_long = w.flat_long;
      small = w.small;
      between = λ k h.
          let b = w.between k h in
          record { some = rw (same k h, end k) b.some; within = rw (end k) b.within; are = rw (same k h, end k) b.are };
    })

-- each group has one start
pub starts_length : (g : Grid) (st : List ℕ) (p : Bool) → length (starts_of (cells g) (group_ids g st p) (group_count g st p)) ≡ group_count g st p
unfolding starts_of
starts_length g st p = table_long (start_of (cells g) (group_ids g st p)) (group_count g st p)

-- WHAT A GROUPING LEFT in slices that it was lent is a `Groups`: the cells' groups, the groups' starts, and the cells in turn
module _ {g : Grid} {st : List ℕ} {p : Bool} {ids₀ starts₀ flat₀ ids starts flat : List ℕ} {count : ℕ} (l : Lent (cells g) ids₀ starts₀ flat₀)
    (w : Grouped g st p ids₀ starts₀ flat₀ ids starts flat count) where
  pub made_ids : take (cells g) ids ≡ group_ids g st p
  made_ids =
      let n : length (group_ids g st p) ≡ cells g = ids_length g st p in
      rw (w.ids_are, ← n) (front ids₀ (group_ids g st p) (omega (arith, n, l.ids_long)))

  pub made_starts : take count starts ≡ starts_of (cells g) (group_ids g st p) (group_count g st p)
  made_starts =
      rw (w.starts_are, w.count_is)
      (rw (starts_length g st p) at (front starts₀ (starts_of (cells g) (group_ids g st p) (group_count g st p)) (omega (arith, starts_length g st p, count_small g st p, l.starts_long))))

  pub made : InTurn g (take (cells g) ids) (length (take count starts)) (take count starts) flat
  made = rw made_ids (front_starts (in_turn_lem l w))

-- THE CELLS OF ONE GROUP, in slices that have them in turn
module _ {g : Grid} {ids starts flat : List ℕ} {count : ℕ} (w : InTurn g ids count starts flat) {k : ℕ} (h : k < count) where
  pub turn_some : 0 < length (cells_of g ids k)
  turn_some =
      rw (← (w.between k h).are)
      (rw (length-take-le (end_of (cells g) count starts k - get_or starts k 0) (drop (get_or starts k 0) flat) (simp length-drop (omega (arith, (w.between k h).within, w.flat_long))))
      (omega (arith, (w.between k h).some)))

-- THE HAND-OUT OF A GROUPING'S OWN RECORD AND BUFFER

blank_long : length blank_places ≡ most_cells
unfolding blank_places
blank_long = refl

module _ (g : Grid) (st : List ℕ) (p : Bool) (limits : Limits g) where
  blank_fits : cells g ≤ length blank_places
  blank_fits = omega (arith, blank_long, cells_le g limits)

  -- such a record holds together
  pub own_record : Holds (info_of g st p)
  unfolding groups_exist
  own_record =
      record {
        limits = limits;
        few = count_small g st p;
        rise = starts_rise_lem g st p blank_places blank_fits (omega (arith, group_exists g st p 0 (cells_some g limits)));
        exist =
            true_all (exists (group_count g st p) (sets blank_places 0 (group_ids g st p))) (range (cells g))
            (λ c m.
            let h : c < cells g = in_range (cells g) c m in
            lt-ltb (get_or (sets blank_places 0 (group_ids g st p)) c 0) (group_count g st p)
            (omega (arith, front_at blank_places (group_ids g st p) c (omega (arith, ids_length g st p, blank_fits)) (omega (arith, ids_length g st p)), group_exists g st p c h)));
      }

  -- HANDED OUT ARE EXACTLY THE GROUP'S CELLS
  pub own_hand_out : (buffer : List ℕ) (k : ℕ) → cells g ≤ length buffer → k < group_count g st p
      → hand_out_of (info_of g st p) (sets buffer 0 (in_turn (cells g) (group_ids g st p) (group_count g st p))) k ≡ cells_of g (group_ids g st p) k
  own_hand_out buffer k fits h =
      let b = sets buffer 0 (in_turn (cells g) (group_ids g st p) (group_count g st p)) in
      let long : length b ≡ length buffer = length-sets buffer 0 (in_turn (cells g) (group_ids g st p) (group_count g st p)) in
      sym (handed_out (info_of g st p) b k (0, 0) (sym (holds_code (info_of g st p) own_record)) refl h (omega arith) refl refl).0
      ∙ part_cells g st p blank_places blank_fits buffer k fits h

-- an accepted grouping had a board that holds together and a buffer with a place for each cell
accepted : (b : Board) (places : ℕ) → grouping_code b places ≡ 0 → (board_code b ≡ 0) × (cells (size_of b) ≤ places)
accepted b places = go (eqb (board_code b) 0) refl (leb (cells (size_of b)) places) refl
  where
    go : (s : Bool) → eqb (board_code b) 0 ≡ s → (t : Bool) → leb (cells (size_of b)) places ≡ t → pick s (pick t 0 6) (board_code b) ≡ 0
        → (board_code b ≡ 0) × (cells (size_of b) ≤ places)
    go true e true f z = (eqb-true _ _ e, leb-true _ _ f)
    go true e false f z = absurd (omega arith)
    go false e t f z = absurd (eqb-false _ _ e z)

-- the same for the calls: a grouping that was accepted, and any of its groups
pub grouping_hand_out : (b : Board) (p : Bool) (buffer : List ℕ) (k : ℕ) → grouping_code b (length buffer) ≡ 0 → k < group_count (size_of b) b.book.states p
    → hand_out_of (grouping_of b p (length buffer)).info (buffer_of b p buffer) k ≡ cells_of (size_of b) (group_ids (size_of b) b.book.states p) k
grouping_hand_out b p buffer k z h =
    let a = accepted b (length buffer) z in
    rw z (own_hand_out (size_of b) b.book.states p (sizes_fit b p refl a.0) buffer k a.1 h)

-- question 2 as SPEC 3.2 has it: the starts rise strictly from 0 and stay below h·w
pub rise_iff : (n count : ℕ) (starts : List ℕ)
    → (starts_rise n count starts ≡ true)
    ↔ ((get_or starts 0 0 ≡ 0) × ((k : ℕ) → k + 1 < count → get_or starts k 0 < get_or starts (k + 1) 0) × ((k : ℕ) → k < count → get_or starts k 0 < n))
unfolding starts_rise
rise_iff n count starts = (
  λ q. (
    from_zero n count starts q,
    λ k h. rw (end_next n count starts k h) (start_before_end n count starts q k (omega arith)),
    λ k h. omega (arith, start_before_end n count starts q k h, end_within n count starts q k h),
  ),
  λ w.
      true_both (eqb (get_or starts 0 0) 0) (all (rises n count starts) (range count)) (eq-eqb (get_or starts 0 0) 0 w.0)
      (true_all (rises n count starts) (range count)
      (λ k m.
      let h : k < count = in_range count k m in
      lt-ltb (get_or starts k 0) (end_of n count starts k)
      (⊎_elim
      (λ (l : count ≤ k + 1). omega (arith, end_last n count starts k l, w.2 k h))
      (λ (l : k + 1 < count). omega (arith, end_next n count starts k l, w.1 k l))
      (le_or_lt count (k + 1))))),
)

-- the group of each cell exists
pub exist_iff : (n count : ℕ) (ids : List ℕ) → (groups_exist n count ids ≡ true) ↔ ((c : ℕ) → c < n → get_or ids c 0 < count)
unfolding groups_exist
exist_iff n count ids = (
  λ q c h. ltb-true (get_or ids c 0) count (all_true (exists count ids) (range n) q c (range_in n c h)),
  λ w. true_all (exists count ids) (range n) (λ c m. lt-ltb (get_or ids c 0) count (w c (in_range n c m))),
)
