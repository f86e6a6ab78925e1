-- The list of one potential unit, and the lists of all of them in turn. Assumes nothing.
use Prim.Native.Nat.{ℕ, ◌+◌, ◌-◌, ◌*◌, ◌≤◌, ◌<◌}
use mathlib.Core.Path.{◌≡◌, refl, ap, sym, ◌∙◌}
use mathlib.Core.Logic.{◌≢◌, ⊎_elim}
use mathlib.Core.Bool.{Bool, true, false}
use mathlib.Core.List.{List}
use native.Mathlib.Omega.{arith}
use borrow.Author.Tests.{eqb-true, not-false}
use lib.Dec.{eqb}
use lib.ListN.{get_or, length, set, drop, length-set, length-drop, get_or-eq_default}
use lib.Seq.{get_or-set_same, get_or-set_other, length-take-le}
use Rattle.lists.specs.Lists.{any}
use Rattle.lists.proofs.Cases.{eq_or_ne, le_or_lt, true_or_false, not_both}
use Rattle.lists.proofs.ChoiceLaws.{both_true}
use Rattle.lists.proofs.ListLaws.{any_true, in_get_d, get_d_in}
use Rattle.grid.specs.declared.Grid.{Grid}
use Rattle.grid.specs.Grid.{cells, Cell, next}
use Rattle.grid.specs.Orders.{around}
use Rattle.borders.specs.Border.{stands}
use Rattle.borders.proofs.BorderLaws.{stands_step}
use Rattle.boundary.specs.Boundary.{ahead}
use Rattle.groups.specs.Groups.{cells_of}
use Rattle.groups.specs.Lent.{InTurn}
use Rattle.groups.specs.Info.{end_of, group_part}
use Rattle.groups.proofs.GroupLaws.{in_cells}
use Rattle.groups.proofs.InfoLaws.{end_next}
use Rattle.shape.specs.Shape.{behind, parted, wall_to}
use Rattle.adjacency.specs.declared.Notes.{Notes}
use Rattle.adjacency.specs.Adjacency.{Kept, Looks, Noted, Looked, Written, Unmarked, Listed, Room, Adjacency, Marking}

-- ONE POTENTIAL UNIT

-- what is behind a Wall is the potential unit of a cell
pub parted_cell : (g : Grid) (states pids cs : List ℕ) → ((i : ℕ) → i < length cs → Cell g (get_or cs i 0)) → (q : ℕ) → parted g states pids cs q ≡ true
    → (c : ℕ) × Cell g c × (get_or pids c 0 ≡ q)
unfolding parted behind wall_to
parted_cell g states pids cs on q t =
    let o = any_true (λ c. any (wall_to g states pids q c) around) cs t in
    let w = any_true (wall_to g states pids q o.0) around o.2 in
    let b = both_true (stands g states 2 w.0 o.0) (ahead g pids q o.0 w.0) w.2 in
    let i = in_get_d 0 o.0 cs o.1 in
    let s = stands_step g states 2 w.0 o.0 (rw i.2 at (on i.0 i.1)) b.0 in
    (next g w.0 o.0, s.cell', eqb-true (get_or pids (next g w.0 o.0) 0) q b.1)

-- the cells of a potential unit are cells of the board
cells_on : (g : Grid) (pids : List ℕ) (p i : ℕ) → i < length (cells_of g pids p) → Cell g (get_or (cells_of g pids p) i 0)
cells_on g pids p i h = (in_cells g pids p (get_or (cells_of g pids p) i 0) (get_d_in 0 (cells_of g pids p) i h)).0

module _ {test : ℕ → Bool} {k : ℕ} {marks list : List ℕ} {len : ℕ} {marks' list' : List ℕ} {len' : ℕ} (u : Unmarked marks) (l : Looked test k marks list len marks' list' len') where
  pub noted : Noted len test marks' list' len'
  noted =
      l.noted len (λ q. false)
      record {
        order = omega arith;
        marked = λ q h. rw (u q);
        has = λ q t. absurd (not_both false t refl);
        only = λ i a b. absurd (omega arith);
      }

  pub listed : {marks₂ : List ℕ} → Written list' len len' 0 marks' marks₂ → Listed test k marks list len marks₂ list' len'
  listed {marks₂} w =
      record {
        more = l.more;
        most = l.most;
        has = noted.has;
        only = noted.only;
        before = l.before;
        clear = λ q.
            ⊎_elim
            (λ (t : test q ≡ true). let o = noted.has q t in rw o.3 at (w.here o.0 o.1 o.2))
            (λ (t : test q ≡ false).
            w.other q (λ i a b e. not_both (test q) (ap test (sym e) ∙ noted.only i a b) t)
            ∙ ⊎_elim
            (λ (h : length marks' ≤ q). get_or-eq_default marks' 0 {n = q} h)
            (λ (h : q < length marks'). eqb-true (get_or marks' q 0) 0 (not-false (eqb (get_or marks' q 0) 0) (noted.marked q h ∙ t)))
            (le_or_lt (length marks') q))
            (true_or_false (test q));
        marks_long = w.long ∙ l.marks_long;
        list_long = l.list_long;
      }

-- ALL OF THEM

-- the lists of the first p are made
pub record Progress (g : Grid) (states pids : List ℕ) (count : ℕ) (first starts₀ : List ℕ) (before : Notes) (starts : List ℕ) (now : Notes) (p : ℕ) : Type 0 where
  pub kept : Kept before now
  pub within : p ≤ count
  pub lists : Adjacency g states pids p starts now.list.now
  pub end : get_or starts p 0 ≡ now.len
  pub next_room : p < count → now.len ≤ 4 * get_or first p 0
  pub room : now.len ≤ 4 * cells g
  pub clear : Unmarked now.marks.now
  pub marks_long : length now.marks.now ≡ length before.marks.now
  pub starts_long : length starts ≡ length starts₀
  pub list_long : length now.list.now ≡ length before.list.now

module _ {g : Grid} (states : List ℕ) {pids : List ℕ} {count : ℕ} {first flat starts₀ : List ℕ} {before : Notes} (turns : InTurn g pids count first flat) (w : Room g count before.marks.now starts₀ before.list.now) where
  -- the first list begins at place 0
  pub listing_none : Unmarked before.marks.now → before.len ≡ 0 → Progress g states pids count first starts₀ before (set starts₀ 0 0) before 0
  listing_none u empty =
      let s = get_or-set_same starts₀ 0 0 0 (omega (arith, w.starts_long)) in
      record {
        kept = record { marks = refl; list = refl };
        within = omega arith;
        lists =
            record {
              long = simp length-set (omega (arith, w.starts_long));
              rising = λ p h. absurd (omega arith);
              within = λ p h. let z : p ≡ 0 = omega arith in rw z (omega arith);
              fits = omega (arith, s);
              has = λ p q h n t. absurd (omega arith);
              only = λ p i h a b. absurd (omega arith);
            };
        end = s ∙ sym empty;
        next_room = λ h. omega arith;
        room = omega arith;
        clear = u;
        marks_long = refl;
        starts_long = simp length-set;
        list_long = refl;
      }

  module _ {starts : List ℕ} {now : Notes} {p : ℕ} (a : Progress g states pids count first starts₀ before starts now p) (h : p < count) {cs : List ℕ} (own_cells : cs ≡ cells_of g pids p) where
    cells_are : cs ≡ group_part (cells g) count first flat p
    cells_are = own_cells ∙ sym (turns.between p h).are

    to : ℕ
    to = end_of (cells g) count first p

    how_many : get_or first p 0 + length cs ≡ to
    unfolding to
    how_many =
        let b = turns.between p h in
        let l : length cs ≡ end_of (cells g) count first p - get_or first p 0 =
        ap length cells_are ∙ length-take-le (end_of (cells g) count first p - get_or first p 0) (drop (get_or first p 0) flat) (simp length-drop (omega (arith, b.within, turns.flat_long))) in
        omega (arith, b.some)

    -- what is asked of the cells and of the notes
    pub asked : Looks g pids (4 * length cs) now.marks.now now.list.now now.len × ((i : ℕ) → i < length cs → Cell g (get_or cs i 0))
    unfolding to
    asked = (
      record {
        pids_long = turns.ids_long;
        small = λ c l. omega (arith, turns.small c l, w.marks_long, a.marks_long);
        room = omega (arith, how_many, a.next_room h, (turns.between p h).within, w.list_long, a.list_long);
      },
      λ i l. let z : i < length (cells_of g pids p) = rw own_cells at l in rw own_cells (cells_on g pids p i z),
    )

    module _ {after : Notes} (m : Kept now after) (l : Listed (parted g states pids cs) (4 * length cs) now.marks.now now.list.now now.len after.marks.now after.list.now after.len) where
      starts' : List ℕ
      starts' = set starts (p + 1) after.len

      old : (k : ℕ) → k ≤ p → get_or starts' k 0 ≡ get_or starts k 0
      unfolding starts'
      old k z = get_or-set_other starts (p + 1) k after.len 0 (λ e. omega arith)

      new : get_or starts' (p + 1) 0 ≡ after.len
      unfolding starts'
      new = get_or-set_same starts (p + 1) after.len 0 (omega (arith, a.starts_long, w.starts_long))

      upto : after.len ≤ 4 * to
      upto = omega (arith, how_many, a.next_room h, l.most)

      abbrev Has : ℕ → ℕ → Type 0
      Has k q = (i : ℕ) × (get_or starts' k 0 ≤ i) × (i < get_or starts' (k + 1) 0) × (get_or after.list.now i 0 ≡ q)

      has_new : (q : ℕ) → parted g states pids (cells_of g pids p) q ≡ true → Has p q
      has_new q t =
          let o = l.has q (ap (λ cs. parted g states pids cs q) own_cells ∙ t) in
          (o.0, rw (old p (omega arith), a.end) o.1, rw new o.2, o.3)

      all_lists : Adjacency g states pids (p + 1) starts' after.list.now
      all_lists =
          record {
            long = unfold starts' in simp length-set (omega (arith, a.starts_long, w.starts_long));
            rising = λ k z.
                ⊎_elim
                (λ (e : k ≡ p). rw (e, new, old p (omega arith), a.end) l.more)
                (λ (e : k ≢ p).
                let lower : k < p = omega arith in
                omega (arith, old k (omega arith), old (k + 1) (omega arith), a.lists.rising k lower))
                (eq_or_ne k p);
            within = λ k z.
                ⊎_elim
                (λ (e : k ≡ p + 1). rw e (omega arith))
                (λ (e : k ≢ p + 1).
                let lower : k ≤ p = omega arith in
                omega (arith, old k lower, new, a.lists.within k lower, a.end, l.more))
                (eq_or_ne k (p + 1));
            fits = unfold to in omega (arith, new, upto, (turns.between p h).within, w.list_long, a.list_long, l.list_long);
            has = λ k q z n t.
                ⊎_elim
                (λ (e : k ≡ p). let r : parted g states pids (cells_of g pids k) q ≡ true → Has k q = rw e (has_new q) in r t)
                (λ (e : k ≢ p).
                let lower : k < p = omega arith in
                let o = a.lists.has k q lower n t in
                let b : o.0 < now.len = omega (arith, o.2, a.lists.within (k + 1) (omega arith), a.end) in
                (o.0, rw (old k (omega arith)) o.1, rw (old (k + 1) (omega arith)) o.2, l.before o.0 b ∙ o.3))
                (eq_or_ne k p);
            only = λ k i z x y.
                ⊎_elim
                (λ (e : k ≡ p).
                ap (λ cs. parted g states pids cs (get_or after.list.now i 0)) (ap (cells_of g pids) e ∙ sym own_cells)
                ∙ l.only i (rw (e, old p (omega arith), a.end) at x) (rw (e, new) at y))
                (λ (e : k ≢ p).
                let lower : k < p = omega arith in
                let y' : i < get_or starts (k + 1) 0 = rw (old (k + 1) (omega arith)) at y in
                rw (l.before i (omega (arith, y', a.lists.within (k + 1) (omega arith), a.end)))
                (a.lists.only k i lower (rw (old k (omega arith)) at x) y'))
                (eq_or_ne k p);
          }

      pub listing_turn : Progress g states pids count first starts₀ before (set starts (p + 1) after.len) after (p + 1)
      unfolding starts' to
      listing_turn =
          record {
            kept = record { marks = m.marks ∙ a.kept.marks; list = m.list ∙ a.kept.list };
            within = omega arith;
            lists = all_lists;
            end = new;
            next_room = λ z. omega (arith, upto, end_next (cells g) count first p z);
            room = omega (arith, upto, (turns.between p h).within);
            clear = l.clear;
            marks_long = l.marks_long ∙ a.marks_long;
            starts_long = simp length-set a.starts_long;
            list_long = l.list_long ∙ a.list_long;
          }

-- a potential unit that is alone has no other behind its Walls
pub listed_alone : {g : Grid} (states : List ℕ) {pids : List ℕ} {count : ℕ} {first flat marks starts list : List ℕ} → InTurn g pids count first flat → count ≡ 1 → Room g count marks starts list
    → Adjacency g states pids count (set (set starts 0 0) 1 0) list
listed_alone {g} states {pids} {count} {starts = starts} {list = list} turns alone room =
    let now = set (set starts 0 0) 1 0 in
    let second : get_or now 1 0 ≡ 0 = get_or-set_same (set starts 0 0) 1 0 0 (simp length-set (omega (arith, alone, room.starts_long))) in
    let first : get_or now 0 0 ≡ 0 = get_or-set_other (set starts 0 0) 1 0 0 0 (λ e. omega arith) ∙ get_or-set_same starts 0 0 0 (omega (arith, room.starts_long)) in
    let none : (p : ℕ) → p ≤ count → get_or now p 0 ≡ 0 =
    λ p h. ⊎_elim (λ (z : p ≡ 0). rw z first) (λ (z : p ≢ 0). let y : p ≡ 1 = omega arith in rw y second) (eq_or_ne p 0) in
    record {
      long = simp length-set room.starts_long;
      rising = λ p h. omega (arith, none p (omega arith));
      within = λ p h. omega (arith, none p h);
      fits = omega (arith, none count (omega arith));
      has = λ p q h z t.
          let o = parted_cell g states pids (cells_of g pids p) (cells_on g pids p) q t in
          absurd (omega (arith, turns.small o.0 o.1, o.2));
      only = λ p i h x y. absurd (omega (arith, none (p + 1) (omega arith)));
    }

-- what marks need of the lists
pub marking : {g : Grid} {states pids : List ℕ} {count : ℕ} {starts list : List ℕ} → ((c : ℕ) → Cell g c → get_or pids c 0 < count) → Adjacency g states pids count starts list
    → (marks : List ℕ) → count ≤ length marks → (p : ℕ) → p < count → Marking p starts list marks
marking {g} {states} {pids} {count} {list = list} few a marks long p h =
    record {
      starts_long = omega (arith, a.long);
      rising = a.rising p h;
      list_long = omega (arith, a.within (p + 1) (omega arith), a.fits);
      small = λ i x y.
          let o = parted_cell g states pids (cells_of g pids p) (cells_on g pids p) (get_or list i 0) (a.only p i h x y) in
          omega (arith, few o.0 o.1, o.2);
      own = omega arith;
    }

-- the same of slices that are known to be equal
pub listed_at : {g : Grid} {states pids : List ℕ} {count : ℕ} {starts list list' : List ℕ} → Adjacency g states pids count starts list → list ≡ list' → Adjacency g states pids count starts list'
listed_at a e = rw (← e) a

pub marked_at : {marks marks' : List ℕ} → Unmarked marks → marks ≡ marks' → Unmarked marks'
marked_at u e q = rw (← e) (u q)
