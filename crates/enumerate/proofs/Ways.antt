-- The search's ways through, over plain values: the cap is met, a fault, a full board, two values; and what each next call is given. Assumes nothing.
use Prim.Native.Nat.{ℕ, ◌+◌, ◌*◌, ◌≤◌, ◌<◌}
use mathlib.Core.Path.{◌≡◌, refl, ap, sym, ◌∙◌}
use mathlib.Core.Logic.{⊎_elim, ◌≢◌}
use mathlib.Core.Bool.{true, false, true≢false}
use mathlib.Core.List.{List, [], ◌∷◌, ◌++◌}
use mathlib.Core.Option.{Option, none, some}
use native.Mathlib.Omega.{arith}
use lib.ListN.{length, get_or, set, length-set}
use lib.Seq.{set-set, set-get_or, get_or-set_same, get_or-set_other}
use Rattle.lists.specs.Choice.{when}
use Rattle.lists.specs.Lists.{count, keep}
use Rattle.lists.proofs.Cases.{eq_or_ne}
use Rattle.lists.proofs.ListLaws.{keep_append, keep_none}
use Rattle.grid.specs.declared.Grid.{Grid}
use Rattle.images.specs.declared.Image.{Image}
use Rattle.grid.specs.Grid.{border_count}
use Rattle.borders.specs.Entry.{Standing}
use Rattle.borders.specs.Border.{state_of, StatesOk}
use Rattle.std.specs.Prelude.{None, is_some, position, eqb}
use Rattle.puzzle.specs.Kind.{images_of}
use Rattle.puzzle.specs.Fault.{Found, fault_of}
use Rattle.puzzle.specs.Puzzle.{told}
use Rattle.demand_3.proofs.FaultLaws.{fault_listed, fault_again}
use Rattle.enumerate.specs.Boards.{extensions, is_nothing, is_right, rights}
use Rattle.enumerate.specs.declared.search.Search.{Search}
use Rattle.enumerate.specs.Search.{first_undecided, Written, written_in, add, add_all, Searching, Trying, searched, Kept}
use Rattle.enumerate.proofs.Undecided.{first_zero, one_less, none_undecided}
use Rattle.enumerate.proofs.Extensions.{Over, in_extensions, over_stands, over_full, full_alone, split_first}
use Rattle.enumerate.proofs.Writing.{all_append, fits_all, no_more}

-- WHAT IS RIGHT over the states s
module _ (ms : List Image) (g : Grid) (given clues s : List ℕ) where
  -- full boards over good states are good
  over_ok : length s ≡ border_count g → StatesOk g s → (b : List ℕ) → Over s b → StatesOk g b
  over_ok each ok b o e l =
      ⊎_elim (λ (q : get_or b e 0 ≡ 1). omega arith) (λ (q : get_or b e 0 ≡ 2). omega arith) (over_full s b o e (omega arith) (ok e l))

  -- a fault is a fault on every full board over them: none is right
  cut : length s ≡ border_count g → StatesOk g s → (f : Found) → fault_of ms g given clues s ≡ some f → rights ms g given clues s ≡ []
  unfolding rights is_right
  cut each ok f q =
      keep_none (is_right ms g given clues) (extensions s) (λ b m.
      let o = in_extensions s b m in
      let there : Standing (state_of b) f.list = λ l i. let t = fault_listed ms g given clues s ok f q l i in over_stands s b o _ (λ z. omega (arith, t, z)) ∙ t in
      ap is_nothing (fault_again ms g given clues s ok f q b (over_ok each ok b o) there).1)

  -- without a fault and with nothing undecided the board itself is right
  alone : fault_of ms g given clues s ≡ none → first_undecided s ≡ length s → rights ms g given clues s ≡ s ∷ []
  unfolding rights is_right keep when
  alone q z = ap (keep (is_right ms g given clues)) (full_alone s z) ∙ rw q

  -- the right ones with the first undecided border Connected, and then those with it Wall
  divided : (e : ℕ) → Trying e s → rights ms g given clues s ≡ rights ms g given clues (set s e 1) ++ rights ms g given clues (set s e 2)
  unfolding rights
  divided e t =
      let z : first_undecided s < length s = rw (← t.first) t.exists in
      rw t.first (ap (keep (is_right ms g given clues)) (split_first s z) ∙ keep_append (is_right ms g given clues) (extensions (set s (first_undecided s) 1)) (extensions (set s (first_undecided s) 2)))

-- CHOOSING A BORDER
-- what an ask without a refusal tells
told_clear : (f : Option Found) → is_some (told f) ≡ false → f ≡ none
told_clear none q = refl
told_clear (some x) q = absurd (true≢false q)

told_fault : (f : Option Found) → is_some (told f) ≡ true → (x : Found) × (f ≡ some x)
told_fault none q = absurd (true≢false (sym q))
told_fault (some x) q = (x, refl)

module _ {ms : List Image} {g : Grid} (given clues : List ℕ) {s list : List ℕ} {w : Written} (a : Searching ms g s list w) where
  pub cap_met : w.listing.more ≡ true → w ≡ searched ms g given clues s w
  cap_met q = sym (no_more w (rights ms g given clues s) (omega (arith, a.fits.met q)) q)

  pub branch_cut : is_some (told (fault_of ms g given clues s)) ≡ true → w ≡ searched ms g given clues s w
  unfolding add_all
  branch_cut q =
      let f = told_fault (fault_of ms g given clues s) q in
      sym (ap (add_all w) (cut ms g given clues s a.each a.ok f.0 f.1))

  pub board_kept : is_some (told (fault_of ms g given clues s)) ≡ false → position (λ x. eqb x 0) s ≡ None → add w s ≡ searched ms g given clues s w
  unfolding add_all
  board_kept q p = sym (ap (add_all w) (alone ms g given clues s (told_clear (fault_of ms g given clues s) q) (none_undecided s p)))

-- TRYING ITS VALUES: what the calls are given
module _ {ms : List Image} {g : Grid} {s list : List ℕ} {w : Written} (a : Searching ms g s list w) where
  -- the same board with another list, of the same length
  pub other_list : (list' : List ℕ) → length list' ≡ length list → Searching ms g s list' w
  other_list list' q = record { list_long = omega (arith, q, a.list_long); each = a.each; ok = a.ok; fits = a.fits }

  -- the border decided
  pub decided : (e k : ℕ) → k ≤ 2 → Searching ms g (set s e k) list w
  decided e k l =
      record {
        list_long = a.list_long;
        each = length-set s e k ∙ a.each;
        ok = λ i h.
            ⊎_elim
            (λ (q : i ≡ e). rw (q, get_or-set_same s e k 0 (omega (arith, a.each))) l)
            (λ (z : i ≢ e). rw (get_or-set_other s e i k 0 z) (a.ok i h))
            (eq_or_ne i e);
        fits = a.fits;
      }

  -- what is written by then
  written_on : (given clues : List ℕ) (w' : Written) (t : List ℕ) → w' ≡ searched ms g given clues t w → Searching ms g s list w'
  written_on given clues w' t q =
      record { list_long = a.list_long; each = a.each; ok = a.ok; fits = rw q (fits_all (border_count g) w (rights ms g given clues t) a.fits) }

-- the second call, by a search that a step went by
pub second : (x y : Search) {s : List ℕ} → Searching (images_of x.rules.kind) x.rules.grid s x.list.now (written_in x) → (e : ℕ) (s₁ : List ℕ) → s₁ ≡ set s e 1 → Kept x y
    → written_in y ≡ searched (images_of x.rules.kind) x.rules.grid x.rules.given.now x.rules.clues.now (set s e 1) (written_in x) → Searching (images_of y.rules.kind) y.rules.grid (set s₁ e 2) y.list.now (written_in y)
second x y {s} a e s₁ q k p =
    rw (k.rules, q)
    (decided (other_list (written_on (decided a e 1 (omega arith)) x.rules.given.now x.rules.clues.now (written_in y) (set s e 1) p) y.list.now k.list_long) e 2 (omega arith))

-- after both values the border is undecided again, and all is written
module _ {s : List ℕ} {e : ℕ} (t : Trying e s) where
  undecided : get_or s e 0 ≡ 0
  undecided = rw t.first (first_zero s (rw (← t.first) t.exists))

  -- one undecided border less
  pub less : (k : ℕ) → k ≢ 0 → 2 * count 0 (set s e k) + 1 < 2 * count 0 s
  less k z = omega (arith, one_less s e k t.exists undecided z)

  pub less_again : (s₁ : List ℕ) → s₁ ≡ set s e 1 → 2 * count 0 (set s₁ e 2) + 1 < 2 * count 0 s
  less_again s₁ q = rw (q, set-set s e 1 2) (less 2 (omega arith))

  pub undone : (s₁ s₂ : List ℕ) → s₁ ≡ set s e 1 → s₂ ≡ set s₁ e 2 → set s₂ e 0 ≡ s
  undone s₁ s₂ q₁ q₂ = rw (q₂, q₁, set-set s e 1 2, set-set s e 2 0) (ap (set s e) (sym undecided) ∙ set-get_or s e 0)

  pub both_tried : (x y : Search) (s₁ : List ℕ) (w : Written) → s₁ ≡ set s e 1 → Kept x y
      → written_in y ≡ searched (images_of x.rules.kind) x.rules.grid x.rules.given.now x.rules.clues.now (set s e 1) (written_in x)
      → w ≡ searched (images_of y.rules.kind) y.rules.grid y.rules.given.now y.rules.clues.now (set s₁ e 2) (written_in y)
      → w ≡ searched (images_of x.rules.kind) x.rules.grid x.rules.given.now x.rules.clues.now s (written_in x)
  both_tried x y s₁ w q k p₁ p₂ =
      let r = x.rules in
      let right : List ℕ → List (List ℕ) = rights (images_of r.kind) r.grid r.given.now r.clues.now in
      let next : w ≡ searched (images_of r.kind) r.grid r.given.now r.clues.now (set s₁ e 2) (written_in y) = rw k.rules at p₂ in
      next ∙ (rw (q, set-set s e 1 2, p₁) (sym (all_append (written_in x) (right (set s e 1)) (right (set s e 2)))))
      ∙ ap (add_all (written_in x)) (sym (divided (images_of r.kind) r.grid r.given.now r.clues.now s e t))
