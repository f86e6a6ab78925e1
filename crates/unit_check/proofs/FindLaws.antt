-- Finding: the units in turn. Assumes nothing.
use Prim.Native.Nat.{ℕ, ◌+◌, ◌-◌, ◌≤◌, ◌<◌}
use mathlib.Core.Path.{◌≡◌, refl, ap, sym, ◌∙◌}
use mathlib.Core.Logic.{◌≢◌, ⊎_elim, ∥∥₁_elim}
use mathlib.Core.Bool.{Bool, true, false, not}
use mathlib.Core.List.{List, [], ◌∷◌}
use native.Mathlib.Omega.{arith}
use Rattle.std.proofs.Props.{props}
use borrow.Author.Tests.{eq-eqb, eqb-true, not-true}
use lib.Dec.{eqb}
use lib.ListN.{get_or, length}
use Rattle.std.specs.Prelude.{Option, Some, None}
use Rattle.lists.specs.Choice.{both}
use Rattle.lists.specs.Lists.{In, all, any, range}
use Rattle.lists.proofs.Cases.{eq_or_ne, true_or_false, not_both}
use Rattle.lists.proofs.ChoiceLaws.{both_true, either_false, holds_true}
use Rattle.lists.proofs.ListLaws.{any_true, true_any, all_true}
use Rattle.grid.specs.declared.Grid.{Grid}
use Rattle.grid.specs.Grid.{Limits, cells, Cell, border_count}
use Rattle.groups.specs.Groups.{cells_of}
use Rattle.groups.specs.Lent.{InTurn}
use Rattle.groups.proofs.GroupLaws.{in_cells}
use Rattle.groups.proofs.Theorems.{turn_some}
use Rattle.images.specs.declared.Image.{Image}
use Rattle.shape.specs.Shape.{head_or0, place, offset, unit_of, falls, meets, landing, try, try_at, is_good, fits_by, fits}
use Rattle.offsets.specs.declared.table.CellInfo.{CellInfo}
use Rattle.images.specs.Images.{spot, translate}
use Rattle.offsets.specs.Table.{Table, unit_in, potential_in, units_in, potentials_in}
use Rattle.offsets.specs.Reach.{moved}
use Rattle.offsets.specs.Trial.{unit_at, shift_of, fits_as, fits_at, Unit, Placed}
use Rattle.offsets.proofs.TableLaws.{unit_at_lem, potential_at}
use Rattle.offsets.proofs.ReachLaws.{fell, fell_cell}
use Rattle.offsets.proofs.NoneLaws.{is_none, good_pick}
use Rattle.offsets.proofs.TrialLaws.{head_in}
use Rattle.adjacency.specs.Adjacency.{Adjacency, Marking, MarksOf, Unmarked}
use Rattle.adjacency.proofs.ListingLaws.{marking}
use Rattle.cell_words.proofs.NearLaws.{some_is}
use Rattle.unit_check.specs.Stage.{Finding}
use Rattle.unit_check.specs.Find.{unit_cells, own_of, fits_in, translate_fits, tries_all, AllFit, FirstUnfit, MarkedFor, Sought, Unfit}

-- THE UNITS IN TURN

module _ {test : ℕ → Bool} {n k : ℕ} (a : AllFit test n k) where
  pub fit_on : k < n → test k ≡ true → AllFit test n (k + 1)
  fit_on h t =
      record {
        within = omega arith;
        before = λ i l. ⊎_elim (λ (e : i ≡ k). rw e t) (λ (e : i ≢ k). a.before i (omega arith)) (eq_or_ne i k);
      }

  pub fit_there : (k < n → test k ≡ false) → FirstUnfit test n k
  fit_there t = record { within = a.within; before = a.before; there = t }

  pub fit_all : n ≤ k → FirstUnfit test n k
  fit_all h = fit_there (λ l. absurd (omega arith))

-- the groups that a stage holds are those that the table tells
pub units_turn : {g g₁ g₂ : Grid} {states : List ℕ} {table : List CellInfo} {ids pids : List ℕ} {count : ℕ} {nstarts near : List ℕ} → Finding g states table g₁ ids g₂ pids count nstarts near
    → {n : ℕ} {starts flat : List ℕ} → InTurn g₁ ids n starts flat → InTurn g (units_in g table) n starts flat
units_turn f w = rw f.units (rw f.units_of at w)

pub potentials_turn : {g g₁ g₂ : Grid} {states : List ℕ} {table : List CellInfo} {ids pids : List ℕ} {count : ℕ} {nstarts near : List ℕ} → Finding g states table g₁ ids g₂ pids count nstarts near
    → {n : ℕ} {starts flat : List ℕ} → InTurn g₂ pids n starts flat → InTurn g (potentials_in g table) n starts flat
potentials_turn f w = rw f.potentials (rw f.potentials_of at w)

pub its_cells : {g g₁ g₂ : Grid} {states : List ℕ} {table : List CellInfo} {ids pids : List ℕ} {count : ℕ} {nstarts near : List ℕ} → Finding g states table g₁ ids g₂ pids count nstarts near
    → (k : ℕ) {cs : List ℕ} → cs ≡ cells_of g₁ ids k → cs ≡ unit_cells g table k
its_cells f k e = e ∙ rw (f.units_of, f.units)

-- each cell's potential unit is one of them
pub potential_small : {g : Grid} (table : List CellInfo) {count : ℕ} {starts flat : List ℕ} → InTurn g (potentials_in g table) count starts flat → (c : ℕ) → Cell g c → potential_in table c < count
potential_small {g} table w c h = rw (potential_at g table c h) at (w.small c h)

-- unit k
module _ {g : Grid} {table : List CellInfo} {n : ℕ} {starts flat : List ℕ} (l : Limits g) (t : Table g table) (w : InTurn g (units_in g table) n starts flat) {k : ℕ} (h : k < n) where
  abbrev ids : List ℕ
  ids = units_in g table

  abbrev pids : List ℕ
  pids = potentials_in g table

  pub some_cells : 0 < length (unit_cells g table k)
  some_cells = turn_some w h

  head : Cell g (head_or0 (unit_cells g table k)) × (get_or ids (head_or0 (unit_cells g table k)) 0 ≡ k)
  head = in_cells g ids k (head_or0 (unit_cells g table k)) (head_in (unit_cells g table k) some_cells)

  pub head_cell : Cell g (head_or0 (unit_cells g table k))
  head_cell = head.0

  pub number : unit_in table (head_or0 (unit_cells g table k)) ≡ k
  number = sym (unit_at_lem g table (head_or0 (unit_cells g table k)) head.0) ∙ head.1

  pub unit_is : unit_at g table (unit_cells g table k) ≡ unit_of g ids pids k
  unit_is = ap (unit_of g ids pids) number

  pub fits_is : (ms : List Image) (states : List ℕ) → fits_at ms g states table (unit_cells g table k) ≡ fits_in ms g states table k
  fits_is ms states = ap (fits ms g states ids pids) unit_is

  pub translate_is : (states : List ℕ) → fits_as g states table (unit_cells g table k) translate ≡ translate_fits g states table k
  translate_is states = ap (λ u. fits_by g states ids pids u translate) unit_is

  pub its_unit : Unit g table (unit_cells g table k)
  its_unit = record { limits = l; table_of = t; some = some_cells; cells_are = ap (cells_of g ids) (sym number) }

  pub its_placed : {states marks : List ℕ} → border_count g ≤ length states → MarkedFor g states table k marks → {count : ℕ} {pstarts pflat : List ℕ} → InTurn g pids count pstarts pflat
      → count ≤ length marks → Placed g states table marks (unit_cells g table k)
  its_placed long m p e =
      record {
        limits = l;
        states_long = long;
        table_of = t;
        some = some_cells;
        cells_are = its_unit.cells_are;
        marks_long = λ c q. omega (arith, potential_small table p c q);
        marked = m.only;
      }

  -- its own potential unit has a list, and marks
  module _ {states : List ℕ} {count : ℕ} {pstarts pflat : List ℕ} (p : InTurn g pids count pstarts pflat) {nstarts near : List ℕ} (a : ∥ Adjacency g states pids count nstarts near ∥₁) where
    own_exists : own_of g table k < count
    own_exists = potential_small table p (head_or0 (unit_cells g table k)) head_cell

    pub own_marking : {own : ℕ} → own ≡ own_of g table k → (marks : List ℕ) → count ≤ length marks → Marking own nstarts near marks
    own_marking e marks long =
        rw e
        (∥∥₁_elim a (hlevel props)
        (λ (b : Adjacency g states pids count nstarts near).
        marking {g = g} {states = states} {pids = pids} {count = count} {starts = nstarts} {list = near} (λ c q. p.small c q) b marks long (own_of g table k) own_exists))

    pub unit_marked : {own : ℕ} → own ≡ own_of g table k → {marks : List ℕ}
        → ((g : Grid) (states pids : List ℕ) (count : ℕ) → Adjacency g states pids count nstarts near → own < count → MarksOf g states pids own marks) → MarkedFor g states table k marks
    unit_marked e {marks} f =
        record {
          only = λ q z. ∥∥₁_elim a (hlevel props) (λ (b : Adjacency g states pids count nstarts near). (rw e at (f g states pids count b (rw e own_exists))) q z);
        }

    pub unit_unmarked : {own : ℕ} → own ≡ own_of g table k → {marks : List ℕ} (marks' : List ℕ) → MarkedFor g states table k marks
        → ((g : Grid) (states pids : List ℕ) (count : ℕ) → Adjacency g states pids count nstarts near → own < count → MarksOf g states pids own marks → Unmarked marks') → Unmarked marks'
    unit_unmarked e marks' m f q =
        ∥∥₁_elim a (hlevel props) (λ (b : Adjacency g states pids count nstarts near). f g states pids count b (rw e own_exists) (rw e m.only) q)

-- a unit that is the whole board fits nowhere, as any image: each offset puts its first cell on it
module _ (ms : List Image) {g : Grid} (states : List ℕ) (table : List CellInfo) {n : ℕ} {starts flat : List ℕ} (turns : InTurn g (units_in g table) n starts flat) (e : n ≡ 1) where
  abbrev all_ids : List ℕ
  all_ids = units_in g table

  abbrev all_cells : List ℕ
  all_cells = cells_of g all_ids 0

  fits_never : fits_in ms g states table 0 ≡ true → ⊥
  unfolding fits fits_by try_at try falls unit_of place moved
  fits_never q =
      let u = unit_of g all_ids (potentials_in g table) 0 in
      let f = head_or0 all_cells in
      let m = any_true (fits_by g states all_ids (potentials_in g table) u) ms q in
      let a = any_true (λ t. is_good (try_at m.0 g states all_ids (potentials_in g table) u t)) (range (cells g)) m.2 in
      let put = place m.0 g f a.0 in
      let t = both (all (falls all_ids u put) all_cells) (any (meets g states (potentials_in g table) u put) all_cells) in
      let o = landing g states all_ids u (offset m.0 g f a.0) in
      let b = (both_true t (is_none o) (sym (good_pick t o) ∙ a.2)).0 in
      let c = (both_true (all (falls all_ids u put) all_cells) (any (meets g states (potentials_in g table) u put) all_cells) b).0 in
      let d = all_true (falls all_ids u put) all_cells c f (head_in all_cells (turn_some turns (omega arith))) in
      let x = holds_true (put f) (λ z. not (eqb (get_or all_ids z 0) 0)) d in
      let s = shift_of m.0 g 0 f a.0 in
      let k = turns.small x.0 (fell_cell g s (spot g f) x.0 (fell g s (spot g f) x.0 x.1)) in
      not_both (eqb (get_or all_ids x.0 0) 0) (eq-eqb (get_or all_ids x.0 0) 0 (omega (arith, k, e))) (not-true (eqb (get_or all_ids x.0 0) 0) x.2)

  pub only_unit : FirstUnfit (fits_in ms g states table) n 0
  only_unit =
      record {
        within = omega arith;
        before = λ i l. absurd (omega arith);
        there = λ l. ⊎_elim (λ q. absurd (fits_never q)) (λ q. q) (true_or_false (fits_in ms g states table 0));
      }

-- WHAT A TRANSLATE TELLS

alone : (test : Image → Bool) (ms : List Image) → In translate ms → length ms ≡ 1 → test translate ≡ false → any test ms ≡ false
unfolding any
alone test [] m l e = absurd m
alone test (x ∷ []) m l e = let q : translate ≡ x = ⊎_elim (λ p. p) (λ p. absurd p) m in rw (← q) (either_false (test translate) ∙ e)
alone test (x ∷ y ∷ ms) m l e = absurd (omega arith)

module _ (ms : List Image) (m : In translate ms) (g : Grid) (states : List ℕ) (table : List CellInfo) (k : ℕ) where
  -- a unit that fits as a translate fits
  pub translate_in : translate_fits g states table k ≡ true → fits_in ms g states table k ≡ true
  unfolding fits
  translate_in e = true_any _ ms translate m e

  -- where translates are tried alone, one that does not fit so fits nowhere
  pub translate_alone : both (eqb (length ms) 1) (tries_all g) ≡ true → (tries_all g ≡ true → translate_fits g states table k ≡ false) → fits_in ms g states table k ≡ false
  unfolding fits
  translate_alone l e = let b = both_true (eqb (length ms) 1) (tries_all g) l in alone _ ms m (eqb-true (length ms) 1 b.0) (e b.1)

-- WHAT IS FOUND

some_none : {a : ℕ} {P : Type 0} → ◌≡◌ {A = Option ℕ} (Some a) None → P
some_none e = absurd (let z : ◌≡◌ {A = ℕ} 0 1 = cc in omega arith)

module _ {ms : List Image} {g : Grid} {states : List ℕ} {table : List CellInfo} {n : ℕ} where
  pub sought_none : {from k : ℕ} {marks : List ℕ} → AllFit (fits_in ms g states table) n k → n ≤ k → Sought ms g states table n from marks None
  sought_none {k = k₀} a h =
      record {
        none = λ e. let q : k₀ ≡ n = omega (arith, a.within) in rw q at a;
        some = λ k e. some_none (sym e);
        before = λ k e. some_none (sym e);
        marked = λ k e. some_none (sym e);
        there = λ s k e. some_none (sym e);
      }

  pub sought_some : {from u : ℕ} {marks : List ℕ} → from ≤ u → u < n → AllFit (fits_in ms g states table) n u → MarkedFor g states table u marks → (tries_all g ≡ true → translate_fits g states table u ≡ false)
      → Sought ms g states table n from marks (Some u)
  sought_some {from} {u} {marks} f h a m t =
      record {
        none = λ e. some_none e;
        some = λ k e. rw (← some_is e) (f, h);
        before = λ k e. rw (← some_is e) a;
        marked = λ k e. rw (← some_is e) m;
        there = λ s k e. rw (← some_is e) (t s);
      }

  pub unfit_none : {marks : List ℕ} → AllFit (fits_in ms g states table) n n → Unfit ms g states table n marks None
  unfit_none a = record { none = λ e. fit_all a (omega arith); some = λ k e. some_none (sym e); first = λ k e. some_none (sym e); marked = λ k e. some_none (sym e) }

  pub unfit_some : {u : ℕ} {marks : List ℕ} → u < n → FirstUnfit (fits_in ms g states table) n u → MarkedFor g states table u marks → Unfit ms g states table n marks (Some u)
  unfit_some {u} h a m = record { none = λ e. some_none e; some = λ k e. rw (← some_is e) h; first = λ k e. rw (← some_is e) a; marked = λ k e. rw (← some_is e) m }

-- each unit so far fits somewhere, and the next one to look at has its marks
pub record Pending (ms : List Image) (g : Grid) (states : List ℕ) (table : List CellInfo) (n : ℕ) (marks : List ℕ) (next : Option ℕ) : Type 0 where
  pub none : next ≡ None → AllFit (fits_in ms g states table) n n
  pub some : (k : ℕ) → next ≡ Some k → k < n
  pub before : (k : ℕ) → next ≡ Some k → AllFit (fits_in ms g states table) n k
  pub marked : (k : ℕ) → next ≡ Some k → MarkedFor g states table k marks

module _ {ms : List Image} {g : Grid} {states : List ℕ} {table : List CellInfo} {n : ℕ} where
  pub pending_first : {u : ℕ} {marks : List ℕ} → u < n → AllFit (fits_in ms g states table) n u → MarkedFor g states table u marks → Pending ms g states table n marks (Some u)
  pending_first h a m = record { none = λ e. some_none e; some = λ k e. rw (← some_is e) h; before = λ k e. rw (← some_is e) a; marked = λ k e. rw (← some_is e) m }

  pub pending_next : {from : ℕ} {marks : List ℕ} {next : Option ℕ} → Sought ms g states table n from marks next → Pending ms g states table n marks next
  pending_next s = record { none = s.none; some = λ k e. (s.some k e).1; before = s.before; marked = s.marked }

-- how many units are left to look at
abbrev pub still : ℕ → Option ℕ → ℕ
still n None = 0
still n (Some k) = n - k

pub still_less : {n k : ℕ} {next r : Option ℕ} → next ≡ Some k → k < n → ((j : ℕ) → r ≡ Some j → (k + 1 ≤ j) × (j < n)) → still n r < still n next
still_less {n} {k} {next} {r} e h f = rw e (less r f)
  where
    less : (r : Option ℕ) → ((j : ℕ) → r ≡ Some j → (k + 1 ≤ j) × (j < n)) → still n r < n - k
    less None f = omega arith
    less (Some j) f = omega (arith, f j refl)
