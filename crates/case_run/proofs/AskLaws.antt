-- What an ask with places enough answers, whatever its buffer: the line of each answer, and the list of a fault. Assumes nothing.
use Prim.Native.Nat.{ℕ, zero, suc, ◌/◌, ◌≤◌, ◌<◌}
use mathlib.Core.Path.{◌≡◌, refl, ap, sym, ◌∙◌}
use mathlib.Core.Logic.{⊎_elim}
use mathlib.Core.List.{List, []}
use mathlib.Core.Option.{Option, none, some}
use native.Mathlib.Omega.{arith}
use borrow.Author.Tests.{ne_eqb, le-leb}
use lib.Dec.{eqb}
use lib.ListN.{length, take, get_or-eq_default}
use lib.Seq.{length-take-le}
use Rattle.lists.specs.Choice.{pick}
use Rattle.lists.specs.Lists.{In}
use Rattle.lists.proofs.Cases.{le_or_lt}
use Rattle.lists.proofs.SetsLaws.{front}
use Rattle.grid.specs.declared.Grid.{Grid}
use Rattle.grid.specs.Grid.{cells, border_count}
use Rattle.grid.proofs.Geometry.{cells_le, border_count_le}
use Rattle.ledger.specs.Books.{state_at}
use Rattle.hand_over.specs.Sorted.{sorted_once}
use Rattle.hand_over.proofs.SortedLaws.{few_below}
use Rattle.case_file.specs.declared.Call.{Call}
use Rattle.case_file.specs.declared.Call.TheVariants.{Ask}
use Rattle.lines.specs.declared.Line.TheVariants as line
use Rattle.lines.specs.Line.{line_of}
use Rattle.puzzle.specs.declared.Puzzle.{Puzzle}
use Rattle.puzzle.specs.declared.Check.{Check}
use Rattle.puzzle.specs.Answer.{Answer}
use Rattle.puzzle.specs.Answer.{Clear, Fault, Refused}
use Rattle.puzzle.specs.Kind.{images_of, ask_room}
use Rattle.puzzle.specs.Fault.{Found}
use Rattle.puzzle.specs.Puzzle.{states_of, grid_of, book_of, given_of, clues_of, puzzle_code, long_enough, ask_code, fault_in, says, writes, ask_of}
use Rattle.demand_3.specs.Run.{puzzle_after, reply_to}
use Rattle.demand_3.proofs.FaultLaws.{fault_agrees, fault_listed, fault_most}
use Rattle.puzzle.proofs.Basics.{states_length, states_at}
use Rattle.puzzle.proofs.KindLaws.{sixteen_most, translates_room}
use Rattle.puzzle.proofs.Ready.{ready, ready_states}
use Rattle.case_run.specs.CaseRun.{blank, Enough, as_call, check_line, ask_line, line_by}
use Rattle.case_run.proofs.LineLaws.{blank_length}

-- an answer that is a fault
fault_says : (code : ℕ) (f : Option Found) (k : Check) (n : ℕ) → Fault k n ≡ says code f → (code ≡ 0) × (x : Found) × (f ≡ some x) × (n ≡ length x.list)
fault_says zero none k n e = let z : ◌≡◌ {A = ℕ} 0 1 = cc in absurd (omega arith)
fault_says zero (some x) k n e = (refl, x, refl, cc)
fault_says (suc code) f k n e = let z : ◌≡◌ {A = ℕ} 0 1 = cc in absurd (omega arith)

-- THE LINE by the number that refuses an ask and what it finds: the buffer doesn't count
abbrev line_for : ℕ → Option Found → List ℕ
line_for zero none = line_of line.Clear []
line_for zero (some x) = line_of (check_line x.check) (sorted_once x.list)
line_for (suc n) f = line_of (line.Refused (suc n)) []

line_said : (code : ℕ) (f : Option Found) (buf : List ℕ) → ((x : Found) → code ≡ 0 → f ≡ some x → length x.list ≤ length buf)
    → ask_line line.Clear (says code f) (writes code f buf) ≡ line_for code f
line_said zero none buf h = refl
line_said zero (some x) buf h = ap (λ l. line_of (check_line x.check) (sorted_once l)) (front buf x.list (h x refl refl))
line_said (suc n) f buf h = refl

module _ (p : Puzzle) where
  -- A FAULT on an accepted puzzle: how long its list is, and which entries it has
  module _ (z : puzzle_code p ≡ 0) (x : Found) (q : fault_in p ≡ some x) where
    abbrev g : Grid
    g = grid_of p

    abbrev s : ℕ → ℕ
    s = state_at (book_of p).states

    -- the states of the board's borders
    abbrev S : List ℕ
    S = states_of (border_count g) s

    found_most : length x.list ≤ ask_room p.kind (grid_of p)
    found_most = fault_most (images_of p.kind) g (given_of p) (clues_of p) (book_of p).states (ready_states p (ready p z)) x q

    -- an entry's border is one of the board
    entry_below : (l : ℕ) → In l x.list → l < 3968
    entry_below l i =
        let r = ready p z in
        let same = fault_agrees (images_of p.kind) g (given_of p) (clues_of p) (book_of p).states S (λ e h. sym (states_at (border_count g) s e h)) in
        let stands = fault_listed (images_of p.kind) g (given_of p) (clues_of p) S
        (λ e h. rw (states_at (border_count g) s e h) (ready_states p r e h)) x (sym same ∙ q) l i in
        ⊎_elim
        (λ (h : border_count g ≤ l / 2). absurd (omega (arith, stands, get_or-eq_default S 0 {n = l / 2} (rw (states_length (border_count g) s) h))))
        (λ (h : l / 2 < border_count g). omega (arith, border_count_le g r.limits))
        (le_or_lt (border_count g) (l / 2))

    few_handed : length (sorted_once x.list) ≤ 9216
    few_handed = omega (arith, few_below 3968 x.list entry_below)

  -- WITH PLACES ENOUGH only questions 1 and 2 refuse
  number_is : (buf : List ℕ) → Enough p (length buf) → ask_code p buf ≡ puzzle_code p
  number_is buf h = go (puzzle_code p) refl
    where
      go : (n : ℕ) → puzzle_code p ≡ n → pick (eqb n 0) (pick (long_enough p.kind (grid_of p) buf) 0 6) n ≡ n
      go zero q = rw (le-leb (ask_room p.kind (grid_of p)) (length buf) (h q)) refl
      go (suc n) q = rw (ne_eqb (suc n) 0 (omega arith)) refl

  told_line : (buf : List ℕ) → Enough p (length buf) → ask_line line.Clear (ask_of p buf).answer (ask_of p buf).buffer ≡ line_for (puzzle_code p) (fault_in p)
  told_line buf h =
      ap (λ n. ask_line line.Clear (says n (fault_in p)) (writes n (fault_in p) buf)) (number_is buf h)
      ∙ line_said (puzzle_code p) (fault_in p) buf (λ x z q. omega (arith, h z, found_most z x q))

  pub translates_enough : p.kind ≡ 0 → Enough p 9216
  translates_enough q z = rw (q, translates_room (grid_of p)) (omega (arith, cells_le (grid_of p) (ready p z).limits))

  pub images_enough : Enough p 16384
  images_enough z = omega (arith, sixteen_most p.kind (cells (grid_of p)), cells_le (grid_of p) (ready p z).limits)

  blank_enough : Enough p (length blank)
  blank_enough z = rw blank_length (images_enough z)

  -- so any such buffer gives the line of the run's own
  same_line : (buf : List ℕ) → Enough p (length buf) → ask_line line.Clear (ask_of p buf).answer (ask_of p buf).buffer ≡ line_by p Ask
  unfolding reply_to
  same_line buf h = told_line buf h ∙ sym (told_line blank blank_enough)

  -- THE PART of the buffer that a fault's list fills
  module _ (buf : List ℕ) (h : Enough p (length buf)) (k : Check) (n : ℕ) (q : Fault k n ≡ (ask_of p buf).answer) where
    pub record Filled (buf' : List ℕ) : Type 0 where
      pub within : n ≤ length buf'
      pub long : n ≡ length (take n buf')
      pub few : length (sorted_once (take n buf')) ≤ 9216

    pub fault_part : (buf' : List ℕ) → length buf' ≡ length buf → buf' ≡ (ask_of p buf).buffer → Filled buf'
    fault_part buf' l m =
        let f = fault_says (ask_code p buf) (fault_in p) k n q in
        let z : puzzle_code p ≡ 0 = sym (number_is buf h) ∙ f.0 in
        let fits : length f.1.list ≤ length buf = omega (arith, h z, found_most z f.1 f.2) in
        let w : n ≤ length buf' = omega (arith, f.3) in
        let is : take n buf' ≡ f.1.list = rw m (ap (λ j. take j (ask_of p buf).buffer) f.3 ∙ written f.0 f.2 fits) in
        record { within = w; long = sym (length-take-le n buf' w); few = rw is (few_handed z f.1 f.2) }
      where
        written : {code : ℕ} {o : Option Found} {x : Found} → code ≡ 0 → o ≡ some x → length x.list ≤ length buf → take (length x.list) (writes code o buf) ≡ x.list
        written {code} {o} {x} z e fits = rw (z, e) (front buf x.list fits)

-- THE LINE of each answer
module _ (p : Puzzle) (buf : List ℕ) (h : Enough p (length buf)) (a : Answer) (buf' : List ℕ) (q : a ≡ (ask_of p buf).answer) (m : buf' ≡ (ask_of p buf).buffer) where
  line_is : ask_line line.Clear a buf' ≡ line_by p Ask
  line_is = rw (q, m) (same_line p buf h)

  by_clear : a ≡ Clear → line_of line.Clear [] ≡ ask_line line.Clear a buf'
  by_clear e = rw e

  by_fault : (k : Check) (n : ℕ) → a ≡ Fault k n → line_of (check_line k) (sorted_once (take n buf')) ≡ ask_line line.Clear a buf'
  by_fault k n e = rw e

  by_refused : (n : ℕ) → a ≡ Refused n → line_of (line.Refused n) [] ≡ ask_line line.Clear a buf'
  by_refused n e = rw e

  pub clear_line : a ≡ Clear → line_of line.Clear [] ≡ line_by p Ask
  clear_line e = by_clear e ∙ line_is

  pub fault_line : (k : Check) (n : ℕ) → a ≡ Fault k n → line_of (check_line k) (sorted_once (take n buf')) ≡ line_by p Ask
  fault_line k n e = by_fault k n e ∙ line_is

  pub refused_line : (n : ℕ) → a ≡ Refused n → line_of (line.Refused n) [] ≡ line_by p Ask
  refused_line n e = by_refused n e ∙ line_is

-- AN ASK, as the call that it is: it leaves the puzzle
pub told_ask : (p : Puzzle) (c : Call) → c ≡ Ask → (p ≡ puzzle_after p (as_call c)) × (line_by p Ask ≡ line_by p c)
unfolding puzzle_after
told_ask p c e = rw e (refl, refl)
