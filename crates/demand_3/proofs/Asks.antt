-- The next ask after a list of calls from a fresh puzzle gives what the checks find on the standing borders. Assumes nothing.
use Prim.Native.Nat.{ℕ, ◌≤◌, ◌<◌}
use mathlib.Core.Path.{◌≡◌, refl, ap, sym, ◌∙◌, fun_ext}
use mathlib.Core.Logic.{⊎_elim}
use mathlib.Core.Bool.{Bool, true, false, true≢false}
use mathlib.Core.List.{List}
use mathlib.Core.Option.{Option, none, some}
use native.Mathlib.Omega.{arith}
use lib.ListN.{length, take, get_or-eq_default}
use Rattle.lists.proofs.Cases.{le_or_lt, true_or_false}
use Rattle.lists.proofs.SetsLaws.{front}
use Rattle.grid.specs.Grid.{grid, border_count}
use Rattle.ledger.specs.Ledger.{Decision, standing, whole}
use Rattle.ledger.proofs.Standing.{Sound, named_or_not, standing_named, standing_given}
use Rattle.borders.specs.Border.{state_of, StatesOk}
use Rattle.ledger.specs.declared.Book.{Book}
use Rattle.ledger.proofs.Reached as book
use Rattle.puzzle.specs.declared.Puzzle.{Puzzle}
use Rattle.puzzle.specs.declared.kind.Kind.{Kind}
use Rattle.puzzle.specs.Kind.{kind_number, kind_images, ask_room}
use Rattle.puzzle.specs.Answer.{Answer}
use Rattle.puzzle.specs.Answer.{Clear, Fault, Refused}
use Rattle.rooms.specs.Rooms.{is_given}
use Rattle.puzzle.specs.Fault.{Found, fault_of}
use Rattle.puzzle.specs.Puzzle.{states_of, fresh_puzzle, book_of, onto, puzzle_code, fault_in, ask_code, says, writes, Asked, ask_of}
use Rattle.demand_3.specs.Demand3.{Long, length_of, list_in, Gives, IsFault}
use Rattle.puzzle.proofs.Basics.{states_length, states_at}
use Rattle.puzzle.proofs.Making.{Accepted, given_kept, clues_kept, given_inside}
use Rattle.puzzle.proofs.Answers.{long_buffer, accepted_ask}
use Rattle.demand_3.proofs.FaultLaws.{fault_agrees, fault_most}
use Rattle.demand_3.proofs.Reached.{Reached, reached_code}

-- ANSWERS
abbrev is_fault : Answer → Bool
is_fault Clear = false
is_fault (Fault k n) = true
is_fault (Refused n) = false

-- an accepted ask answers a fault exactly if there is one
pub fault_some : (f : Option Found) → IsFault (says 0 f) → (x : Found) × (f ≡ some x)
fault_some none q = absurd (true≢false (sym (ap is_fault q.2)))
fault_some (some x) q = (x, refl)

pub some_fault : (f : Option Found) (x : Found) → f ≡ some x → IsFault (says 0 f)
some_fault f x q = rw q (x.check, length x.list, refl)

pub clear_none : (f : Option Found) → says 0 f ≡ Clear → f ≡ none
clear_none none q = refl
clear_none (some x) q = absurd (true≢false (ap is_fault q))

pub none_clear : (f : Option Found) → f ≡ none → says 0 f ≡ Clear
none_clear f q = rw q

-- what is written is what is listed
written : (f : Option Found) (buf : List ℕ) → length (list_in f) ≤ length buf → take (length_of (says 0 f)) (writes 0 f buf) ≡ list_in f
written none buf h = refl
written (some x) buf h = front buf x.list h

-- STANDING BORDERS
module _ (h w : ℕ) (given clues : List ℕ) (a : Accepted h w given clues) (L : List (List Decision)) (sound : Sound (border_count (grid h w)) (is_given given) (whole L)) where
  abbrev n : ℕ
  n = border_count (grid h w)

  abbrev s : ℕ → ℕ
  s = standing (is_given given) (whole L)

  state_le : (e : ℕ) → s e ≤ 2
  state_le e =
      ⊎_elim
      (λ (q : is_given given e ≡ true). rw (standing_given n (is_given given) (whole L) e q) (omega arith))
      (λ (q : is_given given e ≡ false). rw (standing_named n (is_given given) (whole L) e q) (⊎_elim (λ k. omega (arith, k.1)) (λ k. k.2) (named_or_not (whole L) e)))
      (true_or_false (is_given given e))

  -- nothing stands behind the board's borders
  pub state_outside : (e : ℕ) → n ≤ e → s e ≡ 0
  state_outside e l =
      ⊎_elim
      (λ (q : is_given given e ≡ true). absurd (omega (arith, given_inside h w given clues a e q)))
      (λ (q : is_given given e ≡ false).
      rw (standing_named n (is_given given) (whole L) e q) (⊎_elim (λ k. k.1) (λ k. absurd (omega (arith, sound.inside e k.0))) (named_or_not (whole L) e)))
      (true_or_false (is_given given e))

  -- the list of the standing borders' states says of every border what stands
  pub states_stand : state_of (states_of n s) ≡ s
  states_stand =
      fun_ext (λ e.
      ⊎_elim
      (λ (l : n ≤ e). get_or-eq_default (states_of n s) 0 {n = e} (rw (states_length n s) l) ∙ sym (state_outside e l))
      (λ (l : e < n). states_at n s e l)
      (le_or_lt n e))

  pub states_ok : StatesOk (grid h w) (states_of n s)
  states_ok e l = rw (states_at n s e l) (state_le e)

module _
    (kind : Kind) (h w : ℕ) (given clues : List ℕ) (a : Accepted h w given clues) (L : List (List Decision)) (sound : Sound (border_count (grid h w)) (is_given given) (whole L))
  where
    -- the states of the standing borders, and what the checks find there
    abbrev states : List ℕ
    states = states_of (border_count (grid h w)) (standing (is_given given) (whole L))

    abbrev fault : Option Found
    fault = fault_of (kind_images kind) (grid h w) given clues states

    list_short : length (list_in fault) ≤ ask_room (kind_number kind) (grid h w)
    list_short = go fault refl
      where
        go : (f : Option Found) → fault ≡ f → length (list_in f) ≤ ask_room (kind_number kind) (grid h w)
        go none q = omega arith
        go (some x) q = fault_most (kind_images kind) (grid h w) given clues states (states_ok h w given clues a L sound) x q

    module _ (b : Book) (r : book.Reached (border_count (grid h w)) (is_given given) L b) where
      book_fault : fault_in (onto (fresh_puzzle kind (grid h w) given clues) b) ≡ fault
      book_fault =
          cc (given_kept kind h w given clues a, clues_kept kind h w given clues a)
          ∙ fault_agrees (kind_images kind) (grid h w) given clues b.states states (λ e l. r.stands e l ∙ sym (states_at (border_count (grid h w)) (standing (is_given given) (whole L)) e l))

      book_asked : puzzle_code (onto (fresh_puzzle kind (grid h w) given clues) b) ≡ 0 → (buf : List ℕ) → Long kind h w buf → Gives (ask_of (onto (fresh_puzzle kind (grid h w) given clues) b) buf) fault
      book_asked code buf long =
          let p : Puzzle = onto (fresh_puzzle kind (grid h w) given clues) b in
          let c : ask_code p buf ≡ 0 = long_buffer p 0 (sym code) refl buf long in
          gives (fault_in p) fault book_fault (ask_of p buf) buf (accepted_ask p buf c) (omega (arith, list_short))
        where
          gives : (f f' : Option Found) → f ≡ f' → (x : Asked) (buf : List ℕ) → x ≡ record { answer = says 0 f; buffer = writes 0 f buf } → length (list_in f') ≤ length buf → Gives x f'
          gives f f' q x buf e l = rw (e, q) (record { answer = refl; list = written f' buf l })

    -- THE LAW: a long enough ask gives what the checks find on the standing borders
    pub asked_gives : (p : Puzzle) → Reached kind h w given clues L p → (buf : List ℕ) → Long kind h w buf
        → Gives (ask_of p buf) (fault_of (kind_images kind) (grid h w) given clues (states_of (border_count (grid h w)) (standing (is_given given) (whole L))))
    asked_gives p r buf long =
        let code : puzzle_code (onto (fresh_puzzle kind (grid h w) given clues) (book_of p)) ≡ 0 = sym (ap puzzle_code r.constants) ∙ reached_code kind h w given clues a L p r in
        rw r.constants (book_asked (book_of p) r.stood code buf long)
