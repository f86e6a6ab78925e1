-- After every list of calls from a fresh puzzle, accepted and refused ones, exactly the standing borders stand, the record holds together,
-- and kind, size, given walls and clues are the making's: the ledger's theorem, around which the puzzle's constants stay. Assumes nothing.
use Prim.Native.Nat.{ℕ}
use mathlib.Core.Path.{◌≡◌, refl, ap, sym, ◌∙◌}
use mathlib.Core.List.{List, [], ◌∷◌, map}
use native.Mathlib.Omega.{arith}
use borrow.Author.Tests.{le-leb}
use lib.Dec.{eqb}
use Rattle.limits.specs.Limits.{most_borders}
use Rattle.lists.specs.Choice.{pick}
use Rattle.grid.specs.Grid.{grid, border_count}
use Rattle.grid.proofs.Geometry.{limits_ok, border_count_le}
use Rattle.ledger.specs.declared.Book.{Book}
use Rattle.ledger.specs.Ledger as ledger
use Rattle.ledger.specs.Ledger.{Decision, decisions, single, standing, whole, stroke_code, undo_code, ledger_of}
use Rattle.ledger.specs.Books.{state_at, placed, taken, book_after}
use Rattle.ledger.proofs.Reached as book
use Rattle.ledger.proofs.Reached.{Around}
use Rattle.puzzle.specs.declared.Puzzle.{Puzzle}
use Rattle.puzzle.specs.declared.Made.{Made}
use Rattle.puzzle.specs.declared.kind.Kind.{Kind}
use Rattle.puzzle.proofs.KindLaws.{is_kind}
use Rattle.rooms.specs.Rooms.{is_given}
use Rattle.puzzle.specs.Puzzle.{fresh_state, fresh_puzzle, answer, book_of, together, puzzle_code, onto, stroke_of, undo_of}
use Rattle.demand_3.specs.Run.{Call, decide, stroke, undo, ask, puzzle_after, run, on_ledger, ledger_after}
use Rattle.puzzle.proofs.Basics.{states_length, states_at}
use Rattle.puzzle.proofs.Making.{Accepted, given_short, clues_short, given_kept, clues_kept}

-- p has the constants of the making, and in its book exactly the given walls and the decisions of L stand
pub record Reached (kind : Kind) (h w : ℕ) (given clues : List ℕ) (L : List (List Decision)) (p : Puzzle) : Type 0 where
  pub constants : p ≡ onto (fresh_puzzle kind (grid h w) given clues) (book_of p)
  pub stood : book.Reached (border_count (grid h w)) (is_given given) L (book_of p)

module _ (kind : Kind) (h w : ℕ) (given clues : List ℕ) (a : Accepted h w given clues) where
  abbrev n : ℕ
  n = border_count (grid h w)

  abbrev fresh : Puzzle
  fresh = fresh_puzzle kind (grid h w) given clues

  pub fresh_reached : Reached kind h w given clues [] (fresh_puzzle kind (grid h w) given clues)
  fresh_reached =
      let few = border_count_le (grid h w) a.limits in
      record {
        constants = refl;
        stood = book.reached_fresh n (is_given given) _ (omega (arith, states_length most_borders (fresh_state given))) few
            (λ e k. states_at most_borders (fresh_state given) e (omega arith));
      }

  -- the ledger's laws, around the constants of the making
  abbrev law : Around Puzzle Made (border_count (grid h w)) (is_given given)
  law =
      record {
        around = onto fresh;
        code = puzzle_code;
        answer = answer;
        ready = λ b k. unfold together in
            rw (limits_ok (grid h w) a.limits, given_kept kind h w given clues a, clues_kept kind h w given clues a, le-leb _ _ (given_short h w given clues a), le-leb _ _ (clues_short h w given clues a), is_kind kind, a.lists, k);
      }

  module _ (L : List (List Decision)) (b : Book) (r : book.Reached n (is_given given) L b) where
    stroke_told : (ds : List Decision) → stroke_of (onto fresh b) ds ≡ answer (stroke_code n (state_at b.states) ds) (onto fresh (pick (eqb (stroke_code n (state_at b.states) ds) 0) (placed b ds) b))
    stroke_told ds = book.told law L b r (stroke_code n (state_at b.states) ds) (placed b ds)

    -- a call on the puzzle is the same call on its book
    onto_after : (c : Call) → puzzle_after (onto fresh b) c ≡ onto fresh (book_after n b (on_ledger c))
    unfolding puzzle_after book_after
    onto_after (decide e wall) = ap (λ d. d.puzzle) (stroke_told (single e wall))
    onto_after (stroke entries) = ap (λ d. d.puzzle) (stroke_told (decisions entries))
    onto_after undo = ap (λ d. d.puzzle) (book.told law L b r (undo_code b.len) (taken b))
    onto_after (ask buf) = refl

    -- the ledger decides which strokes are accepted
    pub stroke_accepted : (ds : List Decision) → stroke_code n (standing (is_given given) (whole L)) ds ≡ 0 → (stroke_of (onto (fresh_puzzle kind (grid h w) given clues) b) ds).code ≡ 0
    stroke_accepted ds q = ap (λ d. d.code) (stroke_told ds) ∙ book.same_code n (is_given given) L b r ds ∙ q

  -- a call on the puzzle is the same call on the ledger
  pub reached_after : (L : List (List Decision)) (p : Puzzle) → Reached kind h w given clues L p → (c : Call)
      → Reached kind h w given clues (ledger.ledger_after (border_count (grid h w)) (is_given given) L (on_ledger c)) (puzzle_after p c)
  reached_after L p r c =
      let e = ap (λ x. puzzle_after x c) r.constants ∙ onto_after L (book_of p) r.stood c in
      rw e (record { constants = refl; stood = book.reached_after n (is_given given) L (book_of p) r.stood (on_ledger c) })

  reached_run : (L : List (List Decision)) (p : Puzzle) → Reached kind h w given clues L p → (cs : List Call)
      → Reached kind h w given clues (ledger_of (border_count (grid h w)) (is_given given) L (map on_ledger cs)) (run p cs)
  unfolding run ledger_of
  reached_run L p r [] = r
  reached_run L p r (c ∷ cs) = reached_run (ledger.ledger_after n (is_given given) L (on_ledger c)) (puzzle_after p c) (reached_after L p r c) cs

  -- THE LEDGER'S THEOREM: after every list of calls from the fresh puzzle exactly the ledger's decisions and the given walls stand
  pub reached : (cs : List Call) → Reached kind h w given clues (ledger_after h w given cs) (run (fresh_puzzle kind (grid h w) given clues) cs)
  reached cs = reached_run [] fresh fresh_reached cs

  pub reached_code : (L : List (List Decision)) (p : Puzzle) → Reached kind h w given clues L p → puzzle_code p ≡ 0
  reached_code L p r = ap puzzle_code r.constants ∙ law.ready (book_of p) (book.reached_holds n (is_given given) L (book_of p) r.stood)

  -- an undo gives back the very puzzle before an accepted stroke that is not empty, where calls have made it
  module _ (L : List (List Decision)) (d : Decision) (ds : List Decision) where
    undo_onto : (b : Book) → book.Reached n (is_given given) L b → (stroke_of (onto fresh b) (d ∷ ds)).code ≡ 0 → undo_of (stroke_of (onto fresh b) (d ∷ ds)).puzzle ≡ answer 0 (onto fresh b)
    undo_onto b r z =
        let e = stroke_told L b r (d ∷ ds) in
        let q = sym (ap (λ x. x.code) e) ∙ z in
        ap (λ x. undo_of x.puzzle) e ∙ rw q (book.told_back law L b r d ds q)

    pub undo_puzzle : (p : Puzzle) → Reached kind h w given clues L p → (stroke_of p (d ∷ ds)).code ≡ 0 → undo_of (stroke_of p (d ∷ ds)).puzzle ≡ answer 0 p
    undo_puzzle p r z = rw r.constants (undo_onto (book_of p) r.stood (rw r.constants at z))
