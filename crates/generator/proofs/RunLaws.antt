-- The run of a file: its puzzle is made, whatever its size, and refuses no call but by 4 and 5. Assumes nothing.
use Prim.Native.Nat.{ℕ, ◌≤◌, ◌<◌}
use mathlib.Core.Path.{◌≡◌, refl, sym, ap, ◌∙◌}
use mathlib.Core.Logic.{◌⊎◌, inl, inr, ⊎_elim, ◌≢◌}
use mathlib.Core.Bool.{Bool, true, false}
use mathlib.Core.List.{List, [], ◌∷◌, map}
use mathlib.Core.Option.{Option, none, some}
use native.Mathlib.Omega.{arith}
use borrow.Author.Tests.{ne_eqb, lt-ltb}
use lib.Dec.{eqb}
use lib.ListN.{length, length-replicate}
use Rattle.limits.specs.Limits.{no_clue, most_entries}
use Rattle.lists.specs.Choice.{pick}
use Rattle.lists.specs.Lists.{In, all, range, count_from}
use Rattle.lists.proofs.Cases.{eq_or_ne}
use Rattle.grid.specs.declared.Grid.{Grid}
use Rattle.grid.specs.Grid.{grid, sizes_ok, Limits, border_count}
use Rattle.grid.proofs.Geometry.{limits, cells_le}
use Rattle.ledger.specs.declared.Book.{Book}
use Rattle.ledger.specs.Ledger.{Decision, single, stroke_code}
use Rattle.ledger.specs.Ledger as ledger
use Rattle.ledger.specs.Books.{state_at, placed, taken}
use Rattle.ledger.proofs.Codes.{first_passes, single_code}
use Rattle.rooms.specs.Rooms.{is_given}
use Rattle.rooms.proofs.OneRoom.{one_room}
use Rattle.clues.specs.Clues.{rises, clues_fit, lists_code}
use Rattle.puzzle.specs.declared.Puzzle.{Puzzle}
use Rattle.puzzle.specs.declared.kind.Kind.TheVariants.{Translates}
use Rattle.puzzle.specs.Answer.{Refused}
use Rattle.puzzle.specs.Fault.{Found}
use Rattle.puzzle.specs.Kind.{ask_room}
use Rattle.puzzle.specs.Puzzle.{Asked, make_of, answer, answered, grid_of, book_of, puzzle_code, stroke_number, undo_number, fault_in, says}
use Rattle.puzzle.proofs.Answers.{long_buffer, accepted_ask}
use Rattle.puzzle.proofs.KindLaws.{translates_room}
use Rattle.puzzle.proofs.Making.{Accepted}
use Rattle.demand_3.specs.Run.{puzzle_after, reply_to, replies, on_ledger}
use Rattle.demand_3.proofs.Reached.{Reached, fresh_reached, reached_after, reached_code}
use Rattle.demand_3.proofs.Demand3.{accepted}
use Rattle.case_file.specs.declared.Call.{Call}
use Rattle.case_file.specs.declared.Call.TheVariants.{Undo, Decide, Ask}
use Rattle.case_run.specs.CaseRun.{blank, as_call}
use Rattle.generator.specs.Generator.{BorderBelow}
use Rattle.generator.specs.Promise.{Replied, RepliedAll, open_puzzle}

-- THE PUZZLE
lists_ok : (g : Grid) → Limits g → lists_code g [] (no_clue ∷ []) ≡ 0
unfolding lists_code rises clues_fit all range count_from
lists_ok g l = rw (one_room g l) refl

pub making : (h w : ℕ) → sizes_ok (grid h w) ≡ true → make_of Translates h w [] (no_clue ∷ []) ≡ answer 0 (open_puzzle h w)
making h w ok = rw (ok, lists_ok (grid h w) (limits (grid h w) ok)) refl

-- THE REPLIES
-- the number of a decide or an undo is that of the question that refuses it
answered_code : (p : Puzzle) (b : Book) (n : ℕ) → (answered p n b).code ≡ n
answered_code p b n = ⊎_elim (λ (e : n ≡ 0). rw e refl) (λ (e : n ≢ 0). rw (ne_eqb n 0 e) refl) (eq_or_ne n 0)

decide_reply : (t : Bool) → let k : ℕ = pick t 0 4 in (k ≡ 0) ⊎ (k ≡ 4)
decide_reply true = inl refl
decide_reply false = inr refl

undo_reply : (t : Bool) → let k : ℕ = pick t 5 0 in (k ≡ 0) ⊎ (k ≡ 5)
undo_reply true = inr refl
undo_reply false = inl refl

not_refused : (f : Option Found) (k : ℕ) → says 0 f ≡ Refused k → ⊥
not_refused none k e = let z : ◌≡◌ {A = ℕ} 0 1 = cc in absurd (omega arith)
not_refused (some f) k e = let z : ◌≡◌ {A = ℕ} 0 1 = cc in absurd (omega arith)

module _ (h w : ℕ) (ok : sizes_ok (grid h w) ≡ true) where
  abbrev Reaches : List (List Decision) → Puzzle → Type 0
  Reaches L p = Reached Translates h w [] (no_clue ∷ []) L p

  made : Accepted h w [] (no_clue ∷ [])
  made = accepted Translates h w [] (no_clue ∷ []) (ap (λ m. m.code) (making h w ok))

  module _ (L : List (List Decision)) (p : Puzzle) (r : Reaches L p) where
    holds : puzzle_code p ≡ 0
    holds = reached_code Translates h w [] (no_clue ∷ []) made L p r

    same_grid : grid_of p ≡ grid h w
    same_grid = ap grid_of r.constants

    same_kind : p.kind ≡ 0
    same_kind = ap (λ (x : Puzzle). x.kind) r.constants

    decide_number : (e : ℕ) (wall : Bool) → e < border_count (grid h w) → stroke_number p (single e wall) ≡ pick (eqb (state_at (book_of p).states e) 0) 0 4
    decide_number e wall l =
        first_passes (puzzle_code p) (stroke_code (border_count (grid_of p)) (state_at (book_of p).states) (single e wall)) holds
        ∙ single_code (border_count (grid_of p)) (state_at (book_of p).states) e wall ∙ rw (same_grid, lt-ltb e (border_count (grid h w)) l) refl

    undo_number_lem : undo_number p ≡ pick (eqb (book_of p).len 0) 5 0
    undo_number_lem = rw holds refl

    long : ask_room p.kind (grid_of p) ≤ length blank
    unfolding blank
    long = rw (same_kind, same_grid, translates_room (grid h w)) (omega (arith, cells_le (grid h w) (limits (grid h w) ok), length-replicate {A = ℕ} most_entries 0))

    reply : (c : Call) → BorderBelow (border_count (grid h w)) c → Replied c (reply_to p (as_call c))
    unfolding reply_to
    reply Undo b = rw (answered_code p (taken (book_of p)) (undo_number p), undo_number_lem) (undo_reply (eqb (book_of p).len 0))
    reply (Decide e wall) b =
        rw (answered_code p (placed (book_of p) (single e wall)) (stroke_number p (single e wall)), decide_number e wall b) (decide_reply (eqb (state_at (book_of p).states e) 0))
    reply Ask b =
        let a = accepted_ask p blank (long_buffer p (puzzle_code p) refl holds blank long) in
        λ k e. not_refused (fault_in p) k (sym (ap (λ (x : Asked). x.answer) a) ∙ e)

  replies_from : (L : List (List Decision)) (p : Puzzle) → Reaches L p → (cs : List Call) → ((c : Call) → In c cs → BorderBelow (border_count (grid h w)) c)
      → RepliedAll cs (replies p (map as_call cs))
  unfolding replies
  replies_from L p m [] b = tt
  replies_from L p m (c ∷ cs) b = (
    reply L p m c (b c (inl refl)),
    replies_from (ledger.ledger_after (border_count (grid h w)) (is_given []) L (on_ledger (as_call c))) (puzzle_after p (as_call c))
        (reached_after Translates h w [] (no_clue ∷ []) made L p m (as_call c)) cs (λ d k. b d (inr k)),
  )

  -- calls whose borders exist are refused by nothing but 4 and 5
  pub all_replied : (cs : List Call) → ((c : Call) → In c cs → BorderBelow (border_count (grid h w)) c)
      → RepliedAll cs (replies (open_puzzle h w) (map as_call cs))
  all_replied = replies_from [] (open_puzzle h w) (fresh_reached Translates h w [] (no_clue ∷ []) made)
