-- A board's run is its book's run, so the ledger's theorem is the board's: after every list of calls from a fresh board, accepted and refused ones,
-- the states are exactly the standing borders and the record holds together; and an undo gives back the board before an accepted stroke. Assumes nothing.
use Prim.Native.Nat.{ℕ, ◌<◌}
use mathlib.Core.Path.{◌≡◌, refl, ap, sym, ◌∙◌}
use mathlib.Core.List.{List, [], ◌∷◌}
use lib.ListN.{get_or}
use Rattle.grid.specs.declared.Grid.{Grid}
use Rattle.grid.specs.Grid.{Limits, border_count}
use Rattle.grid.proofs.Geometry.{border_count_le}
use Rattle.ledger.specs.declared.Book.{Book}
use Rattle.ledger.specs.Ledger.{Decision, Call, stroke, undo, ask, stroke_code, undo_code, standing, whole, ledger_after, ledger_of}
use Rattle.ledger.specs.Books.{zeros, fresh_book, none_given, state_at, placed, taken, book_after}
use Rattle.ledger.specs.Books as books
use Rattle.ledger.proofs.Reached.{Reached, reached_holds, reached_after, reached_lone, Around, told, told_back}
use Rattle.board.specs.declared.Board.{Board}
use Rattle.board.specs.declared.Decided.{Decided}
use Rattle.board.specs.Board.{fresh_board, answer, board_code, stroke_of, undo_of}
use Rattle.board.specs.Run.{board_after, run}
use Rattle.board.proofs.Laws.{ready_code}

module _ (g : Grid) (l : Limits g) where
  abbrev n : ℕ
  n = border_count g

  -- the ledger's laws, around a size
  abbrev law : Around Board Decided (border_count g) none_given
  law = record { around = λ k. record { grid = g; book = k }; code = board_code; answer = answer; ready = λ k h. ready_code g k (record { limits = l; holds = h }) }

  abbrev around : Book → Board
  around = law.around

  module _ (L : List (List Decision)) (k : Book) (r : Reached (border_count g) none_given L k) where
    pub reached_code : board_code (record { grid = g; book = k }) ≡ 0
    reached_code = law.ready k (reached_holds n none_given L k r)

    -- a call on the board is the same call on its book
    after : (c : Call) → board_after (around k) c ≡ around (book_after n k c)
    unfolding board_after book_after
    after (stroke ds) = ap (λ d. d.board) (told law L k r (stroke_code n (state_at k.states) ds) (placed k ds))
    after undo = ap (λ d. d.board) (told law L k r (undo_code k.len) (taken k))
    after ask = refl

  run_from : (L : List (List Decision)) (k : Book) → Reached n none_given L k → (cs : List Call) → run (around k) cs ≡ around (books.run n k cs)
  unfolding run books.run
  run_from L k r [] = refl
  run_from L k r (c ∷ cs) =
      ap (λ b. run b cs) (after L k r c) ∙ run_from (ledger_after n none_given L c) (book_after n k c) (reached_after n none_given L k r c) cs

  pub reached : (cs : List Call) → Reached (border_count g) none_given (ledger_of (border_count g) none_given [] cs) (books.run (border_count g) (fresh_book zeros) cs)
  reached = reached_lone n (border_count_le g l)

  -- after every list of calls the board is of its size, around the book of the same calls
  pub run_book : (cs : List Call) → run (fresh_board g) cs ≡ record { grid = g; book = books.run (border_count g) (fresh_book zeros) cs }
  unfolding ledger_of books.run
  run_book cs = run_from [] (fresh_book zeros) (reached []) cs

  -- said of the states and of question 2 alone
  pub states_stand : (cs : List Call) (e : ℕ) → e < border_count g
      → get_or (run (fresh_board g) cs).book.states e 0 ≡ standing none_given (whole (ledger_of (border_count g) none_given [] cs)) e
  states_stand cs e h = rw (run_book cs) ((reached cs).stands e h)

  pub run_holds : (cs : List Call) → board_code (run (fresh_board g) cs) ≡ 0
  run_holds cs = rw (run_book cs) (reached_code (ledger_of n none_given [] cs) (books.run n (fresh_book zeros) cs) (reached cs))

  -- an undo gives back the very board before an accepted stroke that is not empty, where calls have made it
  pub undo_board : (L : List (List Decision)) (k : Book) → Reached (border_count g) none_given L k → (d : Decision) (ds : List Decision)
      → (stroke_of (record { grid = g; book = k }) (d ∷ ds)).code ≡ 0 → undo_of (stroke_of (record { grid = g; book = k }) (d ∷ ds)).board ≡ answer 0 (record { grid = g; book = k })
  undo_board L k r d ds z =
      let e = told law L k r (stroke_code n (state_at k.states) (d ∷ ds)) (placed k (d ∷ ds)) in
      let q = sym (ap (λ x. x.code) e) ∙ z in
      ap (λ x. undo_of x.board) e ∙ rw q (told_back law L k r d ds q)
