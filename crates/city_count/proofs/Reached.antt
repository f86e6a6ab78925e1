-- A room graph's run is its book's run, so the ledger's theorem is the graph's: after every list of calls, accepted and refused ones, exactly the
-- ledger's decisions stand and the record holds together; and an undo gives back the record before an accepted stroke. Assumes nothing.
use Prim.Native.Nat.{ℕ}
use mathlib.Core.Path.{◌≡◌, refl, ap, sym, ◌∙◌}
use mathlib.Core.List.{List, [], ◌∷◌}
use Rattle.ledger.specs.declared.Book.{Book}
use Rattle.ledger.specs.Ledger.{Decision, Call, stroke, undo, ask, stroke_code, undo_code, ledger_after, ledger_of}
use Rattle.ledger.specs.Books.{zeros, fresh_book, none_given, state_at, placed, taken, book_after}
use Rattle.ledger.specs.Books as books
use Rattle.ledger.proofs.Reached.{Reached, reached_holds, reached_after, reached_lone, Around, told, told_back}
use Rattle.city_count.specs.declared.CityCountConstraint.{CityCountConstraint}
use Rattle.city_count.specs.declared.Decided.{Decided}
use Rattle.city_count.specs.Room.{room_of, fresh_room, room_code, answer, stroke_of, undo_of}
use Rattle.city_count.specs.Run.{room_after, run}
use Rattle.city_count.proofs.RoomLaws.{Fits, ready_code}

module _ (n m : ℕ) (us vs : List ℕ) (count : ℕ) (fits : Fits n m us vs) where
  -- the ledger's laws, around a graph and a count
  abbrev law : Around CityCountConstraint Decided m none_given
  law = record { around = room_of n m us vs count; code = room_code; answer = answer; ready = λ b h. ready_code n m us vs b (record { fits = fits; holds = h }) }

  abbrev around : Book → CityCountConstraint
  around = law.around

  module _ (L : List (List Decision)) (b : Book) (r : Reached m none_given L b) where
    pub reached_code : room_code (room_of n m us vs count b) ≡ 0
    reached_code = law.ready b (reached_holds m none_given L b r)

    -- a call on the record is the same call on its book
    after : (c : Call) → room_after (around b) c ≡ around (book_after m b c)
    unfolding room_after book_after
    after (stroke ds) = ap (λ d. d.room) (told law L b r (stroke_code m (state_at b.states) ds) (placed b ds))
    after undo = ap (λ d. d.room) (told law L b r (undo_code b.len) (taken b))
    after ask = refl

  run_from : (L : List (List Decision)) (b : Book) → Reached m none_given L b → (cs : List Call) → run (around b) cs ≡ around (books.run m b cs)
  unfolding run books.run
  run_from L b r [] = refl
  run_from L b r (c ∷ cs) =
      ap (λ x. run x cs) (after L b r c) ∙ run_from (ledger_after m none_given L c) (book_after m b c) (reached_after m none_given L b r c) cs

  pub reached : (cs : List Call) → Reached m none_given (ledger_of m none_given [] cs) (books.run m (fresh_book zeros) cs)
  reached = reached_lone m fits.few_edges

  -- after every list of calls the record is the making's, around the book of the same calls
  pub run_book : (cs : List Call) → run (fresh_room n m us vs count) cs ≡ room_of n m us vs count (books.run m (fresh_book zeros) cs)
  unfolding ledger_of books.run
  run_book cs = run_from [] (fresh_book zeros) (reached []) cs

  -- an undo gives back the very record before an accepted stroke that is not empty, where calls have made it
  pub undo_room : (L : List (List Decision)) (b : Book) → Reached m none_given L b → (d : Decision) (ds : List Decision)
      → (stroke_of (room_of n m us vs count b) (d ∷ ds)).code ≡ 0 → undo_of (stroke_of (room_of n m us vs count b) (d ∷ ds)).room ≡ answer 0 (room_of n m us vs count b)
  undo_room L b r d ds z =
      let e = told law L b r (stroke_code m (state_at b.states) (d ∷ ds)) (placed b (d ∷ ds)) in
      let q = sym (ap (λ x. x.code) e) ∙ z in
      ap (λ x. undo_of x.room) e ∙ rw q (told_back law L b r d ds q)
