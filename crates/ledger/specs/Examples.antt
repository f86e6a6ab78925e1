-- Closed examples: books over a few borders, with the inputs on which another reading of SPEC 12 would answer otherwise. Assumes nothing.
use Rattle.std.specs.Prelude.{ℕ, ◌≡◌, refl, Bool, true, false, [], ◌∷◌, eqb}
use Rattle.lists.specs.Lists.{range, count_from, all, count}
use Rattle.ledger.specs.declared.Book.{Book}
use Rattle.ledger.specs.Ledger.{Call, stroke, undo, decisions, single, state_in, standing, whole, none_twice, stroke_code, undo_code, added, ledger_after, ledger_of, holds_of}
use Rattle.ledger.specs.Books.{book, none_given, state_at, names_from, state_all, clear_all, start_of, book_holds, book_after, run}

empty : Book
empty = book (0 ∷ 0 ∷ 0 ∷ []) (0 ∷ 0 ∷ 0 ∷ []) 0

abbrev decide : ℕ → Bool → Call
decide e wall = stroke (single e wall)

-- Wall 2, Connected 0, one by one: each name starts a stroke; a border again and one that is not there are refused
calls : run 3 empty (decide 2 true ∷ decide 0 false ∷ decide 2 false ∷ decide 3 true ∷ []) ≡ book (1 ∷ 0 ∷ 2 ∷ []) (5 ∷ 1 ∷ 0 ∷ []) 2
unfolding empty run book_after stroke_code none_twice all count state_all names_from
calls = refl

-- Wall 2 and Connected 0 as one stroke, then Connected 1: two strokes
strokes : run 3 empty (stroke (decisions (5 ∷ 0 ∷ [])) ∷ decide 1 false ∷ []) ≡ book (1 ∷ 1 ∷ 2 ∷ []) (5 ∷ 0 ∷ 3 ∷ []) 3
unfolding empty run book_after stroke_code none_twice all count state_all names_from
strokes = refl

-- one undo takes the last stroke back, two take all; a third is refused
back : (run 3 empty (stroke (decisions (2 ∷ [])) ∷ stroke (decisions (5 ∷ 0 ∷ [])) ∷ undo ∷ []) ≡ book (0 ∷ 1 ∷ 0 ∷ []) (3 ∷ 0 ∷ 0 ∷ []) 1)
    × (run 3 empty (stroke (decisions (2 ∷ [])) ∷ stroke (decisions (5 ∷ 0 ∷ [])) ∷ undo ∷ undo ∷ undo ∷ []) ≡ empty)
unfolding empty run book_after stroke_code none_twice all count state_all names_from clear_all start_of
back = (refl, refl)

-- an empty stroke is not kept: Wall 0, an empty stroke, an undo leave border 0 undecided; an undo after an empty stroke alone is refused
none_kept : (run 3 empty (decide 0 true ∷ stroke [] ∷ undo ∷ []) ≡ empty) × (run 3 empty (stroke [] ∷ undo ∷ []) ≡ empty)
    × (ledger_of 3 none_given [] (stroke [] ∷ []) ≡ []) × (undo_code 0 ≡ 5)
unfolding empty run book_after stroke_code none_twice all count state_all names_from clear_all start_of ledger_of ledger_after added whole standing state_in
none_kept = (refl, refl, refl, refl)

-- 1 by 2, whose one border is drawn: by question and not by entry, so 3 and not 4 where another border is missing; 14 and not 4 where it stands
-- twice, whatever the values; 4 where it stands once; an empty stroke is accepted. Undrawn: 3 and not 14
numbers : (stroke_code 1 (state_at (2 ∷ [])) (decisions (0 ∷ 2 ∷ [])) ≡ 3) × (stroke_code 1 (state_at (2 ∷ [])) (decisions (0 ∷ 0 ∷ [])) ≡ 14)
    × (stroke_code 1 (state_at (2 ∷ [])) (decisions (0 ∷ 1 ∷ [])) ≡ 14) × (stroke_code 1 (state_at (2 ∷ [])) (decisions (1 ∷ [])) ≡ 4)
    × (stroke_code 1 (state_at (2 ∷ [])) [] ≡ 0) × (stroke_code 1 (state_at (0 ∷ [])) (decisions (0 ∷ 0 ∷ 2 ∷ [])) ≡ 3)
unfolding stroke_code none_twice all count
numbers = (refl, refl, refl, refl, refl, refl)

-- a given wall in a stroke: 4; a border once as Wall and once as Connected: 14
given_wall_lem : (stroke_code 2 (standing (λ e. eqb e 1) []) (decisions (0 ∷ 2 ∷ [])) ≡ 4) × (stroke_code 2 (standing (λ e. eqb e 1) []) (decisions (0 ∷ 1 ∷ [])) ≡ 14)
unfolding stroke_code none_twice all count standing state_in
given_wall_lem = (refl, refl)

-- all of a stroke is taken or nothing: border 0 is drawn, so border 1 is not decided beside it
all_or_none : ledger_of 3 none_given [] (decide 0 true ∷ stroke (decisions (2 ∷ 0 ∷ [])) ∷ []) ≡ decisions (1 ∷ []) ∷ []
unfolding ledger_of ledger_after added whole standing state_in stroke_code none_twice all count
all_or_none = refl

-- question 2: a border named twice, one decided and unnamed, one named and undecided; a given wall is not named
together : (book_holds 2 none_given (book (1 ∷ 0 ∷ []) (1 ∷ 1 ∷ []) 2) ≡ false) × (book_holds 2 none_given (book (1 ∷ 2 ∷ []) (1 ∷ 0 ∷ []) 1) ≡ false)
    × (book_holds 2 none_given (book (1 ∷ 0 ∷ []) (1 ∷ 3 ∷ []) 2) ≡ false) × (book_holds 2 (λ e. eqb e 1) (book (1 ∷ 2 ∷ []) (1 ∷ 0 ∷ []) 1) ≡ true)
unfolding book_holds holds_of all count range count_from
together = (refl, refl, refl, refl)

-- a first name that starts no stroke is refused, whether there are two or one; two names are one stroke, or two
first_name : (book_holds 2 none_given (book (1 ∷ 2 ∷ []) (0 ∷ 3 ∷ []) 2) ≡ false) × (book_holds 2 none_given (book (1 ∷ 0 ∷ []) (0 ∷ 0 ∷ []) 1) ≡ false)
    × (book_holds 2 none_given (book (1 ∷ 2 ∷ []) (1 ∷ 2 ∷ []) 2) ≡ true) × (book_holds 2 none_given (book (1 ∷ 2 ∷ []) (1 ∷ 3 ∷ []) 2) ≡ true)
unfolding book_holds holds_of all count range count_from
first_name = (refl, refl, refl, refl)
