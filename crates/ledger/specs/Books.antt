-- What a record keeps of its ledger over n borders of which some are given walls (SPEC 12.5), and how an accepted stroke or undo changes it.
-- Assumes nothing.
use Rattle.std.specs.Prelude.{ℕ, zero, suc, ◌+◌, ◌-◌, ◌*◌, ◌/◌, ◌%◌, Bool, false, List, [], ◌∷◌, map, eqb, leb, length, get_or, set, take, drop, replicate}
use Rattle.std.proofs.lemmas.List.Edits.{sets}
use Rattle.limits.specs.Limits.{most_borders}
use Rattle.lists.specs.Choice.{both, either, pick}
use Rattle.ledger.specs.declared.Book.{Book}
use Rattle.ledger.specs.Ledger.{Decision, Call, stroke, undo, ask, state_for, stroke_code, undo_code, holds_of}

-- the places of an array, all free
unfoldable pub zeros : List ℕ
zeros = replicate most_borders 0

abbrev pub book : List ℕ → List ℕ → ℕ → Book
book s l len = record { states = s; names = l; len = len }

-- a book without a decision: a making puts the given walls into the states
abbrev pub fresh_book : List ℕ → Book
fresh_book s = book s zeros 0

-- no border is given: lone boards and room graphs
abbrev pub none_given : ℕ → Bool
none_given e = false

-- a name is twice its border, and one more where a stroke starts with it (SPEC 12.5)
abbrev pub half : ℕ → ℕ
half x = x / 2

abbrev pub starts : List ℕ → ℕ → Bool
starts l i = eqb (get_or l i 0 % 2) 1

-- the name of a border at place i of its stroke
abbrev pub name_of : ℕ → ℕ → ℕ
name_of e i = 2 * e + pick (eqb i 0) 1 0

-- the names of a stroke's borders from its place i on, and of a whole stroke's
unfoldable pub names_from : ℕ → List Decision → List ℕ
names_from i [] = []
names_from i (d ∷ ds) = name_of d.border i ∷ names_from (i + 1) ds

abbrev pub names_of : List Decision → List ℕ
names_of ds = names_from 0 ds

-- the borders of the first len names, in order
abbrev pub borders_in : List ℕ → ℕ → List ℕ
borders_in l len = map half (take len l)

-- the borders that the ledger names
abbrev pub names_in : Book → List ℕ
names_in b = borders_in b.names b.len

-- the state of each border
abbrev pub state_at : List ℕ → ℕ → ℕ
state_at s e = get_or s e 0

-- the first name starts a stroke, where there is one
abbrev pub first_starts : List ℕ → ℕ → Bool
first_starts l len = either (eqb len 0) (starts l 0)

-- question 2 of a book over n borders (SPEC 3.2, 12.5): it has no more names than there are borders, the first starts a stroke, and states and names
-- belong together
unfoldable pub book_holds : ℕ → (ℕ → Bool) → Book → Bool
unfolding holds_of
book_holds n given b = both (leb b.len n) (both (first_starts b.names b.len) (holds_of n given b.states (names_in b)))

-- the borders of a stroke get their values
unfoldable pub state_all : List ℕ → List Decision → List ℕ
state_all s [] = s
state_all s (d ∷ ds) = state_all (set s d.border (state_for d.wall)) ds

-- the borders are undecided again
unfoldable pub clear_all : List ℕ → List ℕ → List ℕ
clear_all s [] = s
clear_all s (e ∷ l) = clear_all (set s e 0) l

-- the stroke stands at the ledger's end; an empty one changes nothing
abbrev pub placed : Book → List Decision → Book
placed b ds = book (state_all b.states ds) (sets b.names b.len (names_of ds)) (b.len + length ds)

-- where the last stroke of the first k names starts
unfoldable pub start_of : List ℕ → ℕ → ℕ
start_of l zero = 0
start_of l (suc k) = pick (starts l k) k (start_of l k)

-- the borders named from place `from` on are undecided again, and their places free
abbrev pub taken_from : Book → ℕ → Book
taken_from b from = book (clear_all b.states (drop from (names_in b))) (sets b.names from (replicate (b.len - from) 0)) from

-- the whole last stroke is taken back (SPEC 12.4)
abbrev pub taken : Book → Book
taken b = taken_from b (start_of b.names b.len)

-- the book after a call: what is refused, and an ask, leave it as it was
unfoldable pub book_after : ℕ → Book → Call → Book
unfolding stroke_code
book_after n b (stroke ds) = pick (eqb (stroke_code n (state_at b.states) ds) 0) (placed b ds) b
book_after n b undo = pick (eqb (undo_code b.len) 0) (taken b) b
book_after n b ask = b

unfoldable pub run : ℕ → Book → List Call → Book
unfolding book_after
run n b [] = b
run n b (c ∷ cs) = run n (book_after n b c) cs
