-- The test of question 2 by marks: 1 for a given wall, 2 for a border that the ledger names; and what the ledger's functions ask of what they are lent.
-- Assumes nothing.
use Rattle.std.specs.Prelude.{ℕ, ◌/◌, ◌≤◌, ◌<◌, ◌≡◌, Bool, true, false, List, [], ◌∷◌, eqb, leb, length, get_or, set}
use Rattle.limits.specs.Limits.{most_borders}
use Rattle.lists.specs.Choice.{pick, either}
use Rattle.lists.specs.Lists.{range, all}
use Rattle.ledger.specs.Ledger.{decision_of}
use Rattle.ledger.specs.Books.{half}

abbrev pub given_in : List ℕ → ℕ → Bool
given_in m e = eqb (get_or m e 0) 1

-- a state goes with a mark
abbrev pub fits_of : ℕ → ℕ → Bool
fits_of s m = pick (eqb m 0) (eqb s 0) (pick (eqb m 1) (eqb s 2) (either (eqb s 1) (eqb s 2)))

-- each name is a border, and none is marked when it is come to
unfoldable pub new_names : ℕ → List ℕ → List ℕ → Bool
new_names n m [] = true
new_names n m (e ∷ l) = pick (leb n e) false (pick (eqb (get_or m e 0) 0) (new_names n (set m e 2) l) false)

unfoldable pub mark_all : List ℕ → List ℕ → List ℕ
mark_all m [] = m
mark_all m (e ∷ l) = mark_all (set m e 2) l

unfoldable pub fit_all : ℕ → List ℕ → List ℕ → Bool
unfolding all range
fit_all n s m = all (λ e. fits_of (get_or s e 0) (get_or m e 0)) (range n)

-- what a walk over the names leaves
pub record Marked (n : ℕ) (m l : List ℕ) (r : Bool) (m' : List ℕ) : Type 0 where
  pub answer : r ≡ new_names n m l
  pub marks : r ≡ true → m' ≡ mark_all m l

-- a book's slices are long enough, and the marks are those of given walls
pub record LentBook (n : ℕ) (s l m : List ℕ) : Type 0 where
  pub states_long : n ≤ length s
  pub names_long : n ≤ length l
  pub marks_long : n ≤ length m
  pub marks_given : (e : ℕ) → get_or m e 0 ≤ 1
  pub few : n ≤ most_borders

-- the names from `from` up to `len` are there, and each names a border that has a place
pub record Named (l : List ℕ) (from len : ℕ) : Type 0 where
  pub in_turn : from ≤ len
  pub long : len ≤ length l
  pub places : (i : ℕ) → i < len → half (get_or l i 0) < most_borders

-- x is the entry of a border and its value; where no record has the border, x names none that a record has
pub record Entry (e : ℕ) (wall : Bool) (x : ℕ) : Type 0 where
  pub below : e < most_borders → decision_of x ≡ record { border = e; wall = wall }
  pub above : most_borders ≤ e → most_borders ≤ x / 2
