-- What a book's methods ask, and what they leave (SPEC 1.5, 12). Assumes nothing.
use Rattle.std.specs.Prelude.{ℕ, ◌≤◌, ◌≡◌, Bool, true, List, eqb, length, get_or}
use Rattle.limits.specs.Limits.{most_borders}
use Rattle.lists.specs.Choice.{pick}
use Rattle.ledger.specs.declared.Book.{Book}
use Rattle.ledger.specs.Books.{book_holds}

-- marks of n borders: 1 at each given wall, and 0 elsewhere
pub record GivenMarks (n : ℕ) (m : List ℕ) : Type 0 where
  pub marks_long : n ≤ length m
  pub marks_given : (e : ℕ) → get_or m e 0 ≤ 1
  pub few : n ≤ most_borders

-- a book over n borders that question 2 accepts
pub record Held (n : ℕ) (b : Book) : Type 0 where
  pub few : n ≤ most_borders
  pub given : ℕ → Bool
  pub holds : book_holds n given b ≡ true

-- the same, over some borders
pub record HeldBook (b : Book) : Type 0 where
  pub n : ℕ
  pub held : Held n b

-- the book that a call leaves: as it was where a number refuses the call (SPEC 3.12), and changed where none does
abbrev pub left : ℕ → Book → Book → Book
left c b k = pick (eqb c 0) k b
