-- What a board's calls answer (SPEC 1.1 to 1.6, 3.1 to 3.5, 12): the ledger's answers, around a size. Assumes nothing.
use Rattle.std.specs.Prelude.{ℕ, Bool, List, eqb, Result, Ok, Err}
use Rattle.lists.specs.Choice.{pick}
use Rattle.answers.specs.declared.Refusal.{Refusal}
use Rattle.answers.specs.Refusals.{number_of}
use Rattle.grid.specs.declared.Grid.{Grid}
use Rattle.grid.specs.Grid.{grid, sizes_ok, border_count}
use Rattle.ledger.specs.declared.Book.{Book}
use Rattle.ledger.specs.Ledger.{Decision, single, stroke_code, undo_code, first_code}
use Rattle.ledger.specs.Books.{zeros, fresh_book, none_given, state_at, book_holds, placed, taken}
use Rattle.board.specs.declared.Board.{Board}
use Rattle.board.specs.declared.Decided.{Decided}

-- a board of this size whose borders are all undecided
abbrev pub fresh_board : Grid → Board
fresh_board g = record { grid = g; book = fresh_book zeros }

-- a record in which every number is 0
abbrev pub zero_board : Board
zero_board = fresh_board (grid 0 0)

abbrev pub answer : ℕ → Board → Decided
answer n b = record { code = n; board = b }

abbrev pub size_of : Board → Grid
size_of b = b.grid

abbrev pub borders_of : Board → ℕ
borders_of b = border_count b.grid

-- the number of the question, 1 or 2, that refuses a board of these parts, or 0: no border of a lone board is given
abbrev pub check_of : Grid → Book → ℕ
check_of g k = pick (sizes_ok g) (pick (book_holds (border_count g) none_given k) 0 2) 1

abbrev pub board_code : Board → ℕ
board_code b = check_of b.grid b.book

-- a refused making returns zeros
abbrev pub make_of : ℕ → ℕ → Decided
make_of h w = pick (sizes_ok (grid h w)) (answer 0 (fresh_board (grid h w))) (answer 1 zero_board)

-- what a making comes to as a record
abbrev pub made : Result Board Refusal → Decided
made (Ok b) = answer 0 b
made (Err refusal) = answer (number_of refusal) zero_board

-- the board with another book
abbrev pub onto : Board → Book → Board
onto b k = record { grid = b.grid; book = k }

-- a number refuses, and the board is as it came in; or its book is changed
abbrev pub answered : ℕ → Board → Book → Decided
answered n b k = pick (eqb n 0) (answer 0 (onto b k)) (answer n b)

abbrev pub stroke_of : Board → List Decision → Decided
stroke_of b ds = answered (first_code (board_code b) (stroke_code (borders_of b) (state_at b.book.states) ds)) b (placed b.book ds)

-- a single decide is a stroke of one (SPEC 12.1)
abbrev pub decide_of : Board → ℕ → Bool → Decided
decide_of b e wall = stroke_of b (single e wall)

abbrev pub undo_of : Board → Decided
undo_of b = answered (first_code (board_code b) (undo_code b.book.len)) b (taken b.book)
