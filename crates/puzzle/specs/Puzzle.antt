-- What a puzzle's making, stroke, decide, undo and ask answer (SPEC 1.7, 3, 4.15, 12 and 14.4). Assumes nothing.
use Rattle.std.specs.Prelude.{ℕ, zero, suc, Bool, List, map, eqb, leb, length, take, replicate}
use Rattle.std.proofs.Math.Option.{Option, none, some}
use Rattle.std.proofs.lemmas.List.Edits.{sets}
use Rattle.std.specs.Prelude as std
use Rattle.lists.specs.Choice.{both, pick}
use Rattle.answers.specs.declared.Refusal.{Refusal}
use Rattle.answers.specs.Refusals.{number_of}
use Rattle.puzzle.specs.declared.Fault as declared
use Rattle.lists.specs.Lists.{range}
use Rattle.grid.specs.declared.Grid.{Grid}
use Rattle.grid.specs.Grid.{grid, sizes_ok, border_count}
use Rattle.limits.specs.Limits.{most_borders, most_cells}
use Rattle.ledger.specs.declared.Book.{Book}
use Rattle.ledger.specs.Ledger.{Decision, single, stroke_code, undo_code, first_code}
use Rattle.ledger.specs.Books.{zeros, fresh_book, state_at, book_holds, placed, taken}
use Rattle.board.specs.declared.Board.{Board}
use Rattle.puzzle.specs.declared.Puzzle.{Puzzle}
use Rattle.puzzle.specs.declared.Made.{Made}
use Rattle.puzzle.specs.Answer.{Answer}
use Rattle.puzzle.specs.Answer.{Clear, Fault, Refused}
use Rattle.rooms.specs.Rooms.{is_given}
use Rattle.clues.specs.Clues.{lists_code}
use Rattle.puzzle.specs.declared.kind.Kind.{Kind}
use Rattle.puzzle.specs.Kind.{kind_number, images_of, ask_room}
use Rattle.puzzle.specs.Fault.{Found, fault_of}

-- MAKING
-- the states of the borders below n, where border e has the state s e
unfoldable pub states_of : ℕ → (ℕ → ℕ) → List ℕ
unfolding range
states_of n s = map s (range n)

-- given walls are Wall from the start (SPEC 1.7); all others are undecided
abbrev pub fresh_state : List ℕ → ℕ → ℕ
fresh_state given e = pick (is_given given e) 2 0

abbrev pub fresh_board : Grid → List ℕ → Board
fresh_board g given = record { grid = g; book = fresh_book (states_of most_borders (fresh_state given)) }

unfoldable pub no_clues : List ℕ
no_clues = replicate most_cells 0

abbrev pub fresh_puzzle : Kind → Grid → List ℕ → List ℕ → Puzzle
fresh_puzzle kind g given clues =
    record {
      board = fresh_board g given;
      given = sets zeros 0 given;
      given_len = length given;
      clues = sets no_clues 0 clues;
      clues_len = length clues;
      kind = kind_number kind;
    }

-- a record whose every number is 0 (SPEC 3)
abbrev pub zero_puzzle : Puzzle
zero_puzzle = record { board = record { grid = grid 0 0; book = fresh_book zeros }; given = zeros; given_len = 0; clues = no_clues; clues_len = 0; kind = 0 }

abbrev pub answer : ℕ → Puzzle → Made
answer n p = record { code = n; puzzle = p }

-- the number of the question that refuses a making, or 0
abbrev pub make_code : ℕ → ℕ → List ℕ → List ℕ → ℕ
make_code h w given clues = pick (sizes_ok (grid h w)) (lists_code (grid h w) given clues) 1

abbrev pub make_of : Kind → ℕ → ℕ → List ℕ → List ℕ → Made
make_of kind h w given clues = pick (eqb (make_code h w given clues) 0) (answer 0 (fresh_puzzle kind (grid h w) given clues)) (answer (make_code h w given clues) zero_puzzle)

-- what a making comes to as a record
abbrev pub made : std.Result Puzzle Refusal → Made
made (std.Ok p) = answer 0 p
made (std.Err refusal) = answer (number_of refusal) zero_puzzle

-- CALLS
abbrev pub grid_of : Puzzle → Grid
grid_of p = p.board.grid

abbrev pub book_of : Puzzle → Book
book_of p = p.board.book

abbrev pub borders_of : Puzzle → ℕ
borders_of p = border_count (grid_of p)

abbrev pub given_of : Puzzle → List ℕ
given_of p = take p.given_len p.given

abbrev pub clues_of : Puzzle → List ℕ
clues_of p = take p.clues_len p.clues

-- question 2: the arrays hold all walls and clues, there is a kind with this number (SPEC 14.4), questions 3, 7, 8 and 9 would be yes, and states and
-- ledger hold together (SPEC 3.2)
unfoldable pub together : Puzzle → Bool
unfolding lists_code book_holds is_given
together p =
    both
    (both (both (both (leb p.given_len most_borders) (leb p.clues_len most_cells)) (leb p.kind 1)) (eqb (lists_code (grid_of p) (given_of p) (clues_of p)) 0))
    (book_holds (borders_of p) (is_given (given_of p)) (book_of p))

-- the number of the question, 1 or 2, that refuses a puzzle, or 0
abbrev pub puzzle_code : Puzzle → ℕ
puzzle_code p = pick (sizes_ok (grid_of p)) (pick (together p) 0 2) 1

-- the same puzzle with another book
abbrev pub onto : Puzzle → Book → Puzzle
onto p b =
    record { board = record { grid = grid_of p; book = b }; given = p.given; given_len = p.given_len; clues = p.clues; clues_len = p.clues_len; kind = p.kind }

-- what a stroke or an undo returns: the changed puzzle, or the puzzle as it was with the number that refuses the call
abbrev pub answered : Puzzle → ℕ → Book → Made
answered p n b = pick (eqb n 0) (answer 0 (onto p b)) (answer n p)

-- questions 1, 2, 3, 14 and 4 (SPEC 3, 12.2): each border exists, none stands there twice, and all are undecided
abbrev pub stroke_number : Puzzle → List Decision → ℕ
stroke_number p ds = first_code (puzzle_code p) (stroke_code (borders_of p) (state_at (book_of p).states) ds)

abbrev pub stroke_of : Puzzle → List Decision → Made
stroke_of p ds = answered p (stroke_number p ds) (placed (book_of p) ds)

-- a single decide is a stroke of one (SPEC 12.1)
abbrev pub decide_of : Puzzle → ℕ → Bool → Made
decide_of p e wall = stroke_of p (single e wall)

-- questions 1, 2 and 5: the ledger names a border
abbrev pub undo_number : Puzzle → ℕ
undo_number p = first_code (puzzle_code p) (undo_code (book_of p).len)

abbrev pub undo_of : Puzzle → Made
undo_of p = answered p (undo_number p) (taken (book_of p))

-- ASKS
-- what an ask finds on the puzzle as it stands
abbrev pub fault_in : Puzzle → Option Found
fault_in p = fault_of (images_of p.kind) (grid_of p) (given_of p) (clues_of p) (book_of p).states

-- question 6 (SPEC 3.6, 14.5)
abbrev pub long_enough : ℕ → Grid → List ℕ → Bool
long_enough kind g buf = leb (ask_room kind g) (length buf)

-- the number of the question, 1, 2 or 6, that refuses an ask, or 0
abbrev pub ask_code : Puzzle → List ℕ → ℕ
ask_code p buf = pick (eqb (puzzle_code p) 0) (pick (long_enough p.kind (grid_of p) buf) 0 6) (puzzle_code p)

-- number and values (SPEC 3) for each case of the answer: 0 and nothing, 0 with the check and the list's length, or the refusal's number
abbrev pub says : ℕ → Option Found → Answer
says zero none = Clear
says zero (some f) = Fault f.check (length f.list)
says (suc n) f = Refused (suc n)

-- a list takes the first places, and the others stay (SPEC 3.15); else no byte changes (3.12)
abbrev pub writes : ℕ → Option Found → List ℕ → List ℕ
writes zero none buf = buf
writes zero (some f) buf = sets buf 0 f.list
writes (suc n) f buf = buf

-- what a call finds, and what it answers, as the case that std's words come to
abbrev pub told : Option Found → std.Option declared.Fault
told none = std.None
told (some f) = std.Some (record { check = f.check; len = length f.list })

abbrev pub answer_in : std.Result (std.Option declared.Fault) Refusal → Answer
answer_in (std.Ok std.None) = Clear
answer_in (std.Ok (std.Some f)) = Fault f.check f.len
answer_in (std.Err refusal) = Refused (number_of refusal)

pub record Asked : Type 0 where
  pub answer : Answer
  pub buffer : List ℕ

-- what an ask answers, and what the buffer that it is lent holds then
abbrev pub ask_of : Puzzle → List ℕ → Asked
ask_of p buf = record { answer = says (ask_code p buf) (fault_in p); buffer = writes (ask_code p buf) (fault_in p) buf }
