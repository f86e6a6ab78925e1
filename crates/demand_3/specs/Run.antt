-- Lists of calls: what each answers, what it leaves, and the standing borders (SPEC 1.5 to 1.7, 12). Assumes nothing.
use Rattle.std.specs.Prelude.{ℕ, Bool, List, [], ◌∷◌, map}
use Rattle.grid.specs.Grid.{grid, border_count}
use Rattle.ledger.specs.Ledger as ledger
use Rattle.ledger.specs.Ledger.{Decision, decisions, single, ledger_of, standing, whole}
use Rattle.puzzle.specs.declared.Puzzle.{Puzzle}
use Rattle.rooms.specs.Rooms.{is_given}
use Rattle.puzzle.specs.Puzzle.{Asked, stroke_of, decide_of, undo_of, ask_of}

-- a call with its arguments, a stroke with its entries, an ask with the buffer that it is lent: any border, any list, any buffer
pub data Call : Type 0 where
  decide : ℕ → Bool → Call
  stroke : List ℕ → Call
  undo : Call
  ask : List ℕ → Call

-- THE RUN
-- the puzzle that a call returns or leaves
unfoldable pub puzzle_after : Puzzle → Call → Puzzle
puzzle_after p (decide e wall) = (decide_of p e wall).puzzle
puzzle_after p (stroke entries) = (stroke_of p (decisions entries)).puzzle
puzzle_after p undo = (undo_of p).puzzle
puzzle_after p (ask buf) = p

-- each call gets the puzzle that the one before it returned or left (SPEC 6.4)
unfoldable pub run : Puzzle → List Call → Puzzle
unfolding puzzle_after
run p [] = p
run p (c ∷ cs) = run (puzzle_after p c) cs

-- what a call answers: the question's number (SPEC 3) for a decide, a stroke or an undo, 0 where it is accepted
pub data Reply : Type 0 where
  coded : ℕ → Reply
  asked : Asked → Reply

unfoldable pub reply_to : Puzzle → Call → Reply
reply_to p (decide e wall) = coded (decide_of p e wall).code
reply_to p (stroke entries) = coded (stroke_of p (decisions entries)).code
reply_to p undo = coded (undo_of p).code
reply_to p (ask buf) = asked (ask_of p buf)

unfoldable pub replies : Puzzle → List Call → List Reply
unfolding puzzle_after reply_to
replies p [] = []
replies p (c ∷ cs) = reply_to p c ∷ replies (puzzle_after p c) cs

-- THE LEDGER, a list of strokes, by the arguments of the making and the calls alone (SPEC 1.5): a decide is a stroke of one
abbrev pub on_ledger : Call → ledger.Call
on_ledger (decide e wall) = ledger.stroke (single e wall)
on_ledger (stroke entries) = ledger.stroke (decisions entries)
on_ledger undo = ledger.undo
on_ledger (ask buf) = ledger.ask

abbrev pub ledger_after : ℕ → ℕ → List ℕ → List Call → List (List Decision)
ledger_after h w given calls = ledger_of (border_count (grid h w)) (is_given given) [] (map on_ledger calls)

-- the state of each border that stands after the calls
abbrev pub state_after : ℕ → ℕ → List ℕ → List Call → ℕ → ℕ
state_after h w given calls = standing (is_given given) (whole (ledger_after h w given calls))
