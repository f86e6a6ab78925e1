-- What a case file's puzzle is, and the line that each of its calls prints (SPEC 5.4, 5.5) in the run of demand 3 (6.4). Assumes nothing.
use Rattle.std.specs.Prelude.{ℕ, zero, suc, ◌+◌, ◌*◌, ◌≤◌, ◌≡◌, List, [], ◌∷◌, ◌++◌, map, eqb, leb, length, take, replicate}
use Rattle.std.specs.Prelude.{Result, Ok, Err}
use Rattle.std.proofs.Math.Option.{Option, none, some}
use Rattle.answers.specs.declared.Refusal.{Refusal}
use Rattle.answers.specs.Refusals.{number_of}
use Rattle.limits.specs.Limits.{most_entries, most_image_entries, longest_line}
use Rattle.lists.specs.Choice.{pick}
use Rattle.hand_over.specs.Sorted.{sorted_once}
use Rattle.case_file.specs.declared.Call.{Call}
use Rattle.case_file.specs.declared.Call.TheVariants.{Undo, Decide, Ask}
use Rattle.case_file.specs.Sound.{Case, call_of}
use Rattle.case_file.specs.Layout.{size_of, layout_of}
use Rattle.lines.specs.declared.Line.{Line}
use Rattle.lines.specs.declared.Line.TheVariants as line
use Rattle.lines.specs.Line.{line_of}
use Rattle.puzzle.specs.declared.Puzzle.{Puzzle}
use Rattle.puzzle.specs.declared.Made.{Made}
use Rattle.puzzle.specs.declared.kind.Kind.TheVariants.{Translates}
use Rattle.puzzle.specs.declared.Check.{Check}
use Rattle.puzzle.specs.declared.Check.TheVariants.{Shape, Room}
use Rattle.puzzle.specs.Answer.{Answer}
use Rattle.puzzle.specs.Answer.{Clear, Fault, Refused}
use Rattle.puzzle.specs.Kind.{ask_room}
use Rattle.puzzle.specs.Puzzle.{grid_of, zero_puzzle, make_of, puzzle_code}
use Rattle.demand_3.specs.Run as puzzle
use Rattle.demand_3.specs.Run.{puzzle_after, run, Reply, coded, asked, reply_to, replies}
use Rattle.case_run.specs.declared.Remaining.{Remaining}
use Rattle.case_run.specs.declared.Progress.{Progress}
use Rattle.case_run.specs.declared.Opened.{Opened}
use Rattle.case_run.specs.declared.Ran.{Ran}

-- THE PUZZLE of a file
abbrev pub opened : ℕ → Puzzle → ℕ → ℕ → Opened
opened code p at count = record { code = code; puzzle = p; at = at; count = count }

-- a refused making leaves zeros (SPEC 3.13)
abbrev pub opened_as : Made → ℕ → ℕ → Opened
opened_as m at count = pick (eqb m.code 0) (opened 0 m.puzzle at count) (opened m.code m.puzzle 0 0)

-- question 11 comes first (SPEC 3.11); else the making, of translates (SPEC 14.4), of the file's size, given walls and clues, and where its calls stand
abbrev pub opened_of : Option Case → Opened
opened_of none = opened 11 zero_puzzle 0 0
opened_of (some f) = opened_as (make_of Translates f.height f.width f.walls f.clues) (layout_of f).calls.at (length f.calls)

-- what `open` answers
abbrev pub opened_in : Result Remaining Refusal → Opened
opened_in (Ok r) = opened 0 r.puzzle r.at r.count
opened_in (Err e) = opened (number_of e) zero_puzzle 0 0

-- THE CALLS of a file, as calls of demand 3's run: an ask is lent 16,384 zeros, as many as the largest board of either kind needs
unfoldable pub blank : List ℕ
blank = replicate most_image_entries 0

abbrev pub as_call : Call → puzzle.Call
as_call Undo = puzzle.undo
as_call (Decide e wall) = puzzle.decide e wall
as_call Ask = puzzle.ask blank

-- the calls that stand at the front of bytes: n of them, or as many as there are before one that is unsound
abbrev pub headed : Option (Call × List ℕ) → (List ℕ → List Call) → List Call
headed none others = []
headed (some c) others = c.0 ∷ others c.1

unfoldable pub calls_in : ℕ → List ℕ → List Call
unfolding call_of
calls_in zero bs = []
calls_in (suc n) bs = headed (call_of bs) (λ r. calls_in n r)

-- their bytes
unfoldable pub bytes_of : List Call → ℕ
bytes_of [] = 0
bytes_of (c ∷ cs) = size_of c + bytes_of cs

-- THE LINES (SPEC 5.4): `decided`, `undone`, `clear`
abbrev pub well_line : Call → Line
well_line Undo = line.Undone
well_line (Decide e wall) = line.Decided
well_line Ask = line.Clear

-- `shape:` or `room 4:`
abbrev pub check_line : Check → Line
check_line Shape = line.Shape
check_line (Room r) = line.Room r

-- the line of a decide or an undo by its number, 0 or that of `refused 4`
abbrev pub code_line : Line → ℕ → List ℕ
code_line well zero = line_of well []
code_line well (suc n) = line_of (line.Refused (suc n)) []

-- the line of an ask by its answer and the buffer that it left
abbrev pub ask_line : Line → Answer → List ℕ → List ℕ
ask_line well Clear buf = line_of well []
ask_line well (Fault k n) buf = line_of (check_line k) (sorted_once (take n buf))
ask_line well (Refused n) buf = line_of (line.Refused n) []

abbrev pub reply_line : Line → Reply → List ℕ
reply_line well (coded n) = code_line well n
reply_line well (asked a) = ask_line well a.answer a.buffer

-- one line a call (SPEC 5.4), by what the run replies to it
unfoldable pub lines_of : List Call → List Reply → List ℕ
lines_of [] rs = []
lines_of (c ∷ cs) [] = []
lines_of (c ∷ cs) (r ∷ rs) = reply_line (well_line c) r ++ lines_of cs rs

-- THE RUN of calls on a puzzle
abbrev pub run_of : Puzzle → List Call → Puzzle
run_of p cs = run p (map as_call cs)

abbrev pub printed_by : Puzzle → List Call → List ℕ
printed_by p cs = lines_of cs (replies p (map as_call cs))

-- one call
abbrev pub line_by : Puzzle → Call → List ℕ
line_by p c = reply_line (well_line c) (reply_to p (as_call c))

-- an ask that questions 1 and 2 accept finds places enough (SPEC 3.6, 14.5)
abbrev pub Enough : Puzzle → ℕ → Type 0
Enough p places = puzzle_code p ≡ 0 → ask_room p.kind (grid_of p) ≤ places

-- what an ask's line is told by: the line, and how many entries at the list's front it has, no more than the longest line
pub record Tells (line : Line) (n : ℕ) (list l : List ℕ) : Type 0 where
  pub within : n ≤ length list
  pub few : n ≤ most_entries
  pub bytes : line_of line (take n list) ≡ l

-- what is answered of a call: what it leaves of the puzzle p, how many bytes its line has, and that they are no more than that
pub record Turned (r : ℕ) (after p : Puzzle) (c : Call) : Type 0 where
  pub turned : after ≡ puzzle_after p (as_call c)
  pub count : r ≡ length (line_by p c)
  pub fits : r ≤ longest_line

-- the calls that a run with a buffer of so many places does: all, or none where some line may not fit
abbrev pub done_in : ℕ → List ℕ → ℕ → List Call
done_in count bs room = pick (leb (longest_line * count) room) (calls_in count bs) []

-- which is refused (SPEC 3.6)
abbrev pub code_in : ℕ → ℕ → ℕ
code_in count room = pick (leb (longest_line * count) room) 0 6

-- the puzzle after the calls, the byte behind them, how many were done, and how many bytes their lines have
abbrev pub ran_of : ℕ → Puzzle → ℕ → List Call → Ran
ran_of code p at cs = record { code = code; puzzle = run_of p cs; at = at + bytes_of cs; done = length cs; len = length (printed_by p cs) }

-- what `run_calls` answers, by the byte at which it began and the puzzle that it left
abbrev pub ran_in : Result Progress Refusal → ℕ → Puzzle → Ran
ran_in (Ok r) at p = record { code = 0; puzzle = p; at = r.at; done = r.done; len = r.len }
ran_in (Err e) at p = record { code = number_of e; puzzle = p; at = at; done = 0; len = 0 }

abbrev pub length_in : Result Progress Refusal → ℕ
length_in (Ok r) = r.len
length_in (Err e) = 0
