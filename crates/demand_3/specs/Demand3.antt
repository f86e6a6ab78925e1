-- Demand 3 (SPEC 6.4 to 6.10, 14.8), sentence by sentence: one claim about lists of decide, stroke, undo and ask calls, refused
-- ones included, from fresh puzzles of one kind. Assumes nothing.
use Rattle.std.specs.Prelude.{ℕ, ◌/◌, ◌%◌, ◌≤◌, ◌<◌, ◌≡◌, ◌↔◌, false, List, [], map, eqb, length, take}
use Rattle.std.proofs.Math.Option.{Option, none, some}
use Rattle.lists.specs.Lists.{In, count}
use Rattle.frame.specs.Frame.{States}
use Rattle.grid.specs.Grid.{grid, border_count}
use Rattle.ledger.specs.Ledger.{whole}
use Rattle.borders.specs.Entry.{Standing}
use Rattle.shape.specs.Laws.{FullBoard}
use Rattle.puzzle.specs.declared.Puzzle.{Puzzle}
use Rattle.puzzle.specs.declared.Check.{Check}
use Rattle.puzzle.specs.declared.kind.Kind.{Kind}
use Rattle.puzzle.specs.Kind.{kind_number, kind_images, ask_room}
use Rattle.puzzle.specs.Answer.{Answer}
use Rattle.puzzle.specs.Answer.{Clear, Fault, Refused}
use Rattle.rooms.specs.Rooms.{is_given}
use Rattle.puzzle.specs.Fault.{Found, fault_of}
use Rattle.demand_3.specs.Laws.{RightBoard}
use Rattle.puzzle.specs.Puzzle.{states_of, make_of, says, Asked, ask_of}
use Rattle.demand_3.specs.Run.{Call, decide, stroke, run, Reply, coded, replies, state_after}

-- the buffer is long enough for the kind (SPEC 3.6, 14.5)
abbrev pub Long : Kind → ℕ → ℕ → List ℕ → Type 0
Long kind h w buf = ask_room (kind_number kind) (grid h w) ≤ length buf

-- what an ask lists: as many of the buffer's first entries as its answer says
abbrev pub length_of : Answer → ℕ
length_of Clear = 0
length_of (Fault k n) = n
length_of (Refused n) = 0

abbrev pub list_of : Asked → List ℕ
list_of a = take (length_of a.answer) a.buffer

-- two asks answer alike (SPEC 4.16)
pub record Alike (x y : Asked) : Type 0 where
  pub answers : x.answer ≡ y.answer
  pub lists : list_of x ≡ list_of y

-- an accepted ask says what was found, and lists it
abbrev pub list_in : Option Found → List ℕ
list_in none = []
list_in (some f) = f.list

pub record Gives (x : Asked) (f : Option Found) : Type 0 where
  pub answer : x.answer ≡ says 0 f
  pub list : list_of x ≡ list_in f

abbrev pub IsFault : Answer → Type 0
IsFault a = (k : Check) × (n : ℕ) × (a ≡ Fault k n)

-- the listed borders other than given walls, each once, in some order (SPEC 6.9): their entries
pub record OrderOf (given L order : List ℕ) : Type 0 where
  pub once : (l : ℕ) → count l order ≤ 1
  pub listed : (l : ℕ) → In l order → In l L × (is_given given (l / 2) ≡ false)
  pub whole : (l : ℕ) → In l L → is_given given (l / 2) ≡ false → In l order

-- the decide call of an entry
abbrev pub decide_as : ℕ → Call
decide_as l = decide (l / 2) (eqb (l % 2) 1)

-- the fresh puzzle, and the puzzle after a list of calls (SPEC 6.4)
abbrev pub fresh_of : Kind → ℕ → ℕ → List ℕ → List ℕ → Puzzle
fresh_of kind h w given clues = (make_of kind h w given clues).puzzle

abbrev pub after : Kind → ℕ → ℕ → List ℕ → List ℕ → List Call → Puzzle
after kind h w given clues calls = run (fresh_of kind h w given clues) calls

-- on a fresh puzzle each of the calls is accepted, and the next ask is a fault
pub record AgainBy (kind : Kind) (h w : ℕ) (given clues : List ℕ) (calls : List Call) : Type 0 where
  pub accepted : (r : Reply) → In r (replies (fresh_of kind h w given clues) calls) → r ≡ coded 0
  pub fault : (buf : List ℕ) → Long kind h w buf → IsFault (ask_of (after kind h w given clues calls) buf).answer

-- THE DEMAND, for puzzles of that kind and size with these given walls and clues
pub record Demand3 (kind : Kind) (h w : ℕ) (given clues : List ℕ) : Type 0 where
  -- SPEC 6.5: after two lists that leave the same borders standing, the next ask answers alike.
  pub same : (a b : List Call) → ((e : ℕ) → e < border_count (grid h w) → state_after h w given a e ≡ state_after h w given b e)
      → (buf_a buf_b : List ℕ) → Long kind h w buf_a → Long kind h w buf_b → Alike (ask_of (after kind h w given clues a) buf_a) (ask_of (after kind h w given clues b) buf_b)
  -- SPEC 6.6: its answer and list are exactly what the shape check and the room counts give on the standing borders.
  pub exact : (calls : List Call) (buf : List ℕ) → Long kind h w buf
      → Gives (ask_of (after kind h w given clues calls) buf) (fault_of (kind_images kind) (grid h w) given clues (states_of (border_count (grid h w)) (state_after h w given calls)))
  -- SPEC 6.7: each border of a fault's list stands as listed.
  pub listed : (calls : List Call) (buf : List ℕ) → Long kind h w buf → IsFault (ask_of (after kind h w given clues calls) buf).answer
      → Standing (state_after h w given calls) (list_of (ask_of (after kind h w given clues calls) buf))
  -- SPEC 6.8: no full board on which the list stands is right. (That given walls are Wall is one of the laws.)
  pub excludes : (calls : List Call) (buf : List ℕ) → Long kind h w buf → IsFault (ask_of (after kind h w given clues calls) buf).answer
      → (s : States) → FullBoard (grid h w) s → Standing s (list_of (ask_of (after kind h w given clues calls) buf)) → RightBoard (kind_images kind) (grid h w) given clues s → ⊥
  -- SPEC 6.9: decided on a fresh puzzle, each once, in any order, the listed borders other than given walls make the next ask a fault.
  -- Each of these decides is accepted.
  pub again : (calls : List Call) (buf : List ℕ) → Long kind h w buf → IsFault (ask_of (after kind h w given clues calls) buf).answer
      → (order : List ℕ) → OrderOf given (list_of (ask_of (after kind h w given clues calls) buf)) order → AgainBy kind h w given clues (map decide_as order)
  -- SPEC 12.6: and so does every cutting of that order into strokes, empty ones among them.
  pub again_cut : (calls : List Call) (buf : List ℕ) → Long kind h w buf → IsFault (ask_of (after kind h w given clues calls) buf).answer
      → (parts : List (List ℕ)) → OrderOf given (list_of (ask_of (after kind h w given clues calls) buf)) (whole parts) → AgainBy kind h w given clues (map stroke parts)
  -- SPEC 6.10: on a full board the answer is clear exactly when the board is right.
  pub full : (calls : List Call) → FullBoard (grid h w) (state_after h w given calls) → (buf : List ℕ) → Long kind h w buf
      → ((ask_of (after kind h w given clues calls) buf).answer ≡ Clear) ↔ RightBoard (kind_images kind) (grid h w) given clues (state_after h w given calls)
