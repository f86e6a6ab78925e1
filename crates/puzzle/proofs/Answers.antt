-- Two questions in their order, a decide by its entry, and an ask that is not refused. Assumes nothing.
use Prim.Native.Nat.{ℕ, ◌≤◌}
use mathlib.Core.Path.{◌≡◌, refl}
use mathlib.Core.Bool.{Bool, true, false}
use mathlib.Core.List.{List, [], ◌∷◌}
use mathlib.Core.Option.{Option}
use borrow.Author.Tests.{eqb-true, ne_eqb, le-leb}
use lib.Dec.{eqb}
use lib.ListN.{length}
use Rattle.lists.specs.Choice.{pick}
use Rattle.grid.proofs.Geometry.{border_count_le}
use Rattle.ledger.specs.Ledger.{decisions, first_code}
use Rattle.ledger.specs.Marks.{Entry}
use Rattle.ledger.proofs.Codes.{as_decide}
use Rattle.puzzle.specs.declared.Puzzle.{Puzzle}
use Rattle.puzzle.specs.Kind.{ask_room}
use Rattle.puzzle.specs.Fault.{Found}
use Rattle.puzzle.specs.Puzzle.{grid_of, book_of, borders_of, puzzle_code, answered, stroke_of, decide_of, long_enough, ask_code, Asked, says, writes, fault_in, ask_of}
use Rattle.puzzle.proofs.Ready.{ready}

-- the second of two numbers, where the first refuses nothing
pub second_says : {code m r next : ℕ} → code ≡ m → code ≡ 0 → r ≡ next → r ≡ first_code m next
second_says q z e = rw (← q, z, e)

-- a decide by way of its entry
pub one_entry : (p : Puzzle) (e : ℕ) (wall : Bool) (x : ℕ) → Entry e wall x → stroke_of p (decisions (x ∷ [])) ≡ decide_of p e wall
one_entry p e wall x k =
    as_decide (λ c m. answered p c m) (λ c z m m'. rw (ne_eqb c 0 z)) (puzzle_code p) (borders_of p) (book_of p) e wall x (λ z. border_count_le (grid_of p) (ready p z).limits) k

-- an ask whose buffer is long enough
pub long_buffer : (p : Puzzle) (code : ℕ) → code ≡ puzzle_code p → code ≡ 0 → (buf : List ℕ) → ask_room p.kind (grid_of p) ≤ length buf → ask_code p buf ≡ 0
long_buffer p code q z buf h = rw (← q, z, le-leb (ask_room p.kind (grid_of p)) (length buf) h)

-- an ask by its number and what it finds
asked_by : (n m : ℕ) (f : Option Found) (buf : List ℕ) → n ≡ m → ◌≡◌ {A = Asked} (record { answer = says n f; buffer = writes n f buf }) (record { answer = says m f; buffer = writes m f buf })
asked_by n m f buf q = rw q

pub accepted_ask : (p : Puzzle) (buf : List ℕ) → ask_code p buf ≡ 0 → ask_of p buf ≡ record { answer = says 0 (fault_in p); buffer = writes 0 (fault_in p) buf }
accepted_ask p buf q = asked_by (ask_code p buf) 0 (fault_in p) buf q

-- it is accepted only where questions 1 and 2 accept the puzzle
pub ask_accepted : (p : Puzzle) (buf : List ℕ) → ask_code p buf ≡ 0 → puzzle_code p ≡ 0
ask_accepted p buf z = go (eqb (puzzle_code p) 0) refl z
  where
    go : (t : Bool) → eqb (puzzle_code p) 0 ≡ t → pick t (pick (long_enough p.kind (grid_of p) buf) 0 6) (puzzle_code p) ≡ 0 → puzzle_code p ≡ 0
    go true q k = eqb-true (puzzle_code p) 0 q
    go false q k = k
