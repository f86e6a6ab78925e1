-- Where the parts of a file stand: what the code hands out instead of copies. Assumes nothing.
use Rattle.std.specs.Prelude.{ℕ, ◌+◌, ◌*◌, ◌-◌, List, leb, length, get_or, take, drop, Some, None, Result, Ok, Err}
use Rattle.std.specs.Prelude as std
use Rattle.std.proofs.Math.Option.{Option, none, some}
use Rattle.lists.specs.Choice.{pick}
use Rattle.answers.specs.Answers.{Outcome, refused, listed}
use Rattle.answers.specs.declared.Refusal.{Refusal}
use Rattle.answers.specs.declared.Refusal.TheVariants.{UnsoundFile}
use Rattle.case_file.specs.declared.Call.{Call}
use Rattle.case_file.specs.declared.Call.TheVariants.{Undo, Decide, Ask}
use Rattle.case_file.specs.declared.Span.{Span}
use Rattle.case_file.specs.declared.Layout.{Layout}
use Rattle.case_file.specs.Sound.{Case, words_of}

-- the number at a byte
abbrev pub word_at : List ℕ → ℕ → ℕ
word_at bs at = 256 * get_or bs at 0 + get_or bs (at + 1) 0

-- the count numbers from a byte on
abbrev pub numbers_at : List ℕ → ℕ → ℕ → List ℕ
numbers_at bs at count = words_of (take (2 * count) (drop at bs))

-- a list of the file into so many places: as many as it has numbers, or refused (SPEC 3.6)
abbrev pub numbers_into : List ℕ → Span → ℕ → Outcome
numbers_into bs list places = pick (leb (length (numbers_at bs list.at list.count)) places) (listed (numbers_at bs list.at list.count)) (refused 6)

-- a call's bytes
abbrev pub size_of : Call → ℕ
size_of Undo = 1
size_of (Decide b w) = 3
size_of Ask = 1

-- a call read at a byte, and the byte behind it
abbrev pub step_at : ℕ → Option (Call × List ℕ) → std.Option (Call × ℕ)
step_at at none = None
step_at at (some c) = Some (c.0, at + size_of c.0)

-- the byte behind a call read at a byte
abbrev pub behind_at : ℕ → Option (Call × List ℕ) → std.Option ℕ
behind_at at none = None
behind_at at (some c) = Some (at + size_of c.0)

abbrev pub span_of : ℕ → ℕ → Span
span_of at count = record { at = at; count = count }

-- a list read at a byte of the file: it starts behind its count, and ends where the rest begins
abbrev pub counted_at : {A : Type 0} → List ℕ → ℕ → Option (List A × List ℕ) → std.Option (Span × ℕ)
counted_at bs at none = None
counted_at bs at (some p) = Some (span_of (at + 2) (length p.0), length bs - length p.1)

-- the version, the length, the height, the width and the first count are 7 bytes
abbrev pub layout_of : Case → Layout
layout_of f =
    record {
      height = f.height;
      width = f.width;
      walls = span_of 7 (length f.walls);
      clues = span_of (9 + 2 * length f.walls) (length f.clues);
      calls = span_of (11 + 2 * length f.walls + 2 * length f.clues) (length f.calls);
    }

abbrev pub parts_of : Option Case → std.Option Layout
parts_of none = None
parts_of (some f) = Some (layout_of f)

-- the answer (SPEC 3.16): a sound file's layout, and question 11 refuses any other
abbrev pub file_of : Option Case → Result Layout Refusal
file_of none = Err UnsoundFile
file_of (some f) = Ok (layout_of f)

-- question 11 (SPEC 3.11)
abbrev pub refusal_of : Option Case → ℕ
refusal_of none = 11
refusal_of (some f) = 0
