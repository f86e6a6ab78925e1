-- The line that each call prints (SPEC 5.4). Assumes nothing.
use Rattle.std.specs.Prelude.{ℕ, ◌+◌, ◌*◌, List, [], ◌∷◌, ◌++◌, leb, length}
use Rattle.lists.specs.Choice.{pick}
use Rattle.lists.specs.Lists.{gather}
use Rattle.answers.specs.Answers as answers
use Rattle.lines.specs.Decimal.{decimal_of}
use Rattle.lines.specs.declared.Line.{Line}
use Rattle.lines.specs.declared.Line.TheVariants.{Decided, Undone, Clear, Shape, Room, Refused}

abbrev pub feed : List ℕ
feed = 10 ∷ []

-- an entry after a space
abbrev pub spaced : ℕ → List ℕ
spaced entry = 32 ∷ decimal_of entry

unfoldable pub spaced_of : List ℕ → List ℕ
unfolding gather
spaced_of entries = gather spaced entries

-- the fixed words: "decided"
abbrev pub decided : List ℕ
decided = 100 ∷ 101 ∷ 99 ∷ 105 ∷ 100 ∷ 101 ∷ 100 ∷ []

-- "undone"
abbrev pub undone : List ℕ
undone = 117 ∷ 110 ∷ 100 ∷ 111 ∷ 110 ∷ 101 ∷ []

-- "clear"
abbrev pub clear : List ℕ
clear = 99 ∷ 108 ∷ 101 ∷ 97 ∷ 114 ∷ []

-- "shape:"
abbrev pub shape : List ℕ
shape = 115 ∷ 104 ∷ 97 ∷ 112 ∷ 101 ∷ 58 ∷ []

-- "room " and ":"
abbrev pub room : List ℕ
room = 114 ∷ 111 ∷ 111 ∷ 109 ∷ 32 ∷ []

abbrev pub colon : List ℕ
colon = 58 ∷ []

-- "refused "
abbrev pub refused : List ℕ
refused = 114 ∷ 101 ∷ 102 ∷ 117 ∷ 115 ∷ 101 ∷ 100 ∷ 32 ∷ []

-- a fault's line with its entries, and a refusal's with its number (SPEC 5.4)
abbrev pub shape_of : List ℕ → List ℕ
shape_of entries = shape ++ spaced_of entries ++ feed

abbrev pub room_of : ℕ → List ℕ → List ℕ
room_of number entries = room ++ decimal_of number ++ colon ++ spaced_of entries ++ feed

abbrev pub refused_of : ℕ → List ℕ
refused_of number = refused ++ decimal_of number ++ feed

abbrev pub line_of : Line → List ℕ → List ℕ
line_of Decided entries = decided ++ feed
line_of Undone entries = undone ++ feed
line_of Clear entries = clear ++ feed
line_of Shape entries = shape_of entries
line_of (Room number) entries = room_of number entries
line_of (Refused number) entries = refused_of number

-- the places that a buffer needs for any line with so many entries: "room " and ":" and a line feed, 20 digits, and 6 for each entry
abbrev pub needed : List ℕ → ℕ
needed entries = 27 + 6 * length entries

-- the line into so many places, or refused (SPEC 3.6)
abbrev pub line_into : Line → List ℕ → ℕ → answers.Outcome
line_into line entries places = pick (leb (needed entries) places) (answers.listed (line_of line entries)) (answers.refused 6)
