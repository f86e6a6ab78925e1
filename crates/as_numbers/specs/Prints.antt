-- The program's lines by number. Assumes nothing.
use Rattle.std.specs.Prelude.{ℕ, ◌%◌, eqb}
use Rattle.lists.specs.Choice.{pick}
use Rattle.lines.specs.declared.Line.{Line}
use Rattle.lines.specs.declared.Line.TheVariants.{Decided, Undone, Clear, Shape, Room, Refused}

-- the lines in the order of SPEC 5.4: `decided`, `undone`, `clear`, `shape:`, `room 4:`; every other number is `refused 4`, whose number has 8 bits
abbrev pub line_by : ℕ → ℕ → Line
line_by kind number =
    pick (eqb kind 0) Decided
    (pick (eqb kind 1) Undone
    (pick (eqb kind 2) Clear
    (pick (eqb kind 3) Shape
    (pick (eqb kind 4) (Room number) (Refused (number % 256))))))
