-- What writing to a pen leaves: its bytes stand behind those that were written. Assumes nothing.
use Rattle.std.specs.Prelude.{ℕ, ◌≡◌, ◌+◌, List, ◌++◌, length}
use Rattle.std.proofs.lemmas.List.Edits.{sets}
use Rattle.lines.specs.Decimal.{decimal_of}
use Rattle.lines.specs.Line.{spaced_of, decided, undone, clear, shape, room, colon, refused}
use Rattle.lines.specs.declared.pen.Pen.{Pen}
use Rattle.lines.specs.declared.Line.{Line}
use Rattle.lines.specs.declared.Line.TheVariants.{Decided, Undone, Clear, Shape, Room, Refused}

-- the bytes xs are written, to the same buffer
pub record Writes (xs : List ℕ) (before after : Pen) : Type 0 where
  pub len_after : after.len ≡ before.len + length xs
  pub buffer_after : after.buffer.now ≡ sets before.buffer.now before.len xs
  pub same_reference : after.buffer.ghost_name ≡ before.buffer.ghost_name

-- a line without the feed that ends it
abbrev pub words_of : Line → List ℕ → List ℕ
words_of Decided entries = decided
words_of Undone entries = undone
words_of Clear entries = clear
words_of Shape entries = shape ++ spaced_of entries
words_of (Room number) entries = room ++ decimal_of number ++ colon ++ spaced_of entries
words_of (Refused number) entries = refused ++ decimal_of number
