-- What a board's ask answers and writes (SPEC 4.6 to 4.12, with the questions 3.1, 3.2 and 3.6), over translates. Assumes nothing.
use Rattle.std.specs.Prelude.{ℕ, ◌*◌, eqb, leb}
use Rattle.lists.specs.Choice.{pick}
use Rattle.answers.specs.Answers.{Outcome, refused, found}
use Rattle.grid.specs.Grid.{cells}
use Rattle.board.specs.declared.Board.{Board}
use Rattle.board.specs.Board.{size_of, board_code}
use Rattle.images.specs.Images.{translates}
use Rattle.shape.specs.Shape.{shape_fault}

-- questions 1 and 2 of the board, then 6: the buffer has room for 9·h·w entries
abbrev pub shape_outcome : Board → ℕ → Outcome
shape_outcome b room =
    pick (eqb (board_code b) 0)
    (pick (leb (9 * cells (size_of b)) room) (found (shape_fault translates (size_of b) b.book.states)) (refused 6))
    (refused (board_code b))
