-- What a path call answers and writes (SPEC 4.3, with questions 1, 2, 3, 6 and 10). Assumes nothing.
use Rattle.std.specs.Prelude.{ℕ, ◌*◌, List, eqb, ltb, leb}
use Rattle.std.proofs.Math.Option.{Option, none, some}
use Rattle.lists.specs.Choice.{both, pick}
use Rattle.grid.specs.Grid.{cells}
use Rattle.board.specs.declared.Board.{Board}
use Rattle.board.specs.Board.{size_of, board_code}
use Rattle.answers.specs.Answers.{Outcome, refused, listed}
use Rattle.path.specs.Path.{path_of}

-- question 10: nothing is found where the cells are not joined (SPEC 3.10)
abbrev pub joined : Option (List ℕ) → Outcome
joined none = refused 10
joined (some p) = listed p

-- a buffer of `room` places
unfoldable pub path_outcome : Board → ℕ → ℕ → ℕ → Outcome
unfolding path_of
path_outcome b start target room =
    let n = cells (size_of b) in
    pick (eqb (board_code b) 0)
    (pick (both (ltb start n) (ltb target n))
    (pick (leb (9 * n) room) (joined (path_of (size_of b) b.book.states start target)) (refused 6))
    (refused 3))
    (refused (board_code b))
