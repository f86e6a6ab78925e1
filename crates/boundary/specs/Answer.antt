-- What the two public calls answer and write (SPEC 4.4 and 4.5, with questions 1, 2, 3 and 6). Assumes nothing.
use Rattle.std.specs.Prelude.{ℕ, ◌*◌, Bool, List, eqb, ltb, leb}
use Rattle.lists.specs.Choice.{pick}
use Rattle.grid.specs.declared.Grid.{Grid}
use Rattle.grid.specs.Grid.{cells}
use Rattle.board.specs.declared.Board.{Board}
use Rattle.board.specs.Board.{size_of, board_code}
use Rattle.answers.specs.Answers.{Outcome, refused, listed}
use Rattle.groups.specs.Groups.{group_ids, group_count}
use Rattle.boundary.specs.Listing.{boundary}

-- questions 3 and 6, for a buffer of `room` places: is there such a group, and has the buffer 9·h·w entries?
abbrev pub group_outcome : Grid → List ℕ → Bool → ℕ → ℕ → Outcome
group_outcome g states potential k room =
    pick (ltb k (group_count g states potential))
    (pick (leb (9 * cells g) room) (listed (boundary g states (group_ids g states potential) potential k)) (refused 6))
    (refused 3)

-- the call groups the board itself (SPEC 4.4, 4.5): questions 1 and 2 come first
abbrev pub boundary_outcome : Board → Bool → ℕ → ℕ → Outcome
boundary_outcome b potential k room =
    pick (eqb (board_code b) 0) (group_outcome (size_of b) b.book.states potential k room) (refused (board_code b))
