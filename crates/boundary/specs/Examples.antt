-- Closed examples of the two lists; the 1 by 3 board is that of SPEC 7.3. Assumes nothing.
use Rattle.std.specs.Prelude.{ℕ, ◌≡◌, refl, true, false, List, [], ◌∷◌}
use Rattle.lists.specs.Lists.{count}
use Rattle.grid.specs.Grid.{grid}
use Rattle.ledger.specs.Ledger.{holds_of}
use Rattle.board.specs.declared.Board.{Board}
use Rattle.ledger.specs.Books.{book_holds}
use Rattle.groups.specs.Groups.{group_ids, group_count}
use Rattle.boundary.specs.Boundary.{unit_boundary, potential_boundary}
use Rattle.boundary.specs.Answer.{boundary_outcome}
use Rattle.answers.specs.Answers.{refused, listed}

-- 1 by 3, Wall, Connected: the unit of two cells, and its potential unit
unit_of_two : unit_boundary (grid 1 3) (2 ∷ 1 ∷ []) (group_ids (grid 1 3) (2 ∷ 1 ∷ []) false) 1 ≡ 2 ∷ 1 ∷ []
unfolding unit_boundary group_ids
unit_of_two = refl

potential_of_two : potential_boundary (grid 1 3) (2 ∷ 1 ∷ []) (group_ids (grid 1 3) (2 ∷ 1 ∷ []) true) 1 ≡ 1 ∷ []
unfolding potential_boundary group_ids
potential_of_two = refl

-- 3 by 3, all Walls: the two lists of the middle cell differ in their order
abbrev walls : List ℕ
walls = 2 ∷ 2 ∷ 2 ∷ 2 ∷ 2 ∷ 2 ∷ 2 ∷ 2 ∷ 2 ∷ 2 ∷ 2 ∷ 2 ∷ []

middle_unit : unit_boundary (grid 3 3) walls (group_ids (grid 3 3) walls false) 4 ≡ 15 ∷ 5 ∷ 21 ∷ 7 ∷ []
unfolding unit_boundary group_ids
middle_unit = refl

middle_potential : potential_boundary (grid 3 3) walls (group_ids (grid 3 3) walls true) 4 ≡ 15 ∷ 21 ∷ 5 ∷ 7 ∷ []
unfolding potential_boundary group_ids
middle_potential = refl

-- the same board by the public calls' definition: 27 places are enough, 26 are not; there is no unit 2
abbrev three : Board
three = record { grid = grid 1 3; book = record { states = 2 ∷ 1 ∷ []; names = 1 ∷ 3 ∷ []; len = 2 } }

three_unit : boundary_outcome three false 1 27 ≡ listed (2 ∷ 1 ∷ [])
unfolding unit_boundary group_ids group_count book_holds holds_of count
three_unit = refl

three_potential : boundary_outcome three true 1 27 ≡ listed (1 ∷ [])
unfolding potential_boundary group_ids group_count book_holds holds_of count
three_potential = refl

no_such_unit : boundary_outcome three false 2 27 ≡ refused 3
unfolding unit_boundary group_ids group_count book_holds holds_of count
no_such_unit = refl

short : boundary_outcome three true 1 26 ≡ refused 6
unfolding potential_boundary group_ids group_count book_holds holds_of count
short = refl

-- its ledger names border 0 twice
unsound : boundary_outcome (record { grid = grid 1 3; book = record { states = 2 ∷ 1 ∷ []; names = 1 ∷ 1 ∷ []; len = 2 } }) true 1 27 ≡ refused 2
unfolding potential_boundary group_ids group_count book_holds holds_of count
unsound = refl
