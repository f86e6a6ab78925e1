-- The borders of a board as they stand: `states` has the state of border e at place e. Assumes nothing.
use Rattle.std.specs.Prelude.{ℕ, ◌≤◌, ◌<◌, Bool, List, eqb, get_or, not, take}
use Rattle.lists.specs.Choice.{both}
use Rattle.lists.specs.Lists.{all}
use Rattle.grid.specs.declared.Direction.{Direction}
use Rattle.grid.specs.declared.Grid.{Grid}
use Rattle.grid.specs.Grid.{goes_on, border, border_count}

abbrev pub state_of : List ℕ → ℕ → ℕ
state_of states e = get_or states e 0

-- the state of the border that c has in that direction
unfoldable pub state_at : Grid → List ℕ → Direction → ℕ → ℕ
unfolding border
state_at g states d c = state_of states (border g d c)

-- c has a border in that direction, and its state is k
unfoldable pub stands : Grid → List ℕ → ℕ → Direction → ℕ → Bool
unfolding goes_on state_at
stands g states k d c = both (goes_on g d c) (eqb (state_at g states d c) k)

-- states 0 to 2 (SPEC 1.3); what stands behind the board's borders is no part of it (1.11)
abbrev pub StatesOk : Grid → List ℕ → Type 0
StatesOk g states = (e : ℕ) → e < border_count g → state_of states e ≤ 2

-- no border of the board is undecided
abbrev pub decided : Grid → List ℕ → Bool
decided g states = all (λ s. not (eqb s 0)) (take (border_count g) states)
