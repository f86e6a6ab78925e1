-- Entries (SPEC 1.4). A border, or a room graph's edge, is undecided (0), Connected (1) or Wall (2). Assumes nothing.
use Rattle.std.specs.Prelude.{ℕ, ◌+◌, ◌*◌, ◌/◌, ◌%◌, ◌≡◌, Bool, List}
use Rattle.lists.specs.Choice.{pick}
use Rattle.lists.specs.Lists.{In}

-- the entry of a border as Connected, and as Wall
abbrev pub connected_entry : ℕ → ℕ
connected_entry e = 2 * e

abbrev pub wall_entry : ℕ → ℕ
wall_entry e = 2 * e + 1

abbrev pub entry_of : Bool → ℕ → ℕ
entry_of wall e = pick wall (wall_entry e) (connected_entry e)

-- the entry stands as listed, where border e has the state s e
abbrev pub Stands : (ℕ → ℕ) → ℕ → Type 0
Stands s l = s (l / 2) ≡ l % 2 + 1

-- so does each entry of the list
abbrev pub Standing : (ℕ → ℕ) → List ℕ → Type 0
Standing s L = (l : ℕ) → In l L → Stands s l
