-- The first unit that fits nowhere, as any of the images. The table tells the units and potential units of the cells. Assumes nothing.
use Rattle.std.specs.Prelude.{ℕ, ◌≤◌, ◌<◌, ◌≡◌, Bool, true, false, List, leb, Option, Some, None}
use Rattle.grid.specs.declared.Grid.{Grid}
use Rattle.grid.specs.Grid.{cells}
use Rattle.groups.specs.Groups.{cells_of}
use Rattle.images.specs.declared.Image.{Image}
use Rattle.images.specs.Images.{translate}
use Rattle.shape.specs.Shape.{head_or0, unit_of, fits_by, fits}
use Rattle.offsets.specs.declared.table.CellInfo.{CellInfo}
use Rattle.offsets.specs.Table.{potential_in, units_in, potentials_in}
use Rattle.adjacency.specs.Adjacency.{MarksOf}

-- unit k fits somewhere as one of the images: it has a good offset (SPEC 4.8, 4.9, 14.2)
abbrev pub fits_in : List Image → Grid → List ℕ → List CellInfo → ℕ → Bool
fits_in ms g states table k = fits ms g states (units_in g table) (potentials_in g table) (unit_of g (units_in g table) (potentials_in g table) k)

-- it does as a translate
abbrev pub translate_fits : Grid → List ℕ → List CellInfo → ℕ → Bool
translate_fits g states table k = fits_by g states (units_in g table) (potentials_in g table) (unit_of g (units_in g table) (potentials_in g table) k) translate

-- the board is so small that a unit's translates are tried at every offset, one by one
abbrev pub tries_all : Grid → Bool
tries_all g = leb (cells g) 25

-- each of the first k of n numbers passes the test
pub record AllFit (test : ℕ → Bool) (n k : ℕ) : Type 0 where
  pub within : k ≤ n
  pub before : (i : ℕ) → i < k → test i ≡ true

-- k is the first of n numbers that does not pass the test, or n where all pass it
pub record FirstUnfit (test : ℕ → Bool) (n k : ℕ) : Type 0 where
  pub within : k ≤ n
  pub before : (i : ℕ) → i < k → test i ≡ true
  pub there : k < n → test k ≡ false

-- the cells of unit k, and its own potential unit
abbrev pub unit_cells : Grid → List CellInfo → ℕ → List ℕ
unit_cells g table k = cells_of g (units_in g table) k

abbrev pub own_of : Grid → List CellInfo → ℕ → ℕ
own_of g table k = potential_in table (head_or0 (unit_cells g table k))

-- exactly the potential units adjacent to the own one of unit k are marked: that one, and those that a Wall parts from that one (SPEC 13.1)
pub record MarkedFor (g : Grid) (states : List ℕ) (table : List CellInfo) (k : ℕ) (marks : List ℕ) : Type 0 where
  pub only : MarksOf g states (potentials_in g table) (own_of g table k) marks

-- of n units each fits somewhere, or this is the first, from one on, no translate of which fits at one of the places tried soon; its marks are set
pub record Sought (ms : List Image) (g : Grid) (states : List ℕ) (table : List CellInfo) (n from : ℕ) (marks : List ℕ) (r : Option ℕ) : Type 0 where
  pub none : r ≡ None → AllFit (fits_in ms g states table) n n
  pub some : (k : ℕ) → r ≡ Some k → (from ≤ k) × (k < n)
  pub before : (k : ℕ) → r ≡ Some k → AllFit (fits_in ms g states table) n k
  pub marked : (k : ℕ) → r ≡ Some k → MarkedFor g states table k marks
  pub there : tries_all g ≡ true → (k : ℕ) → r ≡ Some k → translate_fits g states table k ≡ false

-- of n units each fits somewhere, or this is the first that fits nowhere; its marks are set
pub record Unfit (ms : List Image) (g : Grid) (states : List ℕ) (table : List CellInfo) (n : ℕ) (marks : List ℕ) (r : Option ℕ) : Type 0 where
  pub none : r ≡ None → FirstUnfit (fits_in ms g states table) n n
  pub some : (k : ℕ) → r ≡ Some k → (k < n)
  pub first : (k : ℕ) → r ≡ Some k → FirstUnfit (fits_in ms g states table) n k
  pub marked : (k : ℕ) → r ≡ Some k → MarkedFor g states table k marks
