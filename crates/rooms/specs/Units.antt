-- Which cells a room has, and how many units it holds. s e is the state of border e. Assumes nothing.
use Rattle.std.specs.Prelude.{ℕ, ◌<◌, ◌≡◌, true, List, length, get_or}
use Rattle.lists.specs.Lists.{In}
use Rattle.frame.specs.Frame.{States, SameUnit}
use Rattle.grid.specs.declared.Grid.{Grid}
use Rattle.grid.specs.Grid.{Cell}
use Rattle.grid.specs.Steps.{Neighbours}
use Rattle.rooms.specs.Rooms.{is_given, room_ids}

-- the first law (SPEC 2.3)
abbrev pub GivenWalls : List ℕ → States → Type 0
GivenWalls given s = (e : ℕ) → is_given given e ≡ true → s e ≡ 2

-- cell c is in room r
pub record InRoom (g : Grid) (given : List ℕ) (r c : ℕ) : Type 0 where
  pub cell : Cell g c
  pub room : get_or (room_ids g given) c 0 ≡ r

-- the room holds k units (SPEC 2.6): k of its cells, no two in one unit, are such that each of its cells is in the unit of one of them
pub record HoldsUnits (g : Grid) (s : States) (Room : ℕ → Type 0) (k : ℕ) : Type 0 where
  pub heads : List ℕ
  pub number : length heads ≡ k
  pub inside : (c : ℕ) → In c heads → Room c
  pub apart : (i j : ℕ) → i < j → j < k → SameUnit (Neighbours g) s (get_or heads i 0) (get_or heads j 0) → ⊥
  pub whole : (c : ℕ) → Room c → (f : ℕ) × In f heads × SameUnit (Neighbours g) s f c
