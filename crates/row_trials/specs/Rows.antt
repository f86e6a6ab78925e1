-- A unit's image at all offsets of a row, and of several rows: bit x of a word speaks of the offset that puts cell f, which is in the image's first
-- row, on column x of the row. Assumes nothing.
use Rattle.std.specs.Prelude.{ℕ, ◌+◌, ◌-◌, ◌*◌, ◌≤◌, ◌<◌, ◌≡◌, Bool, true, not, List, length}
use Rattle.lists.specs.Choice.{both, either}
use Rattle.lists.specs.Lists.{any, range, count_from}
use Rattle.grid.specs.declared.Grid.{Grid}
use Rattle.images.specs.declared.Image.{Image}
use Rattle.shape.specs.Shape.{head_or0, is_good}
use Rattle.offsets.specs.declared.table.CellInfo.{CellInfo}
use Rattle.offsets.specs.Table.{potential_in, potentials_in}
use Rattle.offsets.specs.Trial.{tried_from}
use Rattle.words.specs.Words.{bit, reads}
use Rattle.cell_words.specs.declared.Near.{Near}
use Rattle.cell_words.specs.Cells.{NearRow, Stamped, SameLists}

-- the offset of image m that puts f on column x of row t is good (SPEC 4.8, 4.9, 14.2)
abbrev pub good_at : Image → Grid → List ℕ → List CellInfo → List ℕ → ℕ → ℕ → ℕ → Bool
good_at m g states table cs f t x = is_good (tried_from m g states table cs f (t * g.width + x))

-- one of row t's offsets is good
unfoldable pub row_good : Image → Grid → List ℕ → List CellInfo → List ℕ → ℕ → ℕ → Bool
unfolding any range is_good
row_good m g states table cs f t = any (good_at m g states table cs f t) (range g.width)

-- one of the offsets of the rows from one up to another is good
abbrev pub rows_good : Image → Grid → List ℕ → List CellInfo → List ℕ → ℕ → ℕ → ℕ → Bool
rows_good m g states table cs f from to = any (row_good m g states table cs f) (count_from from (to - from))

-- by the words: all cells stay in their rows, one falls on a cell that is near, none on the unit, and no border lands badly
abbrev pub left_at : ℕ → List ℕ → List ℕ → List ℕ → List ℕ → List ℕ → ℕ → ℕ → Bool
left_at on near inside words codes borders t x =
    both (both (bit on x) (any (reads near t x) codes)) (not (either (any (reads inside t x) codes) (any (reads words t x) borders)))

-- some number passes the test exactly if the answer is yes
pub record Found (test : ℕ → Bool) (r : Bool) : Type 0 where
  pub some : r ≡ true → (x : ℕ) × (test x ≡ true)
  pub any : (x : ℕ) → test x ≡ true → r ≡ true

-- the words of the rows on which the unit falls have the cells that are near
pub record NearRows (g : Grid) (states : List ℕ) (table : List CellInfo) (cs : List ℕ) (t tall : ℕ) (near : List ℕ) : Type 0 where
  pub high : t + tall < g.height
  pub long : g.height ≤ length near
  pub says : (y : ℕ) → t ≤ y → y ≤ t + tall → NearRow g states (potentials_in g table) (potential_in table (head_or0 cs)) near y

-- the stamps hold, and the lists are those that were lent, as long as they were
pub record Held (g : Grid) (states pids : List ℕ) (near near' : Near) : Type 0 where
  pub stamped : Stamped g states pids near'
  pub same : SameLists near near'
