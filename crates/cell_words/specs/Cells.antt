-- Row words of cells: of a unit's own, and of those in the potential units adjacent to one, where each row's word has a stamp, the potential
-- unit for which it stands. Assumes nothing.
use Rattle.std.specs.Prelude.{ℕ, ◌+◌, ◌*◌, ◌≤◌, ◌<◌, ◌≡◌, List, eqb, get_or, length, Option, Some, None}
use Rattle.grid.specs.declared.Grid.{Grid}
use Rattle.shape.specs.Shape.{adjacent}
use Rattle.words.specs.Words.{Says}
use Rattle.cell_words.specs.declared.Near.{Near}

-- words without bits, one for each row
pub record Blank (g : Grid) (inside : List ℕ) : Type 0 where
  pub clear : (y : ℕ) → ◌≡◌ {A = ℕ} (get_or inside y 0) 0
  pub long : g.height ≤ length inside

-- the words of unit k's cells
pub record Inside (g : Grid) (ids : List ℕ) (k : ℕ) (inside : List ℕ) : Type 0 where
  pub says : (y : ℕ) → y < g.height → Says g.width (λ x. eqb (get_or ids (y * g.width + x) 0) k) (get_or inside y 0)
  pub long : g.height ≤ length inside

-- the word of row y stands for p: it has the cells in potential units adjacent to p (SPEC 4.7, 13.1)
abbrev pub NearRow : Grid → List ℕ → List ℕ → ℕ → List ℕ → ℕ → Type 0
NearRow g states pids p words y = Says g.width (λ x. adjacent g states pids p (get_or pids (y * g.width + x) 0)) (get_or words y 0)

-- row y's stamp: the potential unit for which its word stands
abbrev pub stamp : Near → ℕ → Option ℕ
stamp near y = get_or near.stamps.now y None

-- each row's word stands for the potential unit of its stamp
pub record Stamped (g : Grid) (states pids : List ℕ) (near : Near) : Type 0 where
  pub words_long : g.height ≤ length near.words.now
  pub stamps_long : g.height ≤ length near.stamps.now
  pub says : (y p : ℕ) → y < g.height → stamp near y ≡ Some p → NearRow g states pids p near.words.now y

-- the same lists are lent, and they are as long
pub record SameLists (near near' : Near) : Type 0 where
  pub words : near'.words.ghost_name ≡ near.words.ghost_name
  pub stamps : near'.stamps.ghost_name ≡ near.stamps.ghost_name
  pub words_as_long : length near'.words.now ≡ length near.words.now
  pub stamps_as_long : length near'.stamps.now ≡ length near.stamps.now

-- the rows from one up to another stand for p, too; a row that stood for p still does
pub record Restamped (g : Grid) (states pids : List ℕ) (p from to : ℕ) (near near' : Near) : Type 0 where
  pub stamped : Stamped g states pids near'
  pub same : SameLists near near'
  pub here : (y : ℕ) → from ≤ y → y < to → stamp near' y ≡ Some p
  pub kept : (y : ℕ) → stamp near y ≡ Some p → stamp near' y ≡ Some p
