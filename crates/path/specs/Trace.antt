-- What the code keeps of a search: for each found cell its finder and the entry of the border between, and the queue as an array of which
-- the places from head to tail wait. Assumes nothing.
use Rattle.std.specs.Prelude.{ℕ, suc, ◌+◌, ◌≤◌, ◌<◌, ◌≡◌, ◌≢◌, List, [], ◌∷◌, not, is_some, get_or, length, Option, Some, None}
use Rattle.std.proofs.Math.Option.{none, some}
use Rattle.std.proofs.Math.Seq.{slice}
use Rattle.limits.specs.Limits.{most_cells}
use Rattle.grid.specs.declared.Grid.{Grid}
use Rattle.grid.specs.Grid.{Limits, cells, Cell, border_count}
use Rattle.path.specs.declared.FoundBy.{FoundBy}
use Rattle.path.specs.Path.{Lists, Search, is_new}

-- how many cells are not found
unfoldable pub blank : Lists → ℕ
blank [] = 0
blank (none ∷ xs) = suc (blank xs)
blank (some p ∷ xs) = blank xs

-- of each cell how it was found, or nothing
abbrev pub Notes : Type 0
Notes = List (Option FoundBy)

-- this cell was found by that one, over the border of this entry
abbrev pub FoundAs : Notes → ℕ → ℕ → ℕ → Type 0
FoundAs found x finder entry = get_or found x None ≡ Some (record { finder = finder; entry = entry })

-- Of a cell that is not found nothing is kept. A found cell's list is its entry and then its finder's list.
pub record Traced (g : Grid) (xs : Lists) (found : Notes) : Type 0 where
  pub size : length xs ≡ cells g
  pub found_long : length found ≡ most_cells
  pub new : (x : ℕ) → Cell g x → is_new (get_or xs x none) ≡ not (is_some (get_or found x None))
  pub back : (x e : ℕ) (p : List ℕ) → get_or xs x none ≡ some (e ∷ p) → (c : ℕ) × FoundAs found x c e × (get_or xs c none ≡ some p)

-- every found cell has its place in the queue, so that there is one for each cell that is not
pub record Kept (g : Grid) (head : ℕ) (s : Search) (found : Notes) (queue : List ℕ) (tail : ℕ) : Type 0 where
  pub traced : Traced g s.found found
  pub queue_long : length queue ≡ most_cells
  pub order : head ≤ tail
  pub waits : s.queue ≡ slice head tail queue
  pub room : tail + blank s.found ≡ cells g

-- c, whose list is p, looks round
pub record Looking (g : Grid) (c : ℕ) (p : List ℕ) (head : ℕ) (s : Search) (found : Notes) (queue : List ℕ) (tail : ℕ) : Type 0 where
  pub kept : Kept g head s found queue tail
  pub here : get_or s.found c none ≡ some p

-- what a look of the cell c needs
pub record LooksFrom (g : Grid) (states : List ℕ) (c : ℕ) (found : Notes) (queue : List ℕ) (tail : ℕ) : Type 0 where
  pub limits : Limits g
  pub cell : Cell g c
  pub states_long : border_count g ≤ length states
  pub p : List ℕ
  pub head : ℕ
  pub s : Search
  pub looking : Looking g c p head s found queue tail

-- arrays that keep a search s come to keep the search `after p s`, where p is the list of the cell c that looks
abbrev pub Follows : Grid → ℕ → (List ℕ → Search → Search) → Notes → List ℕ → ℕ → Notes → List ℕ → ℕ → Type 0
Follows g c after found queue tail found' queue' tail' =
    (p : List ℕ) (head : ℕ) (s : Search) → Looking g c p head s found queue tail → Looking g c p head (after p s) found' queue' tail'

-- what a search from start to target needs
pub record Asks (g : Grid) (states : List ℕ) (start target : ℕ) : Type 0 where
  pub limits : Limits g
  pub states_long : border_count g ≤ length states
  pub start_cell : Cell g start
  pub target_cell : Cell g target

-- no cell is found
pub record Fresh (found : Notes) (queue : List ℕ) : Type 0 where
  pub found_long : length found ≡ most_cells
  pub queue_long : length queue ≡ most_cells
  pub new : (x : ℕ) → x < most_cells → get_or found x None ≡ None

-- what is kept leads from x over this list to the start
abbrev pub Back : ℕ → Notes → ℕ → List ℕ → Type 0
Back start found x [] = x ≡ start
Back start found x (e ∷ p) = (x ≢ start) × (x < most_cells) × ((c : ℕ) × FoundAs found x c e × Back start found c p)

-- the walk from the target ends, and the buffer has a place for each entry and more
pub record Walks (start target : ℕ) (found : Notes) (buffer : List ℕ) : Type 0 where
  pub found_long : length found ≡ most_cells
  pub begins : start < most_cells
  pub p : List ℕ
  pub back : Back start found target p
  pub fits : length p < length buffer
