-- That the eight images are the symmetries of the square (SPEC 14.1): `symmetries` and `no_others` of proofs/ show it. Assumes nothing.
use Rattle.std.specs.Prelude.{ℕ, ◌+◌, ◌-◌, ◌*◌, ◌<◌, ◌≡◌}
use Rattle.grid.specs.declared.Direction.{Direction}
use Rattle.grid.specs.declared.Direction.TheVariants.{Up, Right}
use Rattle.grid.specs.declared.Grid.{Grid}
use Rattle.grid.specs.Grid.{grid}
use Rattle.images.specs.declared.Spot.{Spot}
use Rattle.images.specs.declared.Image.{Image}
use Rattle.images.specs.Images.{Picture, image_of, direction_in, spot_in, image, translate}

-- a spot is a cell's on a board or picture of that size
pub record Inside (g : Grid) (p : Spot) : Type 0 where
  pub rows : p.row < g.height
  pub cols : p.col < g.width

-- the square of the distance of two cells
abbrev pub apart : ℕ → ℕ → ℕ
apart a b = (a - b) + (b - a)

abbrev pub square : ℕ → ℕ
square n = n * n

abbrev pub distance : Spot → Spot → ℕ
distance p q = square (apart p.row q.row) + square (apart p.col q.col)

-- one of the eight does this to each cell in a picture, and to each direction
pub record Does (m : Image) (cell : Picture → Picture) (way : Direction → Direction) : Type 0 where
  pub is_one : m.number < 8
  pub cells : (p : Picture) → Inside p.size p.spot → image_of m p ≡ cell p
  pub ways : (d : Direction) → direction_in m d ≡ way d

pub record Symmetries : Type 0 where
  -- each keeps all distances
  pub distances : (m : Image) (g : Grid) (p q : Spot) → Inside g p → Inside g q → distance (spot_in g m p) (spot_in g m q) ≡ distance p q
  -- image 0 leaves all as it is
  pub stays : Does translate (λ p. p) (λ d. d)
  -- one after another is one of them
  pub composed : (j k : Image) → (m : Image) × Does m (λ p. image_of k (image_of j p)) (λ d. direction_in k (direction_in j d))
  -- and so is the way back
  pub undone : (k : Image) → (m : Image) × (m.number < 8) × Does translate (λ p. image_of m (image_of k p)) (λ d. direction_in m (direction_in k d))
  -- no two are alike
  pub differ : (j k : ℕ) → j < 8 → k < 8 → direction_in (image j) Up ≡ direction_in (image k) Up
      → direction_in (image j) Right ≡ direction_in (image k) Right → j ≡ k

-- a map of the cells of an n by n square that keeps all distances
pub record Isometry (n : ℕ) (f : Spot → Spot) : Type 0 where
  pub stays_in : (p : Spot) → Inside (grid n n) p → Inside (grid n n) (f p)
  pub distances : (p q : Spot) → Inside (grid n n) p → Inside (grid n n) q → distance (f p) (f q) ≡ distance p q

-- a map that is one of the eight images there
abbrev pub IsImage : ℕ → (Spot → Spot) → Type 0
IsImage n f = (m : Image) × (m.number < 8) × ((p : Spot) → Inside (grid n n) p → f p ≡ spot_in (grid n n) m p)

-- and there are no others
abbrev pub NoOthers : Type 0
NoOthers = (n : ℕ) (f : Spot → Spot) → Isometry n f → IsImage n f
