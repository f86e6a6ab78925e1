-- The laws of a full board that concern shape (SPEC 2.1, 2.4, 2.5, 14.3); s e is the state of border e. Assumes nothing.
use Rattle.std.specs.Prelude.{ℕ, ◌+◌, ◌<◌, ◌≡◌, ◌⊎◌, List}
use Rattle.lists.specs.Lists.{In}
use Rattle.frame.specs.Frame.{States, NoInnerWall, Partner}
use Rattle.grid.specs.declared.Grid.{Grid}
use Rattle.grid.specs.Grid.{Cell, row, col, border_count}
use Rattle.grid.specs.Steps.{Neighbours}
use Rattle.images.specs.declared.Image.{Image}
use Rattle.images.specs.Images.{spot, spot_in}

-- no border is undecided (SPEC 2.1)
abbrev pub FullBoard : Grid → States → Type 0
FullBoard g s = (e : ℕ) → e < border_count g → (s e ≡ 1) ⊎ (s e ≡ 2)

-- image m, moved so that it takes f to t, takes a to x
pub record Takes (m : Image) (g : Grid) (f t a x : ℕ) : Type 0 where
  pub from : Cell g a
  pub to : Cell g x
  pub rows : (spot_in g m (spot g a)).row + row g t ≡ row g x + (spot_in g m (spot g f)).row
  pub cols : (spot_in g m (spot g a)).col + col g t ≡ col g x + (spot_in g m (spot g f)).col

-- the laws of the kind whose images these are
pub record RightShape (ms : List Image) (g : Grid) (s : States) : Type 0 where
  -- the second law (SPEC 2.4)
  pub no_inner_wall : NoInnerWall (Neighbours g) s
  -- the third law (SPEC 2.5, 14.3): the unit of each cell f has a partner, which is one of its images, in which f's is t
  pub partners : (f : ℕ) → Cell g f → (m : Image) × In m ms × (t : ℕ) × Cell g t × Partner (Neighbours g) s (Takes m g f t) f t
