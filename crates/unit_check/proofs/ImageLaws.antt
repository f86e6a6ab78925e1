-- The images in turn: where the ones before place i fit nowhere, those from i on tell whether the unit fits. Assumes nothing.
use Prim.Native.Nat.{ℕ, ◌+◌, ◌≤◌, ◌<◌}
use mathlib.Core.Path.{◌≡◌, refl}
use mathlib.Core.Bool.{Bool, true, false}
use mathlib.Core.List.{List, ◌∷◌}
use native.Mathlib.Numerals.{add-one}
use lib.ListN.{length, get_or, drop, drop_of_length-le}
use lib.Seq.{drop-cons}
use Rattle.lists.specs.Choice.{either}
use Rattle.lists.specs.Lists.{any}
use Rattle.grid.specs.declared.Grid.{Grid}
use Rattle.images.specs.declared.Image.{Image}
use Rattle.offsets.specs.declared.table.CellInfo.{CellInfo}
use Rattle.shape.specs.Shape.{fits}
use Rattle.offsets.specs.Trial.{fits_as, fits_at}

module _ (ms : List Image) (g : Grid) (states : List ℕ) (table : List CellInfo) (cs : List ℕ) where
  abbrev pub Untold : ℕ → Type 0
  Untold i = any (fits_as g states table cs) (drop i ms) ≡ fits_at ms g states table cs

  pub untold_first : Untold 0
  unfolding fits
  untold_first = refl

  module _ {i : ℕ} (w : Untold i) where
    module _ (h : i < length ms) (d : Image) {m : Image} (m_is : m ≡ get_or ms i d) {r : Bool} (told : r ≡ fits_as g states table cs m) where
      turn : either r (any (fits_as g states table cs) (drop (i + 1) ms)) ≡ fits_at ms g states table cs
      unfolding any
      turn = let e : drop i ms ≡ m ∷ drop (i + 1) ms = rw (add-one, drop-cons ms i d h, m_is) in rw told (rw e at w)

      pub untold_fits : r ≡ true → true ≡ fits_at ms g states table cs
      untold_fits e = rw e at turn

      pub untold_on : r ≡ false → Untold (i + 1)
      untold_on e = rw e at turn

    pub untold_end : length ms ≤ i → false ≡ fits_at ms g states table cs
    unfolding any
    untold_end h = rw (drop_of_length-le ms h) at w
