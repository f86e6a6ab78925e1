-- The kind of a puzzle (SPEC 14.4): its number in a record, the images that its checks try, and how long a buffer its asks want. Assumes nothing.
use Rattle.std.specs.Prelude.{ℕ, zero, suc, ◌+◌, ◌*◌, List, length}
use Rattle.grid.specs.declared.Grid.{Grid}
use Rattle.grid.specs.Grid.{cells}
use Rattle.images.specs.declared.Image.{Image}
use Rattle.images.specs.Images.{translates, all_images}
use Rattle.puzzle.specs.declared.kind.Kind.{Kind}
use Rattle.puzzle.specs.declared.kind.Kind.TheVariants.{Translates, Images}

abbrev pub kind_number : Kind → ℕ
kind_number Translates = 0
kind_number Images = 1

-- the images of the kind with this number
abbrev pub images_of : ℕ → List Image
images_of zero = translates
images_of (suc n) = all_images

abbrev pub kind_images : Kind → List Image
kind_images kind = images_of (kind_number kind)

-- SPEC 3.6, 14.5: 9·h·w entries where the one image is the translate, 16·h·w where there are eight
abbrev pub ask_room : ℕ → Grid → ℕ
ask_room kind g = (length (images_of kind) + 8) * cells g
