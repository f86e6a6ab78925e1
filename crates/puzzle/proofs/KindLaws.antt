-- The kinds' images, which the translate is among, and how long a buffer they want; and that a record with the number of no kind is refused. Assumes nothing.
use Prim.Native.Nat.{ℕ, zero, suc, ◌+◌, ◌*◌, ◌≤◌, ◌<◌}
use mathlib.Core.Path.{◌≡◌, refl}
use mathlib.Core.Logic.{inl}
use mathlib.Core.Bool.{Bool, true}
use mathlib.Core.List.{List, [], ◌∷◌}
use native.Mathlib.Nat.{mul-le-mul_right}
use native.Mathlib.Omega.{arith}
use borrow.Author.Tests.{lt-leb}
use lib.Dec.{leb}
use lib.ListN.{length}
use Rattle.limits.specs.Limits.{most_borders, most_cells}
use Rattle.lists.specs.Choice.{both}
use Rattle.lists.proofs.ChoiceLaws.{both_false}
use Rattle.lists.specs.Lists.{In, range}
use Rattle.images.specs.declared.Image.{Image}
use Rattle.images.specs.Images.{translate}
use Rattle.grid.specs.declared.Grid.{Grid}
use Rattle.grid.specs.Grid.{sizes_ok, cells}
use Rattle.ledger.specs.Ledger.{Decision, single}
use Rattle.puzzle.specs.declared.Puzzle.{Puzzle}
use Rattle.puzzle.specs.Answer.{Refused}
use Rattle.puzzle.specs.declared.kind.Kind.{Kind}
use Rattle.puzzle.specs.declared.kind.Kind.TheVariants.{Translates, Images}
use Rattle.puzzle.specs.Kind.{kind_number, images_of, ask_room}
use Rattle.puzzle.specs.Puzzle.{grid_of, together, puzzle_code, answer, stroke_of, decide_of, undo_of, ask_of}

-- the translate is among the images of each kind
pub translate_in : (kind : ℕ) → In translate (images_of kind)
unfolding range
translate_in zero = inl refl
translate_in (suc n) = inl refl

-- each kind has a number that question 2 accepts
pub is_kind : (kind : Kind) → leb (kind_number kind) 1 ≡ true
is_kind Translates = refl
is_kind Images = refl

-- there are at most eight
images_most : (kind : ℕ) → length (images_of kind) ≤ 8
unfolding range
images_most zero = omega arith
images_most (suc n) = omega arith

-- so no kind wants more than sixteen places a cell
pub sixteen_most : (kind n : ℕ) → (length (images_of kind) + 8) * n ≤ 16 * n
sixteen_most kind n = mul-le-mul_right n (omega (arith, images_most kind))

-- where an image is listed the buffer has nine places a cell
pub nine_each : (ms : List Image) (m : Image) → In m ms → (n : ℕ) → 9 * n ≤ (length ms + 8) * n
nine_each [] m k n = absurd k
nine_each (x ∷ ms) m k n = mul-le-mul_right n (omega arith)

-- and eight whatever is listed
pub eight_each : (ms : List Image) (n : ℕ) → 8 * n ≤ (length ms + 8) * n
eight_each ms n = mul-le-mul_right n (omega arith)

-- what the kinds want (SPEC 3.6, 14.5)
pub translates_room : (g : Grid) → ask_room 0 g ≡ 9 * cells g
translates_room g = refl

pub images_room : (g : Grid) → ask_room 1 g ≡ 16 * cells g
unfolding range
images_room g = refl

-- QUESTION 2: a record with the number of no kind is refused by every call, and record and buffer are as they were (SPEC 14.4)
module _ (p : Puzzle) (size : sizes_ok (grid_of p) ≡ true) (none : 1 < p.kind) where
  pub no_kind : puzzle_code p ≡ 2
  unfolding together
  no_kind = rw (size, lt-leb p.kind 1 none, both_false (both (leb p.given_len most_borders) (leb p.clues_len most_cells))) refl

  pub stroke_refused : (ds : List Decision) → stroke_of p ds ≡ answer 2 p
  stroke_refused ds = rw no_kind refl

  pub decide_refused : (border : ℕ) (wall : Bool) → decide_of p border wall ≡ answer 2 p
  decide_refused border wall = stroke_refused (single border wall)

  pub undo_refused : undo_of p ≡ answer 2 p
  undo_refused = rw no_kind refl

  pub ask_refused : (buf : List ℕ) → ask_of p buf ≡ record { answer = Refused 2; buffer = buf }
  ask_refused buf = rw no_kind refl
