-- Full boards that are right, and some that are not: the laws say something both ways, and the kinds of puzzle differ. Assumes nothing.
use Prim.Native.Nat.{ℕ}
use mathlib.Core.Path.{◌≡◌, refl}
use mathlib.Core.Logic.{inl, inr, ⊎_elim}
use mathlib.Core.Bool.{Bool, true}
use mathlib.Core.List.{List, [], ◌∷◌, map}
use mathlib.Core.Option.{some-ne-none}
use borrow.Author.Tests.{eqb-true}
use lib.Dec.{eqb}
use Rattle.lists.specs.Choice.{either}
use Rattle.lists.specs.Lists.{range, all}
use Rattle.lists.proofs.ChoiceLaws.{either_true}
use Rattle.lists.proofs.ListLaws.{all_true, range_in}
use Rattle.grid.specs.declared.Grid.{Grid}
use Rattle.grid.specs.Grid.{grid, border_count}
use Rattle.images.specs.Images.{image, translates, all_images}
use Rattle.borders.specs.Border.{state_of}
use Rattle.shape.specs.Shape.{shape_fault}
use Rattle.shape.specs.Laws.{FullBoard, RightShape}
use Rattle.shape.proofs.Theorems.{full}

-- each border of a board is looked at
abbrev decided : List ℕ → ℕ → Bool
decided states e = either (eqb (state_of states e) 1) (eqb (state_of states e) 2)

is_full : (g : Grid) (states : List ℕ) → all (decided states) (range (border_count g)) ≡ true → FullBoard g (state_of states)
is_full g states q e l =
    ⊎_elim
    (λ k. inl (eqb-true (state_of states e) 1 k))
    (λ k. inr (eqb-true (state_of states e) 2 k))
    (either_true (eqb (state_of states e) 1) (eqb (state_of states e) 2) (all_true (decided states) (range (border_count g)) q e (range_in (border_count g) e l)))

-- 1 by 2, Wall
abbrev two : List ℕ
two = 2 ∷ []

two_full : FullBoard (grid 1 2) (state_of two)
unfolding all range
two_full = is_full (grid 1 2) two refl

two_right : RightShape translates (grid 1 2) (state_of two)
unfolding shape_fault
two_right = (full translates (grid 1 2) two two_full).0 refl

-- 2 by 2, 0 and 1 Connected, 2 and 3 Wall
abbrev dominoes : List ℕ
dominoes = 1 ∷ 1 ∷ 2 ∷ 2 ∷ []

dominoes_full : FullBoard (grid 2 2) (state_of dominoes)
unfolding all range
dominoes_full = is_full (grid 2 2) dominoes refl

dominoes_right : RightShape translates (grid 2 2) (state_of dominoes)
unfolding shape_fault
dominoes_right = (full translates (grid 2 2) dominoes dominoes_full).0 refl

-- 1 by 1: the only unit has no other
abbrev one : List ℕ
one = []

one_full : FullBoard (grid 1 1) (state_of one)
unfolding all range
one_full = is_full (grid 1 1) one refl

one_wrong : RightShape translates (grid 1 1) (state_of one) → ⊥
unfolding shape_fault range
one_wrong r = some-ne-none [] ((full translates (grid 1 1) one one_full).1 r)

-- 2 by 3, the cells 0, 1 and 3 one unit, and 2, 4 and 5 the other: each is the other after two quarter turns, and not its translate
abbrev corners : List ℕ
corners = 1 ∷ 2 ∷ 2 ∷ 1 ∷ 1 ∷ 2 ∷ 1 ∷ []

corners_full : FullBoard (grid 2 3) (state_of corners)
unfolding all range
corners_full = is_full (grid 2 3) corners refl

corners_right : RightShape all_images (grid 2 3) (state_of corners)
unfolding shape_fault
corners_right = (full all_images (grid 2 3) corners corners_full).0 refl

corners_wrong : RightShape translates (grid 2 3) (state_of corners) → ⊥
unfolding shape_fault range
corners_wrong r = some-ne-none (8 ∷ 0 ∷ 11 ∷ 3 ∷ 5 ∷ 11 ∷ 3 ∷ 5 ∷ 3 ∷ 11 ∷ 5 ∷ []) ((full translates (grid 2 3) corners corners_full).1 r)

-- 2 by 6, the cells 0, 6, 7 and 8 one unit, and 5, 9, 10 and 11 another: each is the other mirrored, and not turned; two of two cells lie between
abbrev mirrored : List ℕ
mirrored = 2 ∷ 1 ∷ 2 ∷ 1 ∷ 2 ∷ 1 ∷ 1 ∷ 2 ∷ 1 ∷ 1 ∷ 1 ∷ 2 ∷ 2 ∷ 2 ∷ 2 ∷ 1 ∷ []

mirrored_full : FullBoard (grid 2 6) (state_of mirrored)
unfolding all range
mirrored_full = is_full (grid 2 6) mirrored refl

mirrored_right : RightShape all_images (grid 2 6) (state_of mirrored)
unfolding shape_fault
mirrored_right = (full all_images (grid 2 6) mirrored mirrored_full).0 refl

mirrored_wrong : RightShape (map image (range 4)) (grid 2 6) (state_of mirrored) → ⊥
unfolding shape_fault range
mirrored_wrong r =
    some-ne-none (27 ∷ 27 ∷ 29 ∷ 9 ∷ 20 ∷ 1 ∷ 10 ∷ 12 ∷ 23 ∷ 25 ∷ 15 ∷ 1 ∷ 23 ∷ 25 ∷ 15 ∷ 23 ∷ 1 ∷ 25 ∷ 5 ∷ 9 ∷ 27 ∷ 15 ∷ 29 ∷ [])
    ((full (map image (range 4)) (grid 2 6) mirrored mirrored_full).1 r)
