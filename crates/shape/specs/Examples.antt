-- The starred examples of the shape check (SPEC 7.1 to 7.5), and the boards that tell readings of the marks apart (13.1). Assumes nothing.
use Rattle.std.specs.Prelude.{ℕ, ◌≡◌, refl, Bool, true, false, List, [], ◌∷◌}
use Rattle.std.proofs.Math.Option.{none, some}
use Rattle.grid.specs.Grid.{grid}
use Rattle.images.specs.declared.Image.{Image}
use Rattle.images.specs.Images.{image, translates, all_images}
use Rattle.groups.specs.Groups.{group_ids}
use Rattle.shape.specs.Shape.{unit_of, fits, shape_fault}

-- SPEC 7.1
one_cell : shape_fault translates (grid 1 1) [] ≡ some []
unfolding shape_fault
one_cell = refl

-- SPEC 7.2
two_undecided : shape_fault translates (grid 1 2) (0 ∷ []) ≡ none
unfolding shape_fault
two_undecided = refl

two_connected : shape_fault translates (grid 1 2) (1 ∷ []) ≡ some (0 ∷ [])
unfolding shape_fault
two_connected = refl

two_parted : shape_fault translates (grid 1 2) (2 ∷ []) ≡ none
unfolding shape_fault
two_parted = refl

-- SPEC 7.3
three : shape_fault translates (grid 1 3) (2 ∷ 1 ∷ []) ≡ some (2 ∷ 2 ∷ 1 ∷ 1 ∷ 1 ∷ [])
unfolding shape_fault
three = refl

-- SPEC 7.4
inner_wall_lem : shape_fault translates (grid 2 2) (1 ∷ 1 ∷ 1 ∷ 2 ∷ []) ≡ some (2 ∷ 4 ∷ 0 ∷ 7 ∷ [])
unfolding shape_fault
inner_wall_lem = refl

-- SPEC 7.5
dominoes : shape_fault translates (grid 2 2) (1 ∷ 1 ∷ 2 ∷ 2 ∷ []) ≡ none
unfolding shape_fault
dominoes = refl

-- SPEC 13.1: the unit of the first two cells meets what a Wall parts from its potential unit, though none parts it from the unit
by_potential_unit : shape_fault translates (grid 1 5) (1 ∷ 0 ∷ 2 ∷ 0 ∷ []) ≡ none
unfolding shape_fault
by_potential_unit = refl

-- SPEC 13.1: the last unit would fit on the first two cells, which are marked for units before it, and not for it
marks_gone : shape_fault translates (grid 1 5) (0 ∷ 2 ∷ 2 ∷ 1 ∷ []) ≡ some (3 ∷ 6 ∷ 5 ∷ 3 ∷ 5 ∷ 5 ∷ [])
unfolding shape_fault
marks_gone = refl

-- SPEC 14.2: each of the eight images fails at the Wall, repeats included
every_image : shape_fault all_images (grid 1 3) (2 ∷ 1 ∷ []) ≡ some (2 ∷ 2 ∷ 2 ∷ 2 ∷ 2 ∷ 2 ∷ 2 ∷ 2 ∷ 2 ∷ 2 ∷ 2 ∷ 2 ∷ 2 ∷ 2 ∷ 2 ∷ 2 ∷ 1 ∷ 1 ∷ 1 ∷ [])
unfolding shape_fault
every_image = refl

-- SPEC 14.2: of the unit of cells 1 and 2, image 2 has the cells of image 0, and image 3 those of image 1; it fits by the later two, and not by
-- the first two, so whoever passes over an image whose cells are an earlier one's calls it a fault
same_cells : shape_fault all_images (grid 2 3) (2 ∷ 1 ∷ 1 ∷ 0 ∷ 1 ∷ 0 ∷ 0 ∷ []) ≡ none
unfolding shape_fault
same_cells = refl

-- unit 1 of that board fits by one of these images
abbrev one_fits : List Image → Bool
one_fits ms =
    let g = grid 2 3 in
    let states : List ℕ = 2 ∷ 1 ∷ 1 ∷ 0 ∷ 1 ∷ 0 ∷ 0 ∷ [] in
    let ids = group_ids g states false in
    let pids = group_ids g states true in
    fits ms g states ids pids (unit_of g ids pids 1)

by_first_two : one_fits (image 0 ∷ image 1 ∷ []) ≡ false
unfolding fits unit_of group_ids
by_first_two = refl

by_second_two : (one_fits (image 2 ∷ []) ≡ true) × (one_fits (image 3 ∷ []) ≡ true)
unfolding fits unit_of group_ids
by_second_two = (refl, refl)
