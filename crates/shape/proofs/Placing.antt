-- An image, moved so that it puts f on t: `place` computes it, and a step goes with its image. Turned rows and columns are linear, so one
-- case a direction closes each law. Assumes nothing.
use Prim.Native.Nat.{ℕ, ◌+◌, ◌-◌, ◌*◌, ◌<◌}
use mathlib.Core.Path.{◌≡◌, refl, ap, sym, ◌∙◌}
use mathlib.Core.Logic.{◌↔◌}
use mathlib.Core.Option.{Option, some, some-injective}
use native.Mathlib.Omega.{arith}
use native.Mathlib.Nat.{div-add-mod', div-lt_iff_lt-mul}
use borrow.Author.Tests.{leb-true, le-leb, ltb-true, lt-ltb}
use lib.Dec.{leb, ltb}
use Rattle.lists.specs.Choice.{both, through}
use Rattle.lists.proofs.ChoiceLaws.{both_true, true_both, give_some, through_some}
use Rattle.grid.specs.declared.Direction.{Direction}
use Rattle.grid.specs.declared.Direction.TheVariants.{Up, Down, Left, Right}
use Rattle.grid.specs.declared.Grid.{Grid}
use Rattle.grid.specs.Grid.{Cell, row, col}
use Rattle.grid.specs.Steps.{Beside, Step}
use Rattle.grid.proofs.Geometry.{coords, cell_wide, row_lt, col_lt}
use Rattle.images.specs.declared.Spot.{Spot}
use Rattle.images.specs.declared.Image.{Image}
use Rattle.images.specs.Images.{direction_in, spot, spot_in, translate}
use Rattle.images.proofs.Beside.{direction_out, out_in, beside_in, beside_out}
use Rattle.borders.proofs.Choices.{give_true}
use Rattle.shape.specs.Shape.{along, place, offset}
use Rattle.shape.specs.Laws.{Takes}
use Rattle.shape.proofs.Moves.{Moves}

-- a shift of both keeps them beside one another
beside_on : (d : Direction) (ay ax by bx fy fx ty tx xy xx yy yx : ℕ) → Beside d ay ax by bx
    → ay + ty ≡ xy + fy → ax + tx ≡ xx + fx → by + ty ≡ yy + fy → bx + tx ≡ yx + fx → Beside d xy xx yy yx
beside_on Up ay ax by bx fy fx ty tx xy xx yy yx h p q r s = omega arith
beside_on Down ay ax by bx fy fx ty tx xy xx yy yx h p q r s = omega arith
beside_on Left ay ax by bx fy fx ty tx xy xx yy yx h p q r s = omega arith
beside_on Right ay ax by bx fy fx ty tx xy xx yy yx h p q r s = omega arith

-- the same step, from a and from where a falls, ends where the shift takes one to the other
beside_follows : (d : Direction) (ay ax by bx fy fx ty tx xy xx yy yx : ℕ) → Beside d ay ax by bx → Beside d xy xx yy yx
    → ay + ty ≡ xy + fy → ax + tx ≡ xx + fx → (by + ty ≡ yy + fy) × (bx + tx ≡ yx + fx)
beside_follows Up ay ax by bx fy fx ty tx xy xx yy yx h k p q = omega arith
beside_follows Down ay ax by bx fy fx ty tx xy xx yy yx h k p q = omega arith
beside_follows Left ay ax by bx fy fx ty tx xy xx yy yx h k p q = omega arith
beside_follows Right ay ax by bx fy fx ty tx xy xx yy yx h k p q = omega arith

-- on a line
along_is : (n f t u v : ℕ) → along n f t u ≡ some v → (u + t ≡ v + f) × (v < n)
unfolding along
along_is n f t u v q =
    let o = give_some (both (leb f (u + t)) (ltb (u + t - f) n)) (u + t - f) v q in
    let k = both_true (leb f (u + t)) (ltb (u + t - f) n) o.0 in
    let a = leb-true f (u + t) k.0 in
    let b = ltb-true (u + t - f) n k.1 in
    (omega (arith, o.1), omega (arith, o.1))

is_along : (n f t u v : ℕ) → u + t ≡ v + f → v < n → along n f t u ≡ some v
unfolding along
is_along n f t u v q l =
    let e : u + t - f ≡ v = omega arith in
    give_true _ (u + t - f) (true_both _ _ (le-leb f (u + t) (omega arith)) (lt-ltb (u + t - f) n (rw e l))) ∙ ap some e

through_at : {A B : Type 0} (o : Option A) (h : A → Option B) (x : A) → o ≡ some x → through o h ≡ h x
unfolding through
through_at o h x q = rw q

-- told by another cell that it takes, the same shift of a line
told_again : (a t x f f' t' : ℕ) → f' + t ≡ t' + f → a + t ≡ x + f → a + t' ≡ x + f'
told_again a t x f f' t' k p = omega arith

told_before : (a t x f f' t' : ℕ) → f' + t ≡ t' + f → a + t' ≡ x + f' → a + t ≡ x + f
told_before a t x f f' t' k p = omega arith

-- both coordinates of where a falls
module _ (g : Grid) (F A : Spot) (t : ℕ) where
  abbrev placed : Option ℕ
  placed = through (along g.height F.row (row g t) A.row) (λ y. through (along g.width F.col (col g t) A.col) (λ x. some (y * g.width + x)))

  placed_is : (x : ℕ) → 0 < g.width → placed ≡ some x → Cell g x × (A.row + row g t ≡ row g x + F.row) × (A.col + col g t ≡ col g x + F.col)
  placed_is x wide q =
      let y = through_some (along g.height F.row (row g t) A.row) _ x q in
      let z = through_some (along g.width F.col (col g t) A.col) _ x y.2 in
      let p = along_is g.height F.row (row g t) A.row y.0 y.1 in
      let r = along_is g.width F.col (col g t) A.col z.0 z.1 in
      let k = coords g.width x y.0 z.0 r.1 (sym (some-injective _ x z.2)) in
      let rx : row g x < g.height = omega (arith, k.0, p.1) in
      ((div-lt_iff_lt-mul wide).0 rx, omega (arith, k.0, p.0), omega (arith, k.1, r.0))

  is_placed : (x : ℕ) → Cell g x → A.row + row g t ≡ row g x + F.row → A.col + col g t ≡ col g x + F.col → placed ≡ some x
  is_placed x l p q =
      through_at _ _ (row g x) (is_along g.height F.row (row g t) A.row (row g x) p (row_lt g x l))
      ∙ through_at _ _ (col g x) (is_along g.width F.col (col g t) A.col (col g x) q (col_lt g x l))
      ∙ ap some (div-add-mod' x g.width)

module _ (m : Image) (g : Grid) (f t : ℕ) where
  -- a cell in the image
  abbrev in_image : ℕ → Spot
  in_image c = spot_in g m (spot g c)

  place_is : (a x : ℕ) → Cell g a → place m g f t a ≡ some x → Takes m g f t a x
  unfolding place
  place_is a x l q = let k = placed_is g (in_image f) (in_image a) t x (cell_wide g a l) q in record { from = l; to = k.0; rows = k.1; cols = k.2 }

  is_place : (a x : ℕ) → Takes m g f t a x → place m g f t a ≡ some x
  unfolding place
  is_place a x r = is_placed g (in_image f) (in_image a) t x r.to r.rows r.cols

  -- what the turned step of a step of the board is
  beside_turned : (d : Direction) (a b e : ℕ) → Step g d a b e
      → Beside (direction_in m d) (in_image a).row (in_image a).col (in_image b).row (in_image b).col
  beside_turned d a b e s =
      beside_in m g d (row g a) (col g a) (row g b) (col g b) (row_lt g a s.cell) (col_lt g a s.cell) (row_lt g b s.cell') (col_lt g b s.cell') s.beside

  pub place_moves : Moves g (offset m g f t) (Takes m g f t)
  place_moves =
      record {
        puts = is_place;
        is_put = place_is;
        from = λ a x p. p.from;
        to = λ a x p. p.to;
        step_on = λ d a b x y e p q s.
            record {
              cell = p.to;
              cell' = q.to;
              beside =
                  let A = in_image a in
                  let B = in_image b in
                  let F = in_image f in
                  beside_on (direction_in m d) A.row A.col B.row B.col F.row F.col (row g t) (col g t) (row g x) (col g x) (row g y) (col g y)
                  (beside_turned d a b e s) p.rows p.cols q.rows q.cols;
              over = refl;
            };
        step_off = λ d a b x y e p q s.
            record {
              cell = p.from;
              cell' = q.from;
              beside =
                  let A = in_image a in
                  let B = in_image b in
                  let F = in_image f in
                  beside_out m g d (row g a) (col g a) (row g b) (col g b) (row_lt g a p.from) (col_lt g a p.from) (row_lt g b q.from) (col_lt g b q.from)
                  (beside_on (direction_in m d) (row g x) (col g x) (row g y) (col g y) (row g t) (col g t) F.row F.col A.row A.col B.row B.col
                  s.beside (sym p.rows) (sym p.cols) (sym q.rows) (sym q.cols));
              over = refl;
            };
        follows = λ d a b x y e e' p s r.
            let A = in_image a in
            let B = in_image b in
            let F = in_image f in
            let k =
            beside_follows (direction_in m d) A.row A.col B.row B.col F.row F.col (row g t) (col g t) (row g x) (col g x) (row g y) (col g y)
            (beside_turned d a b e s) r.beside p.rows p.cols in
            record { from = s.cell'; to = r.cell'; rows = k.0; cols = k.1 };
        back = direction_out m;
        turn_back = out_in m;
      }

  pub takes_start : Cell g f → Cell g t → Takes m g f t f t
  takes_start p q = record { from = p; to = q; rows = omega arith; cols = omega arith }

  -- the same placing, told by another cell
  module _ (f' t' : ℕ) (k : Takes m g f t f' t') (a x : ℕ) where
    pub rebase : Takes m g f t a x → Takes m g f' t' a x
    rebase p =
        record {
          from = p.from;
          to = p.to;
          rows = told_again (in_image a).row (row g t) (row g x) (in_image f).row (in_image f').row (row g t') k.rows p.rows;
          cols = told_again (in_image a).col (col g t) (col g x) (in_image f).col (in_image f').col (col g t') k.cols p.cols;
        }

    pub unbase : Takes m g f' t' a x → Takes m g f t a x
    unbase p =
        record {
          from = p.from;
          to = p.to;
          rows = told_before (in_image a).row (row g t) (row g x) (in_image f).row (in_image f').row (row g t') k.rows p.rows;
          cols = told_before (in_image a).col (col g t) (col g x) (in_image f).col (in_image f').col (col g t') k.cols p.cols;
        }

-- a translate is moved, and not turned (SPEC 2.5)
pub translation : (g : Grid) (f t a x : ℕ) → Takes translate g f t a x
    ↔ (Cell g a × Cell g x × (row g a + row g t ≡ row g x + row g f) × (col g a + col g t ≡ col g x + col g f))
translation g f t a x = (λ p. (p.from, p.to, p.rows, p.cols), λ k. record { from = k.0; to = k.1; rows = k.2; cols = k.3 })
