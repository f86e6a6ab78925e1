-- What keeps all distances on a square is one of the eight images (`NoOthers`): it takes corners to corners, an image takes these back, and what leaves two
-- corners of one side leaves all. Assumes nothing.
use Prim.Native.Nat.{ℕ, zero, suc, ◌+◌, ◌%◌, ◌≤◌, ◌<◌}
use mathlib.Core.Path.{◌≡◌, refl, ap, sym, ◌∙◌}
use mathlib.Core.Logic.{◌⊎◌, inl, inr, ⊎_elim}
use mathlib.Core.Bool.{Bool, true, false}
use native.Mathlib.Omega.{arith}
use lib.Dec.{leb}
use Rattle.std.proofs.lemmas.Nat.{mul-lt}
use Rattle.lists.specs.Choice.{pick}
use Rattle.lists.proofs.Cases.{le_or_lt}
use Rattle.grid.specs.declared.Grid.{Grid}
use Rattle.grid.specs.Grid.{grid}
use Rattle.images.specs.declared.Spot.{Spot}
use Rattle.images.specs.declared.Image.{Image}
use Rattle.images.specs.Images.{Picture, mirrored, turned, image_of, spot_in, image, translate}
use Rattle.images.specs.Symmetries.{Inside, apart, square, distance, Isometry, IsImage, NoOthers}
use Rattle.images.proofs.Turns.{act_good}
use Rattle.images.proofs.Pictures.{pictures, spot_at, one_spot}
use Rattle.images.proofs.Symmetries.{symmetries}

square_lt : (a b : ℕ) → a < b → square a < square b
square_lt a b l = mul-lt a a b b l l

square_le : (a b : ℕ) → a ≤ b → square a ≤ square b
square_le a b l = ⊎_elim (λ (k : b ≤ a). let e : a ≡ b = omega arith in rw e (omega arith)) (λ (k : a < b). omega (arith, square_lt a b k)) (le_or_lt b a)

square_one : (a b : ℕ) → square a ≡ square b → a ≡ b
square_one a b e =
    ⊎_elim
    (λ (k : a ≤ b). ⊎_elim (λ (l : b ≤ a). omega arith) (λ (l : a < b). absurd (omega (arith, square_lt a b l))) (le_or_lt b a))
    (λ (k : b < a). absurd (omega (arith, square_lt b a k)))
    (le_or_lt a b)

-- as far as can be
farthest : (n a b : ℕ) → a ≤ n → b ≤ n → square a + square b ≡ square n + square n → (a ≡ n) × (b ≡ n)
farthest n a b k l e =
    let p = square_le a n k in
    let q = square_le b n l in
    (square_one a n (omega arith), square_one b n (omega arith))

-- two ends of a line of n + 1
ends : (n a b : ℕ) → a ≤ n → b ≤ n → apart a b ≡ n → (a ≡ 0) ⊎ (a ≡ n)
ends n a b k l e = ⊎_elim (λ (o : a ≤ b). inl (omega arith)) (λ (o : b < a). inr (omega arith)) (le_or_lt a b)

-- rows can't make up for columns that are nearer to one end and farther from the other
clash : (y x w y' x' w' : ℕ) → y + x ≡ y' + x' → y + w ≡ y' + w' → x < x' → w' < w → ⊥
clash y x w y' x' w' p q k l = omega arith

level : (y x y' x' : ℕ) → y + x ≡ y' + x' → x ≡ x' → y ≡ y'
level y x y' x' p q = omega arith

-- two cells as far from both ends of the first row
record Alike (n : ℕ) (p q : Spot) : Type 0 where
  first : distance p (spot_at 0 0) ≡ distance q (spot_at 0 0)
  last : distance p (spot_at 0 n) ≡ distance q (spot_at 0 n)

alike_le : (n : ℕ) (p q : Spot) → p.col ≤ n → q.col ≤ n → Alike n p q → q.col ≤ p.col
alike_le n p q k l e =
    ⊎_elim (λ (o : q.col ≤ p.col). o)
    (λ (o : p.col < q.col).
    absurd (clash _ _ _ _ _ _ e.first e.last (square_lt (apart p.col 0) (apart q.col 0) (omega arith)) (square_lt (apart q.col n) (apart p.col n) (omega arith))))
    (le_or_lt q.col p.col)

-- they are one cell
alike_one : (n : ℕ) (p q : Spot) → p.col ≤ n → q.col ≤ n → Alike n p q → p ≡ q
alike_one n p q k l e =
    let a = alike_le n p q k l e in
    let b = alike_le n q p l k (record { first = sym e.first; last = sym e.last }) in
    let x : p.col ≡ q.col = omega arith in
    let y = square_one (apart p.row 0) (apart q.row 0) (level _ _ _ _ e.first (ap (λ z. square (apart z 0)) x)) in
    one_spot p q.row q.col (omega arith) x

module _ (n : ℕ) where
  abbrev board : Grid
  board = grid n n

  abbrev In : Spot → Type 0
  In p = Inside board p

  abbrev moved : Image → Spot → Spot
  moved m p = spot_in board m p

  abbrev pictured : Spot → Picture
  pictured p = record { size = board; spot = p }

  turned_size : (k : ℕ) (p : Picture) → p.size ≡ board → (turned k p).size ≡ board
  turned_size zero p e = e
  turned_size (suc k) p e = ap (λ (s : Grid). grid s.width s.height) (turned_size k p e)

  image_size : (m : Image) (p : Spot) → (image_of m (pictured p)).size ≡ board
  image_size m p = go (leb 4 m.number)
    where
      go : (b : Bool) → (turned (m.number % 4) (pick b (mirrored (pictured p)) (pictured p))).size ≡ board
      go true = turned_size (m.number % 4) (mirrored (pictured p)) refl
      go false = turned_size (m.number % 4) (pictured p) refl

  -- the image of a square is one
  image_square : (m : Image) (p : Spot) → image_of m (pictured p) ≡ pictured (moved m p)
  image_square m p = ap (λ (s : Grid). record { size = s; spot = moved m p }) (image_size m p)

  moved_in : (m : Image) (p : Spot) → In p → In (moved m p)
  moved_in m p h =
      let k = act_good pictures m.number (pictured p) h in
      let e = image_size m p in
      record { rows = omega (arith, k.rows, ap (λ (s : Grid). s.height) e); cols = omega (arith, k.cols, ap (λ (s : Grid). s.width) e) }

  moved_twice : (j k : Image) (p : Spot) → (image_of k (image_of j (pictured p))).spot ≡ moved k (moved j p)
  moved_twice j k p = ap (λ (q : Picture). (image_of k q).spot) (image_square j p)

  after : (m : Image) (f : Spot → Spot) → Isometry n f → Isometry n (λ p. moved m (f p))
  after m f i =
      record {
        stays_in = λ p h. moved_in m (f p) (i.stays_in p h);
        distances = λ p q h k. symmetries.distances m board (f p) (f q) (i.stays_in p h) (i.stays_in q k) ∙ i.distances p q h k;
      }

  -- what an image makes one of the eight was one of them
  before : (m : Image) (f : Spot → Spot) → Isometry n f → IsImage n (λ p. moved m (f p)) → IsImage n f
  before m f i (k, l, o) =
      let u = symmetries.undone m in
      let c = symmetries.composed k u.0 in (
        c.0,
        c.1.is_one,
        λ p h.
            ap (λ (q : Picture). q.spot) (u.2.cells (pictured (f p)) (i.stays_in p h))
            ∙ moved_twice m u.0 (f p)
            ∙ ap (moved u.0) (o p h)
            ∙ sym (moved_twice k u.0 p)
            ∙ sym (ap (λ (q : Picture). q.spot) (c.1.cells (pictured p) h)),
      )

  -- a side of two cells or more, and its last place
  module _ (l : ℕ) (side : n ≡ l + 1) (some : 0 < l) where
    abbrev first_corner : Spot
    first_corner = spot_at 0 0

    abbrev next_corner : Spot
    next_corner = spot_at 0 l

    low : (y x : ℕ) → y ≤ l → x ≤ l → In (spot_at y x)
    low y x k h = record { rows = omega arith; cols = omega arith }

    o : In first_corner
    o = low 0 0 (omega arith) (omega arith)

    r : In next_corner
    r = low 0 l (omega arith) (omega arith)

    -- corners go to corners
    to_corner : (f : Spot → Spot) → Isometry n f → (y x y' x' : ℕ) → y ≤ l → x ≤ l → y' ≤ l → x' ≤ l → apart y y' ≡ l → apart x x' ≡ l
        → (((f (spot_at y x)).row ≡ 0) ⊎ ((f (spot_at y x)).row ≡ l)) × (((f (spot_at y x)).col ≡ 0) ⊎ ((f (spot_at y x)).col ≡ l))
    to_corner f i y x y' x' a b c d p q =
        let u = f (spot_at y x) in
        let v = f (spot_at y' x') in
        let h = i.stays_in (spot_at y x) (low y x a b) in
        let k = i.stays_in (spot_at y' x') (low y' x' c d) in
        let e : distance u v ≡ square l + square l =
        i.distances (spot_at y x) (spot_at y' x') (low y x a b) (low y' x' c d) ∙ ap (λ z. square z + square (apart x x')) p ∙ ap (λ z. square l + square z) q in
        let w = farthest l (apart u.row v.row) (apart u.col v.col) (omega (arith, h.rows, k.rows)) (omega (arith, h.cols, k.cols)) e in
        (ends l u.row v.row (omega (arith, h.rows)) (omega (arith, k.rows)) w.0, ends l u.col v.col (omega (arith, h.cols)) (omega (arith, k.cols)) w.1)

    -- what leaves two corners of one side leaves all
    leaves : (f : Spot → Spot) → Isometry n f → f first_corner ≡ first_corner → f next_corner ≡ next_corner → IsImage n f
    leaves f i p q = (
      translate,
      omega arith,
      λ c h.
          let k = i.stays_in c h in
          alike_one l (f c) c (omega (arith, k.cols)) (omega (arith, h.cols))
          (record {
            first = sym (ap (distance (f c)) p) ∙ i.distances c first_corner h o;
            last = sym (ap (distance (f c)) q) ∙ i.distances c next_corner h r;
          }),
    )

    -- what leaves the first corner leaves the next, or does after an image over the diagonal
    leaves_one : (f : Spot → Spot) → Isometry n f → f first_corner ≡ first_corner → IsImage n f
    leaves_one f i p =
        let u = f next_corner in
        let k = to_corner f i 0 l l 0 (omega arith) (omega arith) (omega arith) (omega arith) (omega arith) (omega arith) in
        let e : square (apart u.row 0) + square (apart u.col 0) ≡ square (apart 0 0) + square (apart l 0) =
        sym (ap (distance u) p) ∙ i.distances next_corner first_corner r o in
        go u.row u.col (one_spot u u.row u.col refl refl) k.0 k.1 e
      where
        go : (y x : ℕ) → f next_corner ≡ spot_at y x → (y ≡ 0) ⊎ (y ≡ l) → (x ≡ 0) ⊎ (x ≡ l)
            → square (apart y 0) + square (apart x 0) ≡ square (apart 0 0) + square (apart l 0) → IsImage n f
        go y x q (inl a) (inr b) e = leaves f i p (q ∙ one_spot (spot_at y x) 0 l a b)
        go y x q (inr a) (inl b) e =
            let m = image 7 in
            before m f i (leaves (λ c. moved m (f c)) (after m f i)
            (ap (moved m) p ∙ one_spot (moved m first_corner) 0 0 (omega arith) (omega arith))
            (ap (moved m) q ∙ one_spot (moved m (spot_at y x)) 0 l (omega arith) (omega arith)))
        go y x q (inl a) (inl b) e = absurd (omega (arith, e, square_lt (apart y 0) (apart l 0) (omega arith), square_le (apart x 0) (apart 0 0) (omega arith)))
        go y x q (inr a) (inr b) e = absurd (omega (arith, e, square_le (apart l 0) (apart y 0) (omega arith), square_lt (apart 0 0) (apart x 0) (omega arith)))

    -- the image that takes a corner to the first
    leaves_none : (f : Spot → Spot) → Isometry n f → IsImage n f
    leaves_none f i =
        let u = f first_corner in
        let k = to_corner f i 0 0 l l (omega arith) (omega arith) (omega arith) (omega arith) (omega arith) (omega arith) in
        go u.row u.col (one_spot u u.row u.col refl refl) k.0 k.1
      where
        by : (m : Image) (y x : ℕ) → f first_corner ≡ spot_at y x → (moved m (spot_at y x)).row ≡ 0 → (moved m (spot_at y x)).col ≡ 0 → IsImage n f
        by m y x q a b = before m f i (leaves_one (λ c. moved m (f c)) (after m f i) (ap (moved m) q ∙ one_spot (moved m (spot_at y x)) 0 0 a b))

        go : (y x : ℕ) → f first_corner ≡ spot_at y x → (y ≡ 0) ⊎ (y ≡ l) → (x ≡ 0) ⊎ (x ≡ l) → IsImage n f
        go y x q (inl a) (inl b) = by (image 0) y x q a b
        go y x q (inl a) (inr b) = by (image 3) y x q (omega arith) (omega arith)
        go y x q (inr a) (inr b) = by (image 2) y x q (omega arith) (omega arith)
        go y x q (inr a) (inl b) = by (image 1) y x q (omega arith) (omega arith)

pub no_others : NoOthers
no_others zero f i = (translate, omega arith, λ c h. absurd (omega (arith, h.rows)))
no_others (suc zero) f i = (
  translate,
  omega arith,
  λ c h.
      let k = i.stays_in c h in
      one_spot (f c) c.row c.col (omega (arith, h.rows, k.rows)) (omega (arith, h.cols, k.cols)),
)
no_others (suc (suc n)) f i = leaves_none (suc (suc n)) (suc n) (omega arith) (omega arith) f i
