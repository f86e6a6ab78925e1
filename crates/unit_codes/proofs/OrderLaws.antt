-- The rows that a unit's cells span in an image that keeps the rows: from its first cell's to its last cell's, since they stand in row order. Assumes
-- nothing.
use Prim.Native.Nat.{ℕ, zero, suc, ◌+◌, ◌-◌, ◌*◌, ◌/◌, ◌%◌, ◌≤◌, ◌<◌}
use mathlib.Core.Path.{◌≡◌, refl, ap, subst, ◌∙◌}
use mathlib.Core.Logic.{inl, inr}
use mathlib.Core.Bool.{Bool, true, false}
use mathlib.Core.List.{List, [], ◌∷◌, ◌++◌}
use native.Mathlib.Omega.{arith}
use native.Mathlib.Nat.{div-lt_iff_lt-mul, lt-suc_self, lt_of_le_of_lt, le_of_suc-le-suc}
use borrow.Author.Tests.{eq-eqb}
use lib.Dec.{eqb, leb}
use lib.ListN.{get_or, length}
use Rattle.lists.specs.Choice.{pick, when}
use Rattle.lists.specs.Lists.{In, range, count_from, keep}
use Rattle.lists.proofs.ListLaws.{in_keep, get_d_in, true_any}
use Rattle.grid.specs.declared.Grid.{Grid}
use Rattle.grid.specs.Grid.{Cell, cells, row}
use Rattle.groups.specs.Groups.{cells_in, cells_of}
use Rattle.images.specs.declared.Image.{Image}
use Rattle.images.specs.declared.Spot.{Spot}
use Rattle.images.specs.Images.{Picture, mirrored, turned, spot}
use Rattle.shape.specs.Shape.{head_or0}
use Rattle.offsets.specs.declared.table.CellInfo.{CellInfo}
use Rattle.offsets.specs.Table.{unit_in, units_in}
use Rattle.offsets.specs.Trial.{Unit}
use Rattle.offsets.proofs.TrialLaws.{head_at, unit_cell}
use Rattle.unit_codes.specs.Spans.{image_row, Stands, Spans}
use Rattle.unit_codes.proofs.SpanLaws.{in_has}

-- a list that rises
abbrev Above : ℕ → List ℕ → Type 0
Above a l = (c : ℕ) → In c l → a ≤ c

abbrev Rising : List ℕ → Type 0
Rising [] = Prim.Unit {0}
Rising (x ∷ xs) = Above (suc x) xs × Rising xs

count_above : (a n : ℕ) → Above a (count_from a n)
unfolding count_from
count_above a zero c m = absurd m
count_above a (suc n) c (inl e) = omega arith
count_above a (suc n) c (inr m) = omega (arith, count_above (suc a) n c m)

step_rising : (b : Bool) (a : ℕ) (l : List ℕ) → Above (suc a) l → Rising l → Rising (when b a ++ l)
unfolding when
step_rising true a l h r = (h, r)
step_rising false a l h r = r

keep_rising : (p : ℕ → Bool) (a n : ℕ) → Rising (keep p (count_from a n))
unfolding keep count_from
keep_rising p a zero = tt
keep_rising p a (suc n) =
    step_rising (p a) a (keep p (count_from (suc a) n)) (λ c m. count_above (suc a) n c (in_keep p (count_from (suc a) n) c m).0) (keep_rising p (suc a) n)

-- its first member is the lowest, its last the highest
head_low : (l : List ℕ) (c : ℕ) → Rising l → In c l → head_or0 l ≤ c
unfolding head_or0
head_low [] c r m = absurd m
head_low (x ∷ xs) c r (inl e) = omega arith
head_low (x ∷ xs) c r (inr m) = omega (arith, r.0 c m)

last_high : (l : List ℕ) (c : ℕ) → Rising l → In c l → c ≤ get_or l (length l - 1) 0
last_high [] c r m = absurd m
last_high (x ∷ []) c r (inl e) = omega arith
last_high (x ∷ []) c r (inr m) = absurd m
last_high (x ∷ y ∷ ys) c r (inl e) =
    let k = last_high (y ∷ ys) y r.1 (inl refl) in
    let h = r.0 y (inl refl) in
    subst (λ (n : ℕ). c ≤ get_or (x ∷ y ∷ ys) n 0) (let q : suc (length (y ∷ ys) - 1) ≡ length (x ∷ y ∷ ys) - 1 = omega arith in q) (omega (arith, e, h, k))
last_high (x ∷ y ∷ ys) c r (inr m) =
    subst (λ (n : ℕ). c ≤ get_or (x ∷ y ∷ ys) n 0) (let q : suc (length (y ∷ ys) - 1) ≡ length (x ∷ y ∷ ys) - 1 = omega arith in q) (last_high (y ∷ ys) c r.1 m)

row_mono : (w a b : ℕ) → 0 < w → a ≤ b → a / w ≤ b / w
row_mono w a b p h =
    let u : b < suc (b / w) * w = (div-lt_iff_lt-mul p).0 (lt-suc_self (b / w)) in
    let v : a < suc (b / w) * w = lt_of_le_of_lt h u in
    le_of_suc-le-suc ((div-lt_iff_lt-mul p).1 v)

-- a unit's cells lie between the rows of its first and its last
between : (g : Grid) (ids : List ℕ) (unit c : ℕ) → 0 < g.width → In c (cells_of g ids unit)
    → (row g (head_or0 (cells_of g ids unit)) ≤ row g c) × (row g c ≤ row g (get_or (cells_of g ids unit) (length (cells_of g ids unit) - 1) 0))
unfolding cells_in range
between g ids unit c w m =
    let l = keep (λ z. eqb (get_or ids z 0) unit) (count_from 0 (cells g)) in
    let r = keep_rising (λ z. eqb (get_or ids z 0) unit) 0 (cells g) in
    (row_mono g.width (head_or0 l) c w (head_low l c r m), row_mono g.width c (get_or l (length l - 1) 0) w (last_high l c r m))

-- no quarter turns, or four: rows stay rows
kept_row : (m : Image) (g : Grid) (c : ℕ) → m.number % 4 ≡ 0 → image_row m g c ≡ row g c
unfolding image_row
kept_row m g c e = ap (λ (n : ℕ). (turned n (pick (leb 4 m.number) (mirrored at) at)).spot.row) e ∙ go (leb 4 m.number)
  where
    at : Picture
    at = record { size = g; spot = spot g c }

    go : (b : Bool) → (pick b (mirrored at) at).spot.row ≡ row g c
    go true = refl
    go false = refl

-- the last cell of a unit
last_in : {g : Grid} {table : List CellInfo} {cs : List ℕ} → Unit g table cs → {end : ℕ} → end ≡ get_or cs (length cs - 1) 0 → In end cs
last_in {cs = cs} u e = rw e (get_d_in 0 cs (length cs - 1) (omega (arith, u.some)))

pub end_cell : {g : Grid} {table : List CellInfo} {cs : List ℕ} → Unit g table cs → {end : ℕ} → end ≡ get_or cs (length cs - 1) 0 → Cell g end
end_cell u {end} e = unit_cell u end (last_in u e)

-- where a unit's first and last cell stand
module _ {m : Image} {g : Grid} {table : List CellInfo} {cs : List ℕ} (kept : m.number % 4 ≡ 0) (u : Unit g table cs) {top end : ℕ} (top-is : top ≡ get_or cs 0 0) (end-is : end ≡ get_or cs (length cs - 1) 0)
    {from last : Spot} (p : Stands m g top from) (q : Stands m g end last) where
  end_in : In end cs
  end_in = last_in u end-is

  top_in : In top cs
  top_in = rw top-is (get_d_in 0 cs 0 u.some)

  bounds : (c : ℕ) → In c cs → (image_row m g top ≤ image_row m g c) × (image_row m g c ≤ image_row m g end)
  bounds c i =
      let e = u.cells_are in
      let b = between g (units_in g table) (unit_in table (head_or0 cs)) c (omega (arith, u.limits.wide)) (rw e at i) in
      let x = kept_row m g c kept in
      let y = kept_row m g top kept ∙ ap (row g) (top-is ∙ head_at cs) in
      let z = kept_row m g end kept ∙ ap (row g) end-is in
      let low : row g (head_or0 cs) ≤ row g c = rw (← e) at b.0 in
      let high : row g c ≤ row g (get_or cs (length cs - 1) 0) = rw (← e) at b.1 in
      (omega (arith, low, x, y), omega (arith, high, x, z))

  pub rises : from.row ≤ last.row
  rises = omega (arith, (bounds end end_in).0, p.row_is, q.row_is)

  pub kept_span : Spans m g cs (record { top = top; from = from; tall = last.row - from.row })
  kept_span =
      let tall = last.row - from.row in
      let e : image_row m g end ≡ image_row m g top + tall = omega (arith, (bounds end end_in).0, p.row_is, q.row_is) in
      record {
        top_in = in_has cs top top_in;
        top_at = p;
        within = λ c i. ((bounds c i).0, omega (arith, (bounds c i).1, e));
        ends = true_any (λ c. eqb (image_row m g c) (image_row m g top + tall)) cs end end_in (eq-eqb (image_row m g end) (image_row m g top + tall) e);
      }
