-- What an image makes of cells inside a picture: they stay inside, different cells stay different, and neighbours stay neighbours, in the direction of the image.
-- One case a direction for the mirror and for one quarter turn; the rest is the number of turns. Assumes nothing.
use Prim.Native.Nat.{ℕ, zero, suc, ◌%◌, ◌≤◌, ◌<◌}
use mathlib.Core.Path.{◌≡◌, refl, ap}
use mathlib.Core.Bool.{Bool, true, false}
use native.Mathlib.Omega.{arith}
use lib.Dec.{leb}
use Rattle.lists.specs.Choice.{pick}
use Rattle.grid.specs.declared.Direction.{Direction}
use Rattle.grid.specs.declared.Direction.TheVariants.{Up, Down, Left, Right}
use Rattle.grid.specs.declared.Grid.{Grid}
use Rattle.grid.specs.Grid.{Limits}
use Rattle.grid.specs.Steps.{Beside}
use Rattle.images.specs.declared.Spot.{Spot}
use Rattle.images.specs.declared.Image.{Image}
use Rattle.images.specs.Symmetries.{Inside}
use Rattle.images.specs.Images.{Picture, mirrored, clockwise, turned, mirrored_to, clockwise_to, turned_to, direction_in, spot_in, image, translate}
use Rattle.images.proofs.Turns.{inverse, act_good, act_inverse}
use Rattle.images.proofs.Pictures.{pictures, directions, at, one_spot}

-- two cells inside one picture
pub record Pair (p q : Picture) : Type 0 where
  pub one : Inside p.size p.spot
  pub other : Inside q.size q.spot
  pub high : p.size.height ≡ q.size.height
  pub wide : p.size.width ≡ q.size.width

pub mirrored_pair : (p q : Picture) → Pair p q → Pair (mirrored p) (mirrored q)
mirrored_pair p q h =
    record {
      one = record { rows = h.one.rows; cols = omega (arith, h.one.cols) };
      other = record { rows = h.other.rows; cols = omega (arith, h.other.cols) };
      high = h.high;
      wide = h.wide;
    }

pub clockwise_pair : (p q : Picture) → Pair p q → Pair (clockwise p) (clockwise q)
clockwise_pair p q h =
    record {
      one = record { rows = h.one.cols; cols = omega (arith, h.one.rows) };
      other = record { rows = h.other.cols; cols = omega (arith, h.other.rows) };
      high = h.wide;
      wide = h.high;
    }

pub turned_pair : (n : ℕ) (p q : Picture) → Pair p q → Pair (turned n p) (turned n q)
turned_pair zero p q h = h
turned_pair (suc n) p q h = clockwise_pair (turned n p) (turned n q) (turned_pair n p q h)

-- neighbours in one picture
abbrev Near : Direction → Picture → Picture → Type 0
Near d p q = Beside d p.spot.row p.spot.col q.spot.row q.spot.col

mirrored_near : (d : Direction) (p q : Picture) → Pair p q → Near d p q → Near (mirrored_to d) (mirrored p) (mirrored q)
mirrored_near Up p q h k = omega (arith, h.one.cols, h.other.cols, h.wide)
mirrored_near Down p q h k = omega (arith, h.one.cols, h.other.cols, h.wide)
mirrored_near Left p q h k = omega (arith, h.one.cols, h.other.cols, h.wide)
mirrored_near Right p q h k = omega (arith, h.one.cols, h.other.cols, h.wide)

near_mirrored : (d : Direction) (p q : Picture) → Pair p q → Near (mirrored_to d) (mirrored p) (mirrored q) → Near d p q
near_mirrored Up p q h k = omega (arith, h.one.cols, h.other.cols, h.wide)
near_mirrored Down p q h k = omega (arith, h.one.cols, h.other.cols, h.wide)
near_mirrored Left p q h k = omega (arith, h.one.cols, h.other.cols, h.wide)
near_mirrored Right p q h k = omega (arith, h.one.cols, h.other.cols, h.wide)

clockwise_near : (d : Direction) (p q : Picture) → Pair p q → Near d p q → Near (clockwise_to d) (clockwise p) (clockwise q)
clockwise_near Up p q h k = omega (arith, h.one.rows, h.other.rows, h.high)
clockwise_near Down p q h k = omega (arith, h.one.rows, h.other.rows, h.high)
clockwise_near Left p q h k = omega (arith, h.one.rows, h.other.rows, h.high)
clockwise_near Right p q h k = omega (arith, h.one.rows, h.other.rows, h.high)

near_clockwise : (d : Direction) (p q : Picture) → Pair p q → Near (clockwise_to d) (clockwise p) (clockwise q) → Near d p q
near_clockwise Up p q h k = omega (arith, h.one.rows, h.other.rows, h.high)
near_clockwise Down p q h k = omega (arith, h.one.rows, h.other.rows, h.high)
near_clockwise Left p q h k = omega (arith, h.one.rows, h.other.rows, h.high)
near_clockwise Right p q h k = omega (arith, h.one.rows, h.other.rows, h.high)

turned_near : (n : ℕ) (d : Direction) (p q : Picture) → Pair p q → Near d p q → Near (turned_to n d) (turned n p) (turned n q)
turned_near zero d p q h k = k
turned_near (suc n) d p q h k = clockwise_near (turned_to n d) (turned n p) (turned n q) (turned_pair n p q h) (turned_near n d p q h k)

near_turned : (n : ℕ) (d : Direction) (p q : Picture) → Pair p q → Near (turned_to n d) (turned n p) (turned n q) → Near d p q
near_turned zero d p q h k = k
near_turned (suc n) d p q h k = near_turned n d p q h (near_clockwise (turned_to n d) (turned n p) (turned n q) (turned_pair n p q h) k)

-- one place
record One (p q : Picture) : Type 0 where
  rows : p.spot.row ≡ q.spot.row
  cols : p.spot.col ≡ q.spot.col

mirrored_one : (p q : Picture) → Pair p q → One (mirrored p) (mirrored q) → One p q
mirrored_one p q h k = record { rows = k.rows; cols = omega (arith, k.cols, h.one.cols, h.other.cols, h.wide) }

clockwise_one : (p q : Picture) → Pair p q → One (clockwise p) (clockwise q) → One p q
clockwise_one p q h k = record { rows = omega (arith, k.cols, h.one.rows, h.other.rows, h.high); cols = k.rows }

turned_one : (n : ℕ) (p q : Picture) → Pair p q → One (turned n p) (turned n q) → One p q
turned_one zero p q h k = k
turned_one (suc n) p q h k = turned_one n p q h (clockwise_one (turned n p) (turned n q) (turned_pair n p q h) k)

-- sides of at most 32 (SPEC 1.1)
record Fits (p : Picture) : Type 0 where
  height : p.size.height ≤ 32
  width : p.size.width ≤ 32

turned_fits : (n : ℕ) (p : Picture) → Fits p → Fits (turned n p)
turned_fits zero p h = h
turned_fits (suc n) p h = let k = turned_fits n p h in record { height = k.width; width = k.height }

-- so many turns, after the mirror or without
module _ (n : ℕ) where
  abbrev Goes : Bool → Picture → Picture
  Goes b p = turned n (pick b (mirrored p) p)

  abbrev Goes_to : Bool → Direction → Direction
  Goes_to b d = turned_to n (pick b (mirrored_to d) d)

  goes_near : (b : Bool) (d : Direction) (p q : Picture) → Pair p q → Near d p q → Near (Goes_to b d) (Goes b p) (Goes b q)
  goes_near true d p q h k = turned_near n (mirrored_to d) (mirrored p) (mirrored q) (mirrored_pair p q h) (mirrored_near d p q h k)
  goes_near false d p q h k = turned_near n d p q h k

  near_goes : (b : Bool) (d : Direction) (p q : Picture) → Pair p q → Near (Goes_to b d) (Goes b p) (Goes b q) → Near d p q
  near_goes true d p q h k = near_mirrored d p q h (near_turned n (mirrored_to d) (mirrored p) (mirrored q) (mirrored_pair p q h) k)
  near_goes false d p q h k = near_turned n d p q h k

  goes_one : (b : Bool) (p q : Picture) → Pair p q → One (Goes b p) (Goes b q) → One p q
  goes_one true p q h k = mirrored_one p q h (turned_one n (mirrored p) (mirrored q) (mirrored_pair p q h) k)
  goes_one false p q h k = turned_one n p q h k

  goes_fits : (b : Bool) (p : Picture) → Fits p → Fits (Goes b p)
  goes_fits true p h = turned_fits n (mirrored p) (record { height = h.height; width = h.width })
  goes_fits false p h = turned_fits n p h

module _ (m : Image) (g : Grid) (d : Direction) (ay ax by bx : ℕ) (ya : ay < g.height) (xa : ax < g.width) (yb : by < g.height) (xb : bx < g.width) where
  both_in : Pair (at g ay ax) (at g by bx)
  both_in = record { one = record { rows = ya; cols = xa }; other = record { rows = yb; cols = xb }; high = refl; wide = refl }

  pub beside_in : Beside d ay ax by bx
      → let a = spot_in g m (record { row = ay; col = ax }) in
      let b = spot_in g m (record { row = by; col = bx }) in
      Beside (direction_in m d) a.row a.col b.row b.col
  beside_in = goes_near (m.number % 4) (leb 4 m.number) d (at g ay ax) (at g by bx) both_in

  pub beside_out : (let a = spot_in g m (record { row = ay; col = ax }) in
      let b = spot_in g m (record { row = by; col = bx }) in
      Beside (direction_in m d) a.row a.col b.row b.col) → Beside d ay ax by bx
  beside_out = near_goes (m.number % 4) (leb 4 m.number) d (at g ay ax) (at g by bx) both_in

-- different cells stand on different places
pub spot_one : (m : Image) (g : Grid) (p q : Spot) → p.row < g.height → p.col < g.width → q.row < g.height → q.col < g.width
    → spot_in g m p ≡ spot_in g m q → p ≡ q
spot_one m g p q py px qy qx e =
    let k =
    goes_one (m.number % 4) (leb 4 m.number) (record { size = g; spot = p }) (record { size = g; spot = q })
    (record { one = record { rows = py; cols = px }; other = record { rows = qy; cols = qx }; high = refl; wide = refl })
    (record { rows = ap (λ (s : Spot). s.row) e; cols = ap (λ (s : Spot). s.col) e }) in
    one_spot p q.row q.col k.rows k.cols

pub spot_low : (g : Grid) (m : Image) (p : Spot) → p.row < g.height → p.col < g.width → Limits g → ((spot_in g m p).row < 32) × ((spot_in g m p).col < 32)
spot_low g m p y x l =
    let k = act_good pictures m.number (record { size = g; spot = p }) (record { rows = y; cols = x }) in
    let f = goes_fits (m.number % 4) (leb 4 m.number) (record { size = g; spot = p }) (record { height = l.height_fits; width = l.width_fits }) in
    (omega (arith, k.rows, f.height), omega (arith, k.cols, f.width))

-- the way back of a direction
abbrev pub direction_out : Image → Direction → Direction
direction_out m d = direction_in (image (inverse m.number)) d

pub out_in : (m : Image) (d : Direction) → direction_in m (direction_out m d) ≡ d
out_in m d = (act_inverse directions m.number d tt).1

pub translate_spot : (g : Grid) (p : Spot) → spot_in g translate p ≡ p
translate_spot g p = refl

pub translate_direction : (d : Direction) → direction_in translate d ≡ d
translate_direction d = refl
