-- Pictures and directions are turned and mirrored as `Turns` wants. Assumes nothing.
use Prim.Native.Nat.{ℕ, ◌-◌, ◌<◌}
use mathlib.Core.Path.{◌≡◌, refl, ap, ◌∙◌}
use native.Mathlib.Omega.{arith}
use Rattle.grid.specs.declared.Direction.{Direction}
use Rattle.grid.specs.declared.Direction.TheVariants.{Up, Down, Left, Right}
use Rattle.grid.specs.declared.Grid.{Grid}
use Rattle.images.specs.declared.Spot.{Spot}
use Rattle.images.specs.Images.{Picture, mirrored, clockwise, turned, mirrored_to, clockwise_to, turned_to}
use Rattle.images.specs.Symmetries.{Inside}
use Rattle.images.proofs.Turns.{Turning}

-- a spot by its row and its column
abbrev pub spot_at : ℕ → ℕ → Spot
spot_at y x = record { row = y; col = x }

pub one_spot : (p : Spot) (y x : ℕ) → p.row ≡ y → p.col ≡ x → p ≡ spot_at y x
one_spot p y x e k = ap (λ z. spot_at z p.col) e ∙ ap (spot_at y) k

-- a picture by its size, row and column
abbrev pub at : Grid → ℕ → ℕ → Picture
at g y x = record { size = g; spot = spot_at y x }

-- from the other end and back
pub ends : (n a : ℕ) → a < n → n - 1 - (n - 1 - a) ≡ a
ends n a l = omega arith

abbrev pub pictures : Turning Picture
pictures =
    record {
      Good = λ p. Inside p.size p.spot;
      turn = clockwise;
      mirror = mirrored;
      turns = turned;
      none = λ p. refl;
      more = λ n p. refl;
      turn_good = λ p h. record { rows = h.cols; cols = omega (arith, h.rows) };
      mirror_good = λ p h. record { rows = h.rows; cols = omega (arith, h.cols) };
      four = λ p h.
          let x = p.size.width - 1 - (p.size.width - 1 - p.spot.col) in
          ap (λ y. at p.size y x) (ends p.size.height p.spot.row h.rows) ∙ ap (at p.size p.spot.row) (ends p.size.width p.spot.col h.cols);
      two = λ p h. ap (at p.size p.spot.row) (ends p.size.width p.spot.col h.cols);
      between = λ p h. ap (λ y. at p.size y (p.size.width - 1 - p.spot.col)) (ends p.size.height p.spot.row h.rows);
    }

pub four_ways : (d : Direction) → clockwise_to (clockwise_to (clockwise_to (clockwise_to d))) ≡ d
four_ways Up = refl
four_ways Down = refl
four_ways Left = refl
four_ways Right = refl

pub two_ways : (d : Direction) → mirrored_to (mirrored_to d) ≡ d
two_ways Up = refl
two_ways Down = refl
two_ways Left = refl
two_ways Right = refl

pub between_ways : (d : Direction) → clockwise_to (mirrored_to (clockwise_to d)) ≡ mirrored_to d
between_ways Up = refl
between_ways Down = refl
between_ways Left = refl
between_ways Right = refl

abbrev pub directions : Turning Direction
directions =
    record {
      Good = λ d. Unit {0};
      turn = clockwise_to;
      mirror = mirrored_to;
      turns = turned_to;
      none = λ d. refl;
      more = λ n d. refl;
      turn_good = λ d h. h;
      mirror_good = λ d h. h;
      four = λ d h. four_ways d;
      two = λ d h. two_ways d;
      between = λ d h. between_ways d;
    }
