-- The eight images are the symmetries of the square (`Symmetries`). Assumes nothing.
use Prim.Native.Nat.{ℕ, zero, suc, ◌+◌, ◌-◌, ◌%◌, ◌<◌}
use mathlib.Core.Path.{◌≡◌, refl, ap, sym, ◌∙◌}
use mathlib.Core.Bool.{Bool, true, false, not}
use native.Mathlib.Omega.{arith}
use native.Mathlib.Nat.{add_comm}
use lib.Dec.{leb}
use Rattle.lists.specs.Choice.{pick}
use Rattle.grid.specs.declared.Direction.{Direction}
use Rattle.grid.specs.declared.Direction.TheVariants.{Up, Down, Left, Right}
use Rattle.images.specs.Images.{Picture, mirrored, clockwise, turned, direction_in, image}
use Rattle.images.specs.Symmetries.{apart, square, distance, Symmetries}
use Rattle.images.proofs.Turns.{followed, inverse, numbered, numbered_low, act_followed, act_inverse}
use Rattle.images.proofs.Pictures.{pictures, directions}
use Rattle.images.proofs.Beside.{Pair, mirrored_pair, turned_pair}

-- seen from the other end, two numbers are as far apart
apart_back : (n m a b : ℕ) → n ≡ m → a < n → b < m → apart (n - 1 - a) (m - 1 - b) ≡ apart a b
apart_back n m a b e k l = omega arith

abbrev far : Picture → Picture → ℕ
far p q = distance p.spot q.spot

mirrored_far : (p q : Picture) → Pair p q → far (mirrored p) (mirrored q) ≡ far p q
mirrored_far p q h =
    ap (λ n. square (apart p.spot.row q.spot.row) + square n)
    (apart_back p.size.width q.size.width p.spot.col q.spot.col h.wide h.one.cols h.other.cols)

clockwise_far : (p q : Picture) → Pair p q → far (clockwise p) (clockwise q) ≡ far p q
clockwise_far p q h =
    ap (λ n. square (apart p.spot.col q.spot.col) + square n)
    (apart_back p.size.height q.size.height p.spot.row q.spot.row h.high h.one.rows h.other.rows)
    ∙ add_comm (square (apart p.spot.col q.spot.col)) (square (apart p.spot.row q.spot.row))

turned_far : (n : ℕ) (p q : Picture) → Pair p q → far (turned n p) (turned n q) ≡ far p q
turned_far zero p q h = refl
turned_far (suc n) p q h = clockwise_far (turned n p) (turned n q) (turned_pair n p q h) ∙ turned_far n p q h

image_far : (n : ℕ) (b : Bool) (p q : Picture) → Pair p q → far (turned n (pick b (mirrored p) p)) (turned n (pick b (mirrored q) q)) ≡ far p q
image_far n true p q h = turned_far n (mirrored p) (mirrored q) (mirrored_pair p q h) ∙ mirrored_far p q h
image_far n false p q h = turned_far n p q h

-- the number of the image in which up and right go to these
abbrev told_by : Direction → Direction → ℕ
told_by Up Right = 0
told_by Right Down = 1
told_by Down Left = 2
told_by Left Up = 3
told_by Up d = 4
told_by Right d = 5
told_by Down d = 6
told_by Left d = 7

told : (k : ℕ) → k < 8 → told_by (direction_in (image k) Up) (direction_in (image k) Right) ≡ k
told zero l = refl
told (suc zero) l = refl
told (suc (suc zero)) l = refl
told (suc (suc (suc zero))) l = refl
told (suc (suc (suc (suc zero)))) l = refl
told (suc (suc (suc (suc (suc zero))))) l = refl
told (suc (suc (suc (suc (suc (suc zero)))))) l = refl
told (suc (suc (suc (suc (suc (suc (suc zero))))))) l = refl
told (suc (suc (suc (suc (suc (suc (suc (suc k)))))))) l = absurd (omega arith)

followed_low : (j k : ℕ) → followed j k < 8
followed_low j k = go (leb 4 k)
  where
    go : (b : Bool) → pick b (numbered (k % 4 + 4 - j % 4) (not (leb 4 j))) (numbered (k % 4 + j % 4) (leb 4 j)) < 8
    go true = numbered_low (k % 4 + 4 - j % 4) (not (leb 4 j))
    go false = numbered_low (k % 4 + j % 4) (leb 4 j)

inverse_low : (k : ℕ) → inverse k < 8
inverse_low k = go (leb 4 k)
  where
    go : (b : Bool) → pick b (numbered (k % 4) true) (numbered (4 - k % 4) false) < 8
    go true = numbered_low (k % 4) true
    go false = numbered_low (4 - k % 4) false

pub symmetries : Symmetries
symmetries =
    record {
      distances = λ m g p q h k.
          image_far (m.number % 4) (leb 4 m.number) (record { size = g; spot = p }) (record { size = g; spot = q })
          (record { one = h; other = k; high = refl; wide = refl });
      stays = record { is_one = omega arith; cells = λ p h. refl; ways = λ d. refl };
      composed = λ j k. (
        image (followed j.number k.number),
        record { is_one = followed_low j.number k.number; cells = act_followed pictures j.number k.number; ways = λ d. act_followed directions j.number k.number d tt },
      );
      undone = λ k. (
        image (inverse k.number),
        inverse_low k.number,
        record {
          is_one = omega arith;
          cells = λ p h. sym (act_inverse pictures k.number p h).0;
          ways = λ d. sym (act_inverse directions k.number d tt).0;
        },
      );
      differ = λ j k lj lk p q.
          sym (told j lj) ∙ ap (λ d. told_by d (direction_in (image j) Right)) p ∙ ap (told_by (direction_in (image k) Up)) q ∙ told k lk;
    }
