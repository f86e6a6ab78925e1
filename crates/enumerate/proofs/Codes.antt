-- Questions 12 and 6: what the division tells, and what their acceptance does. Assumes nothing.
use Prim.Native.Nat.{ℕ, ◌*◌, ◌/◌, ◌≤◌, ◌<◌}
use mathlib.Core.Path.{◌≡◌, refl}
use mathlib.Core.Logic.{◌≢◌, ⊎_elim}
use mathlib.Core.Bool.{Bool, true, false}
use mathlib.Core.List.{List}
use native.Mathlib.Omega.{arith}
use native.Mathlib.Nat.{le-div_iff_mul-le}
use borrow.Author.Tests.{le-leb, lt-leb, leb-true}
use lib.Dec.{leb}
use lib.ListN.{length}
use Rattle.lists.specs.Choice.{pick}
use Rattle.lists.specs.Lists.{count}
use Rattle.lists.proofs.Cases.{le_or_lt}
use Rattle.enumerate.specs.Boards.{places_code}

pub short_places : (states : List ℕ) (cap places : ℕ) → count 0 states ≤ 24 → length states ≢ 0 → places / length states < cap → 6 ≡ places_code states cap places
short_places states cap places few some h =
    rw (
      le-leb (count 0 states) 24 few,
      lt-leb (cap * length states) places (⊎_elim
          (λ (l : cap * length states ≤ places). absurd (omega (arith, h, (le-div_iff_mul-le {k = length states} {x = cap} {y = places} (omega arith)).1 l)))
          (λ (l : places < cap * length states). l)
          (le_or_lt (cap * length states) places)),
    )

-- where neither refuses, there are places enough
pub enough_places : (states : List ℕ) (cap places : ℕ) → places_code states cap places ≡ 0 → cap * length states ≤ places
enough_places states cap places = go (leb (count 0 states) 24) (leb (cap * length states) places) refl
  where
    go : (a b : Bool) → leb (cap * length states) places ≡ b → ◌≡◌ {A = ℕ} (pick a (pick b 0 6) 12) 0 → cap * length states ≤ places
    go true true q z = leb-true (cap * length states) places q
    go true false q z = absurd (omega arith)
    go false b q z = absurd (omega arith)
