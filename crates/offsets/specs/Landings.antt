-- A unit's landings as the code walks them: inner borders, and else Walls and board edges, by one definition. Assumes nothing.
use Rattle.std.specs.Prelude as std
use Rattle.std.specs.Prelude.{ℕ, ◌≡◌, Bool, true, false, not, List, eqb}
use Rattle.std.proofs.Math.Option.{Option, some}
use Rattle.lists.specs.Choice.{both, either, pick, give, holds, or_else, through}
use Rattle.lists.specs.Lists.{In, any, first}
use Rattle.grid.specs.declared.Direction.{Direction}
use Rattle.grid.specs.Orders.{around, forward}
use Rattle.grid.specs.declared.Grid.{Grid}
use Rattle.grid.specs.Grid.{Cell, goes_on, next, border}
use Rattle.borders.specs.Entry.{entry_of}
use Rattle.borders.specs.Border.{state_at, stands}
use Rattle.boundary.specs.Boundary.{ahead}
use Rattle.offsets.specs.declared.shift.Shift.{Shift}
use Rattle.images.specs.declared.Spot.{Spot}
use Rattle.offsets.specs.declared.landings.Kind.{Kind}
use Rattle.offsets.specs.declared.landings.Kind.TheVariants.{Inner, Outer}
use Rattle.images.specs.Images.{direction_in, spot, spot_in}
use Rattle.offsets.specs.Places.{ahead_of, coordinate_of, land_of}
use Rattle.offsets.specs.Reach.{moved, Small}

abbrev pub is_inner : Kind → Bool
is_inner Inner = true
is_inner Outer = false

-- inner borders are looked at down, right; the others up, down, left, right (SPEC 4.9)
abbrev pub directions_of : Bool → List Direction
directions_of inner = pick inner forward around

-- an inner border must not land on a Wall, another not on a Connected border (SPEC 4.9)
abbrev pub bad_state : Bool → ℕ
bad_state inner = pick inner 2 1

abbrev pub bad_of : Bool → ℕ → Bool
bad_of inner state = eqb state (bad_state inner)

-- an inner border of the unit; else a Wall or the board's edge
unfoldable pub kept_of : Grid → List ℕ → List ℕ → Bool → ℕ → ℕ → Direction → Bool
unfolding goes_on state_at next
kept_of g states ids inner unit c d =
    pick inner (both (goes_on g d c) (ahead g ids unit c d)) (either (not (goes_on g d c)) (eqb (state_at g states d c) 2))

-- where the border of the cell at a row and column lands, by doubled coordinates
abbrev pub landing_of : Grid → Shift → Spot → Direction → std.Option ℕ
landing_of g s p d =
    let at = spot_in g s.image p in
    let ahead = ahead_of (direction_in s.image d) in
    land_of g (coordinate_of at.row ahead.y s.from.row s.to.row) (coordinate_of at.col ahead.x s.from.col s.to.col)

-- the entry of a border of c that lands badly
unfoldable pub fail_at : Grid → Shift → List ℕ → List ℕ → Bool → ℕ → Direction → Option ℕ
unfolding through give kept_of stands border moved
fail_at g s states ids inner c d =
    let lands = direction_in s.image d in
    through (moved g s (spot g c)) (λ x. give (both (kept_of g states ids inner s.unit c d) (stands g states (bad_state inner) lands x)) (entry_of inner (border g lands x)))

-- the first of a cell's borders that lands badly
unfoldable pub fail_cell : Grid → Shift → List ℕ → List ℕ → Bool → ℕ → Option ℕ
unfolding first fail_at
fail_cell g s states ids inner c = first (fail_at g s states ids inner c) (directions_of inner)

unfoldable pub first_fail : Grid → Shift → List ℕ → List ℕ → Bool → List ℕ → Option ℕ
unfolding first fail_cell
first_fail g s states ids inner cs = first (fail_cell g s states ids inner) cs

-- inner borders before the others
unfoldable pub failure_of : Grid → Shift → List ℕ → List ℕ → List ℕ → Option ℕ
unfolding or_else first_fail
failure_of g s states ids cs = or_else (first_fail g s states ids true cs) (first_fail g s states ids false cs)

-- the border of c in that direction lands badly, where c falls on x
unfoldable pub lands_badly : Grid → Shift → List ℕ → List ℕ → Bool → ℕ → ℕ → Direction → Bool
unfolding kept_of stands
lands_badly g s states ids inner c x d = both (kept_of g states ids inner s.unit c d) (stands g states (bad_state inner) (direction_in s.image d) x)

-- one of the borders of c lands badly, where c falls on x
unfoldable pub has_bad : Grid → Shift → List ℕ → List ℕ → ℕ → ℕ → Bool
unfolding any lands_badly
has_bad g s states ids c x = either (any (lands_badly g s states ids true c x) (directions_of true)) (any (lands_badly g s states ids false c x) (directions_of false))

-- c falls on the board, and its borders land well
abbrev pub lands_well : Grid → Shift → List ℕ → List ℕ → ℕ → Bool
lands_well g s states ids c = holds (moved g s (spot g c)) (λ x. not (has_bad g s states ids c x))

-- c is a cell, and falls on the board
pub record Turning (g : Grid) (s : Shift) (c : ℕ) : Type 0 where
  pub cell : Cell g c
  pub small : Small g s
  pub falls : (z : ℕ) × (moved g s (spot g c) ≡ some z)

-- the cells of a list all are, and do
pub record Falling (g : Grid) (cs : List ℕ) (s : Shift) : Type 0 where
  pub small : Small g s
  pub on_board : (c : ℕ) → In c cs → Cell g c
  pub falls : (c : ℕ) → In c cs → (z : ℕ) × (moved g s (spot g c) ≡ some z)
