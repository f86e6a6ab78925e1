-- A board's rooms as the counts take them: each is a room to count, and the counts over the slices are those of the board's own rooms. Assumes nothing.
use Prim.Native.Nat.{ℕ, ◌≤◌}
use mathlib.Core.Path.{◌≡◌, refl, ap, ◌∙◌, fun_ext}
use mathlib.Core.Bool.{Bool, true, false, not}
use mathlib.Core.List.{List}
use native.Mathlib.Omega.{arith}
use lib.Dec.{eqb}
use lib.ListN.{length}
use Rattle.lists.specs.Choice.{pick}
use Rattle.lists.specs.Writes.{puts}
use Rattle.lists.proofs.WritesLaws.{puts_length}
use Rattle.grid.specs.declared.Grid.{Grid}
use Rattle.grid.specs.Grid.{border_count}
use Rattle.grid.proofs.Geometry.{border_count_le}
use Rattle.borders.specs.Border.{state_of}
use Rattle.borders.specs.Fits.{Fits}
use Rattle.groups.specs.Groups.{cells_of}
use Rattle.groups.proofs.GroupLaws.{in_cells}
use Rattle.boundary.proofs.BoundaryLaws.{cells_most}
use Rattle.rooms.specs.Rooms.{is_given, room_ids}
use Rattle.rooms.specs.Lent.{unmarked, marked_in, Given, Housed}
use Rattle.rooms.proofs.Places.{cells_rising}
use Rattle.rooms.proofs.PutLaws.{marks_at, unmarked_length}
use Rattle.room_checks.specs.RoomChecks.{rooms_fault, rooms_in}

-- a room of a board
pub room_housed : (g : Grid) (marks states ids cs : List ℕ) (r : ℕ) → Fits g states → border_count g ≤ length marks → cs ≡ cells_of g ids r → Housed g marks states cs
room_housed g marks states ids cs r f m e =
    rw e
    (record {
      limits = f.limits;
      marks_long = m;
      states_long = f.borders;
      few_cells = cells_most g ids r;
      inside = λ c k. (in_cells g ids r c k).0;
      rising = cells_rising g ids r;
    })

module _ (g : Grid) (given : List ℕ) (w : Given g given) {marks : List ℕ} (q : marks ≡ puts given 1 unmarked) where
  pub marks_long : border_count g ≤ length marks
  marks_long = rw q (omega (arith, puts_length given 1 unmarked, unmarked_length, border_count_le g w.limits))

  marks_given : marked_in marks ≡ is_given given
  marks_given = rw q (fun_ext (λ e. ap (λ x. not (eqb x 0)) (marks_at g given w 1 e) ∙ go (is_given given e)))
    where
      go : (t : Bool) → not (eqb (pick t 1 0) 0) ≡ t
      go true = refl
      go false = refl

  -- the counts are those of the board's rooms
  pub rooms_same : (states clues : List ℕ) {ids : List ℕ} → ids ≡ room_ids g given
      → rooms_fault g (marked_in marks) (cells_of g ids) clues (state_of states) ≡ rooms_in g given clues states
  rooms_same states clues e = rw (e, marks_given) refl
