-- The shape check and then the rooms: a law for each way through. Assumes nothing.
use Prim.Native.Nat.{ℕ, ◌<◌}
use mathlib.Core.Path.{◌≡◌, refl, ap, sym, ◌∙◌}
use mathlib.Core.Bool.{Bool, true, false, not}
use mathlib.Core.List.{List, [], ◌∷◌}
use mathlib.Core.Option.{Option, none, some}
use Rattle.std.specs.Prelude as std
use native.Mathlib.Omega.{arith}
use lib.Dec.{eqb}
use lib.ListN.{length, get_or}
use lib.Seq.{sets}
use Rattle.limits.specs.Limits.{no_clue}
use Rattle.lists.specs.Choice.{pick, or_else}
use Rattle.lists.specs.Lists.{range, first}
use Rattle.lists.proofs.ListLaws.{in_range}
use Rattle.grid.specs.declared.Grid.{Grid}
use Rattle.images.specs.declared.Image.{Image}
use Rattle.borders.specs.Border.{state_of}
use Rattle.borders.proofs.Congruence.{first_same}
use Rattle.shape.specs.Shape.{shape_fault}
use Rattle.answers.specs.Answers.{Finds, length_found, written, found as outcome}
use Rattle.rooms.specs.Rooms.{is_given, room_count, room_cells, clue_of}
use Rattle.rooms.specs.RoomGraph.{room_list}
use Rattle.clues.proofs.ListsCode.{other_default}
use Rattle.room_checks.specs.declared.RoomFault.{RoomFault}
use Rattle.room_checks.specs.RoomChecks.{clue_list, Faulty, fault_at, rooms_fault, rooms_in, counted_of, leaves}
use Rattle.puzzle.specs.declared.Check.TheVariants.{Shape, Room}
use Rattle.puzzle.specs.declared.Check.{Check}
use Rattle.puzzle.specs.declared.Fault.{Fault}
use Rattle.puzzle.specs.Fault.{Found, found_by, room_check, fault_of}
use Rattle.puzzle.specs.Puzzle.{told, writes}

-- what the rooms' counts find and answer, as an ask tells it
asked : Option Faulty → Option Found
asked none = none
asked (some f) = some (record { check = Room f.room; list = f.list })

abbrev fault : Check → ℕ → std.Option Fault
fault check n = std.Some (record { check = check; len = n })

abbrev pub answer_by : std.Option RoomFault → std.Option Fault
answer_by std.None = std.None
answer_by (std.Some f) = std.Some (record { check = Room f.room; len = f.len })

by_counts : (f : Option Faulty) (x : std.Option RoomFault) (buf buf' : List ℕ) → (x ≡ counted_of f) × (buf' ≡ leaves f buf) → (answer_by x ≡ told (asked f)) × (buf' ≡ writes 0 (asked f) buf)
unfolding asked
by_counts none x buf buf' e = (ap answer_by e.0, e.1)
by_counts (some f) x buf buf' e = (ap answer_by e.0, e.1)

asked_room : (r : ℕ) (l : Option (List ℕ)) → asked (fault_at r l) ≡ found_by (Room r) l
unfolding asked fault_at found_by
asked_room r none = refl
asked_room r (some l) = refl

asked_or : (a b : Option Faulty) → asked (or_else a b) ≡ or_else (asked a) (asked b)
unfolding asked or_else
asked_or none b = refl
asked_or (some x) b = refl

asked_first : (f : ℕ → Option Faulty) (xs : List ℕ) → asked (first f xs) ≡ first (λ r. asked (f r)) xs
unfolding asked first
asked_first f [] = refl
asked_first f (x ∷ xs) = asked_or (f x) (first f xs) ∙ ap (or_else (asked (f x))) (asked_first f xs)

-- the answer of a fault
is_fault_lem : (f : Option Found) (x : Found) (k : ℕ) (buf buf' : List ℕ) → f ≡ some x → k ≡ length x.list → buf' ≡ sets buf 0 x.list
    → (fault x.check k ≡ told f) × (buf' ≡ writes 0 f buf)
is_fault_lem f x k buf buf' q p e = rw (q, p) (refl, e)

-- the same answer and buffer
same_answer : (f h : Option Found) (x : std.Option Fault) (buf buf' : List ℕ) → f ≡ h → (x ≡ told f) × (buf' ≡ writes 0 f buf) → (x ≡ told h) × (buf' ≡ writes 0 h buf)
same_answer f h x buf buf' q e = rw (← q) e

module _ (ms : List Image) (g : Grid) (given clues states : List ℕ) (one_each : length clues ≡ room_count g given) where
  -- where every room has a clue, the counts by the clues' places are the rooms' checks
  same_check : (r : ℕ) → r < room_count g given → found_by (Room r) (clue_list g (is_given given) (room_cells g given r) (get_or clues r 0) (state_of states)) ≡ room_check g given clues states r
  unfolding clue_list room_check
  same_check r h =
      ap (λ c. found_by (Room r) (pick (eqb c no_clue) none (room_list g (is_given given) (room_cells g given r) c (state_of states)))) (other_default clues r 0 no_clue (omega arith))
      ∙ go (eqb (clue_of clues r) no_clue) (room_list g (is_given given) (room_cells g given r) (clue_of clues r) (state_of states))
    where
      go : (t : Bool) (l : Option (List ℕ)) → found_by (Room r) (pick t none l) ≡ pick (not t) (found_by (Room r) l) none
      go true l = unfold found_by in refl
      go false l = refl

  rooms_check : asked (rooms_in g given clues states) ≡ first (room_check g given clues states) (range (room_count g given))
  unfolding rooms_fault
  rooms_check =
      let f : ℕ → Option Faulty = λ r. fault_at r (clue_list g (is_given given) (room_cells g given r) (get_or clues r 0) (state_of states)) in
      rw one_each
      (asked_first f (range (room_count g given))
      ∙ first_same (λ r. asked (f r)) (room_check g given clues states) (range (room_count g given))
      (λ r m. asked_room r (clue_list g (is_given given) (room_cells g given r) (get_or clues r 0) (state_of states)) ∙ same_check r (in_range (room_count g given) r m)))

  -- the shape check decides, or else the rooms
  fault_shape : (L : List ℕ) → shape_fault ms g states ≡ some L → fault_of ms g given clues states ≡ some (record { check = Shape; list = L })
  unfolding fault_of found_by or_else
  fault_shape L q = rw q

  fault_rooms : shape_fault ms g states ≡ none → fault_of ms g given clues states ≡ asked (rooms_in g given clues states)
  unfolding fault_of found_by or_else
  fault_rooms q = rw q (sym rooms_check)

  module _ (buf buf' : List ℕ) (r : std.Option ℕ) (t : Finds (shape_fault ms g states) buf buf' r) where
    -- what a stage told
    told_fault : (o : Option (List ℕ)) (n : ℕ) → std.Some n ≡ length_found o → (L : List ℕ) × (o ≡ some L) × (n ≡ length L)
    told_fault none n q = absurd (let z : ◌≡◌ {A = ℕ} 0 1 = cc in omega arith)
    told_fault (some L) n q = (L, refl, cc)

    told_clear : (o : Option (List ℕ)) → std.None ≡ length_found o → o ≡ none
    told_clear none q = refl
    told_clear (some L) q = absurd (let z : ◌≡◌ {A = ℕ} 0 1 = cc in omega arith)

    pub shape_fault_lem : (n : ℕ) → r ≡ std.Some n → (std.Some (record { check = Shape; len = n }) ≡ told (fault_of ms g given clues states)) × (buf' ≡ writes 0 (fault_of ms g given clues states) buf)
    shape_fault_lem n q =
        let o = told_fault (shape_fault ms g states) n (sym q ∙ t.answer) in
        is_fault_lem (fault_of ms g given clues states) (record { check = Shape; list = o.0 }) n buf buf' (fault_shape o.0 o.1) o.2 (t.stored ∙ ap (λ f. written (outcome f) buf) o.1)

    pub shape_clear : r ≡ std.None → buf' ≡ buf
    shape_clear q = t.stored ∙ ap (λ f. written (outcome f) buf) (told_clear (shape_fault ms g states) (sym q ∙ t.answer))

    pub rooms_answer : r ≡ std.None → (x y : std.Option RoomFault) (buf'' : List ℕ) → (x ≡ counted_of (rooms_in g given clues states)) × (buf'' ≡ leaves (rooms_in g given clues states) buf') → x ≡ y
        → (answer_by y ≡ told (fault_of ms g given clues states)) × (buf'' ≡ writes 0 (fault_of ms g given clues states) buf)
    rooms_answer q x y buf'' e k =
        let same = fault_rooms (told_clear (shape_fault ms g states) (sym q ∙ t.answer)) in
        same_answer (asked (rooms_in g given clues states)) (fault_of ms g given clues states) (answer_by y) buf buf'' (sym same)
        (by_counts (rooms_in g given clues states) y buf buf'' (sym k ∙ e.0, e.1 ∙ ap (leaves (rooms_in g given clues states)) (shape_clear q)))
