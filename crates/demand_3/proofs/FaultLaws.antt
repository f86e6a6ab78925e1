-- THE THEOREMS of the whole check, the shape check's and the room counts' together, on a puzzle whose borders have given states: once for any list of
-- images, and so for both kinds. Assumes nothing.
use Prim.Native.Nat.{ℕ, ◌+◌, ◌*◌, ◌≤◌, ◌<◌}
use mathlib.Core.Path.{◌≡◌, refl, ap, ap₂, sym, ◌∙◌}
use mathlib.Core.Logic.{◌⊎◌, inl, inr, ⊎_elim, ◌↔◌}
use mathlib.Core.Bool.{Bool, true, false}
use mathlib.Core.List.{List}
use mathlib.Core.Option.{Option, none, some, some-injective, none-ne-some, some-ne-none}
use native.Mathlib.Omega.{arith}
use lib.ListN.{length}
use Rattle.lists.specs.Choice.{pick, or_else}
use Rattle.lists.specs.Lists.{range, first}
use Rattle.lists.proofs.ChoiceLaws.{or_else_some, or_else_none, none_or_some}
use Rattle.lists.proofs.ListLaws.{first_some, first_none, in_range, range_in}
use Rattle.frame.specs.Frame.{States}
use Rattle.grid.specs.declared.Grid.{Grid}
use Rattle.grid.specs.Grid.{cells}
use Rattle.borders.specs.Entry.{Standing}
use Rattle.borders.specs.Border.{state_of, StatesOk}
use Rattle.borders.proofs.Agreement.{Agree}
use Rattle.borders.proofs.Congruence.{first_same}
use Rattle.shape.specs.Shape.{shape_fault}
use Rattle.shape.specs.Laws.{FullBoard}
use Rattle.shape.proofs.Agreement.{shape_agrees}
use Rattle.shape.proofs.Theorems as shape
use Rattle.rooms.specs.Rooms.{is_given, room_count, room_cells, clued, clue_of}
use Rattle.rooms.specs.RoomGraph.{room_list}
use Rattle.rooms.specs.Units.{GivenWalls}
use Rattle.rooms.proofs.Theorems.{list_agrees, list_stands, list_again, list_decides, list_short}
use Rattle.puzzle.specs.declared.Check.{Check}
use Rattle.puzzle.specs.declared.Check.TheVariants.{Shape, Room}
use Rattle.images.specs.declared.Image.{Image}
use Rattle.puzzle.proofs.KindLaws.{eight_each}
use Rattle.puzzle.specs.Fault.{Found, found_by, room_check, fault_of}
use Rattle.demand_3.specs.Laws.{RightBoard}

found_some : (k : Check) (o : Option (List ℕ)) (f : Found) → found_by k o ≡ some f → (o ≡ some f.list) × (f.check ≡ k)
unfolding found_by
found_some k none f q = absurd (none-ne-some f q)
found_some k (some l) f q =
    let e : record { check = k; list = l } ≡ f = some-injective _ f q in
    (ap (λ (x : Found). some x.list) e, sym (ap (λ (x : Found). x.check) e))

found_none : (k : Check) (o : Option (List ℕ)) → found_by k o ≡ none → o ≡ none
unfolding found_by
found_none k none q = refl
found_none k (some l) q = absurd (some-ne-none (record { check = k; list = l }) q)

picked : (t : Bool) (o : Option Found) (f : Found) → pick t o none ≡ some f → (t ≡ true) × (o ≡ some f)
picked true o f z = (refl, z)
picked false o f z = absurd (none-ne-some f z)

module _ (g : Grid) (given clues : List ℕ) where
  -- what a clued room's count lists, where border e has the state s e
  abbrev list : ℕ → States → Option (List ℕ)
  list r s = room_list g (is_given given) (room_cells g given r) (clue_of clues r) s

  -- a fault is the shape check's, or a clued room's
  pub record RoomFault (s : States) (L : List ℕ) : Type 0 where
    pub room : ℕ
    pub exists : room < room_count g given
    pub has_clue : clued clues room ≡ true
    pub listed : room_list g (is_given given) (room_cells g given room) (clue_of clues room) s ≡ some L

  -- clues that question 9 accepts
  abbrev pub Small : Type 0
  Small = (r : ℕ) → r < room_count g given → clued clues r ≡ true → clue_of clues r ≤ length (room_cells g given r)

module _ (ms : List Image) (g : Grid) (given clues : List ℕ) where
  fault_kinds : (states : List ℕ) (f : Found) → fault_of ms g given clues states ≡ some f → (shape_fault ms g states ≡ some f.list) ⊎ RoomFault g given clues (state_of states) f.list
  unfolding fault_of room_check
  fault_kinds states f q =
      ⊎_elim
      (λ k. inl (found_some Shape (shape_fault ms g states) f k).0)
      (λ k.
      let o = first_some (room_check g given clues states) (range (room_count g given)) f k in
      let c = picked (clued clues o.0) (found_by (Room o.0) (list g given clues o.0 (state_of states))) f o.2 in
      inr (record { room = o.0; exists = in_range _ o.0 o.1; has_clue = c.0; listed = (found_some (Room o.0) (list g given clues o.0 (state_of states)) f c.1).0 }))
      (or_else_some (found_by Shape (shape_fault ms g states)) (first (room_check g given clues states) (range (room_count g given))) f q)

  no_fault : (states : List ℕ) → fault_of ms g given clues states ≡ none
      → (shape_fault ms g states ≡ none) × ((r : ℕ) → r < room_count g given → clued clues r ≡ true → list g given clues r (state_of states) ≡ none)
  unfolding fault_of room_check
  no_fault states q =
      let o = or_else_none (found_by Shape (shape_fault ms g states)) (first (room_check g given clues states) (range (room_count g given))) q in (
        found_none Shape (shape_fault ms g states) o.0,
        λ r l c. found_none (Room r) (list g given clues r (state_of states)) (rw c at (first_none (room_check g given clues states) (range (room_count g given)) o.1 r (range_in _ r l))),
      )

  -- (0) the answer depends on the board's borders alone
  pub fault_agrees : (a b : List ℕ) → Agree g a b → fault_of ms g given clues a ≡ fault_of ms g given clues b
  unfolding fault_of room_check
  fault_agrees a b agree =
      ap₂ (λ (o : Option (List ℕ)) (r : Option Found). or_else (found_by Shape o) r) (shape_agrees ms g a b agree)
      (first_same (room_check g given clues a) (room_check g given clues b) (range (room_count g given))
      (λ r m. ap (λ (o : Option (List ℕ)). pick (clued clues r) (found_by (Room r) o) none) (list_agrees g given r (clue_of clues r) (state_of a) (state_of b) agree)))

  -- (1) each listed entry stands as listed
  pub fault_listed : (states : List ℕ) → StatesOk g states → (f : Found) → fault_of ms g given clues states ≡ some f → Standing (state_of states) f.list
  fault_listed states ok f q =
      ⊎_elim
      (λ (k : shape_fault ms g states ≡ some f.list). shape.listed ms g states ok f.list k)
      (λ (k : RoomFault g given clues (state_of states) f.list). list_stands g given k.room (clue_of clues k.room) (state_of states) f.list k.listed)
      (fault_kinds states f q)

  -- (2) wherever the listed entries stand, whatever else stands, there is a fault
  pub fault_again : (states : List ℕ) → StatesOk g states → (f : Found) → fault_of ms g given clues states ≡ some f
      → (states' : List ℕ) → StatesOk g states' → Standing (state_of states') f.list → (f' : Found) × (fault_of ms g given clues states' ≡ some f')
  fault_again states ok f q states' ok' stood =
      ⊎_elim
      (λ (z : fault_of ms g given clues states' ≡ none).
      let clear = no_fault states' z in
      absurd
      (⊎_elim
      (λ (k : shape_fault ms g states ≡ some f.list).
      let m = shape.again ms g states ok f.list k states' ok' stood in none-ne-some m.0 (sym clear.0 ∙ m.1))
      (λ (k : RoomFault g given clues (state_of states) f.list).
      let m = list_again g given k.room (clue_of clues k.room) (state_of states) f.list k.listed (state_of states') stood in
      none-ne-some m.0 (sym (clear.1 k.room k.exists k.has_clue) ∙ m.1))
      (fault_kinds states f q)))
      (λ k. k)
      (none_or_some (fault_of ms g given clues states'))

  -- (3) a full board on which the listed entries stand breaks the laws
  pub fault_excludes : Small g given clues → (s : States) → FullBoard g s → (states : List ℕ) → StatesOk g states → (f : Found) → fault_of ms g given clues states ≡ some f
      → Standing s f.list → RightBoard ms g given clues s → ⊥
  fault_excludes small s full states ok f q stood right =
      ⊎_elim
      (λ (k : shape_fault ms g states ≡ some f.list). shape.excludes ms g states ok f.list k s full stood right.shape)
      (λ (k : RoomFault g given clues (state_of states) f.list).
      let r = k.room in
      let m = list_again g given r (clue_of clues r) (state_of states) f.list k.listed s stood in
      let clear = (list_decides g given r (clue_of clues r) s right.given_walls full (small r k.exists k.has_clue)).1 (right.rooms r k.exists k.has_clue) in
      none-ne-some m.0 (sym clear ∙ m.1))
      (fault_kinds states f q)

  -- (4) on a full board with the given walls there is no fault exactly if the laws hold
  pub fault_full : Small g given clues → (states : List ℕ) → FullBoard g (state_of states) → GivenWalls given (state_of states)
      → (fault_of ms g given clues states ≡ none) ↔ RightBoard ms g given clues (state_of states)
  fault_full small states full walls =
      let ok : StatesOk g states = λ e l. ⊎_elim (λ (q : state_of states e ≡ 1). omega arith) (λ (q : state_of states e ≡ 2). omega arith) (full e l) in (
        λ q.
            let clear = no_fault states q in
            record {
              given_walls = walls;
              shape = (shape.full ms g states full).0 clear.0;
              rooms = λ r l c. (list_decides g given r (clue_of clues r) (state_of states) walls full (small r l c)).0 (clear.1 r l c);
            },
        λ right.
            ⊎_elim
            (λ q. q)
            (λ (o : (f : Found) × (fault_of ms g given clues states ≡ some f)).
            absurd (fault_excludes small (state_of states) full states ok o.0 o.1 (fault_listed states ok o.0 o.1) right))
            (none_or_some (fault_of ms g given clues states)),
      )

  -- (5) the list fits in 8·h·w entries and h·w more for each image: nine for translates, sixteen for images
  pub fault_most : (states : List ℕ) → StatesOk g states → (f : Found) → fault_of ms g given clues states ≡ some f → length f.list ≤ (length ms + 8) * cells g
  fault_most states ok f q =
      ⊎_elim
      (λ (k : shape_fault ms g states ≡ some f.list). shape.at_most ms g states ok f.list k)
      (λ (k : RoomFault g given clues (state_of states) f.list). omega (arith, list_short g given k.room (clue_of clues k.room) (state_of states) f.list k.listed, eight_each ms (cells g)))
      (fault_kinds states f q)
