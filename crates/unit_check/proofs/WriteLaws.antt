-- Writing: the failed landings, the marked potential units, and the whole list. Assumes nothing.
use Prim.Native.Nat.{ℕ, ◌+◌, ◌*◌, ◌≤◌, ◌<◌}
use mathlib.Core.Path.{◌≡◌, refl, ap, sym, ◌∙◌}
use mathlib.Core.Logic.{◌≢◌}
use mathlib.Core.Bool.{Bool, true, false, not}
use mathlib.Core.List.{List, [], ◌∷◌, ◌++◌}
use native.Mathlib.Omega.{arith}
use native.Mathlib.Nat.{add-mul}
use borrow.Author.Tests.{ne_eqb}
use lib.Dec.{eqb}
use lib.ListN.{get_or, length, take, drop, length-append}
use lib.Seq.{get_or-take, length-take-le}
use Rattle.lists.specs.Choice.{pick, when}
use Rattle.lists.specs.Lists.{range, keep, gather}
use Rattle.lists.proofs.ListLaws.{in_range}
use Rattle.borders.proofs.Congruence.{gather_same}
use Rattle.grid.specs.declared.Grid.{Grid}
use Rattle.grid.specs.Grid.{cells, Cell}
use Rattle.boundary.specs.declared.Entries.{Entries}
use Rattle.boundary.specs.Writes.{Writes}
use Rattle.boundary.specs.Boundary.{unit_boundary, potential_boundary}
use Rattle.boundary.proofs.AppendLaws.{Leaves, leaves_all, turn_fits, turn_written, turns_written, writes_long, writes_then}
use Rattle.images.specs.declared.Image.{Image}
use Rattle.shape.specs.declared.Try.{Try}
use Rattle.shape.specs.declared.Try.TheVariants.{Passed, Good, Failed}
use Rattle.shape.specs.Shape.{head_or0, adjacent, UnitInfo, unit_of, entry_of, failures_by, failures, boundaries}
use Rattle.shape.proofs.Lengths.{failures_most, boundaries_most}
use Rattle.groups.proofs.GroupLaws.{in_cells}
use Rattle.offsets.specs.declared.table.CellInfo.{CellInfo}
use Rattle.offsets.specs.Table.{unit_in, potential_in, units_in, potentials_in}
use Rattle.offsets.specs.Trial.{unit_at, tried_at, Placed}
use Rattle.offsets.proofs.TableLaws.{potential_at}
use Rattle.offsets.proofs.TrialLaws.{head_in}
use Rattle.unit_check.specs.Write.{failures_as, failures_at, list_at, marked_boundary, near_boundaries}
use Rattle.unit_check.proofs.RestLaws.{Left, left_all, left_room, left_on, left_end}

-- A LANDING

module _ {t : Try} {e : ℕ} (told : t ≡ Failed e) where
  pub note_room : {len n : ℕ} → len + length (entry_of t) ≤ n → len < n
  unfolding entry_of
  note_room h = let q : length (entry_of t) ≡ 1 = rw told in omega arith

  pub noted : e ∷ [] ≡ entry_of t
  unfolding entry_of
  noted = rw told

pub not_noted : (t : Try) → ((x : ℕ) → t ≡ Failed x → ⊥) → entry_of t ≡ []
unfolding entry_of
not_noted Passed k = refl
not_noted Good k = refl
not_noted (Failed e) k = absurd (k e refl)

-- THE LANDINGS OF AN IMAGE

module _ (m : Image) (g : Grid) (states : List ℕ) (table : List CellInfo) (cs : List ℕ) where
  abbrev entry_at : ℕ → List ℕ
  entry_at t = entry_of (tried_at m g states table cs t)

  -- the landings before `to` are written
  abbrev pub Landing : Entries → Entries → ℕ → Type 0
  Landing before now to = Left entry_at (cells g) before now to

  pub landing_first : (p : Entries) → Landing p p 0
  landing_first p = left_all entry_at (cells g) p

  module _ {before now : Entries} {to : ℕ} (w : Landing before now to) where
    module _ (h : to < cells g) {r : Try} (told : r ≡ tried_at m g states table cs to) where
      pub landing_room : before.len + length (failures_as g states table cs m) ≤ length before.buffer.now → now.len + length (entry_of r) ≤ length now.buffer.now
      unfolding failures_by
      landing_room l = rw told (left_room entry_at (cells g) w h l)

      pub landing_on : {after : Entries} → Writes (entry_of r) now after → Landing before after (to + 1)
      landing_on a = left_on entry_at (cells g) w h (rw told at a)

    pub landing_end : cells g ≤ to → Writes (failures_as g states table cs m) before now
    unfolding failures_by
    landing_end h = left_end entry_at (cells g) w h

-- THOSE OF ALL IMAGES, where the ones before place i are written
module _ (ms : List Image) (g : Grid) (states : List ℕ) (table : List CellInfo) (cs : List ℕ) where
  abbrev pub Imaged : Entries → Entries → ℕ → Type 0
  Imaged before now i = Leaves before (gather (failures_as g states table cs) ms) now (gather (failures_as g states table cs) (drop i ms))

  pub imaged_first : (p : Entries) → Imaged p p 0
  imaged_first p = leaves_all p (gather (failures_as g states table cs) ms)

  module _ {before now : Entries} {i : ℕ} (w : Imaged before now i) (d : Image) where
    module _ (h : i < length ms) {m : Image} (m_is : m ≡ get_or ms i d) where
      pub imaged_room : before.len + length (failures_at ms g states table cs) ≤ length before.buffer.now → now.len + length (failures_as g states table cs m) ≤ length now.buffer.now
      unfolding failures
      imaged_room l = rw m_is (turn_fits (failures_as g states table cs) ms d i w h l)

      pub imaged_on : {after : Entries} → Writes (failures_as g states table cs m) now after → Imaged before after (i + 1)
      imaged_on a = turn_written (failures_as g states table cs) ms d i w h (rw m_is at a)

    pub imaged_end : length ms ≤ i → Writes (failures_at ms g states table cs) before now
    unfolding failures
    imaged_end h = turns_written (failures_as g states table cs) ms d i w h

-- THE MARKED POTENTIAL UNITS

module _ (g : Grid) (states pids marks : List ℕ) (unit : ℕ) where
  pub not_marked : get_or marks unit 0 ≡ 0 → marked_boundary g states pids marks unit ≡ []
  unfolding marked_boundary
  not_marked z = rw z refl

  pub its_list : get_or marks unit 0 ≢ 0 → marked_boundary g states pids marks unit ≡ potential_boundary g states pids unit
  unfolding marked_boundary
  its_list z = rw (ne_eqb (get_or marks unit 0) 0 z)

-- the marks of these many potential units, gone through in turn
module _ (marks : List ℕ) {n count : ℕ} (n_is : n ≡ count) (long : count ≤ length marks) where
  marks_there : length (take n marks) ≡ n
  marks_there = length-take-le n marks (omega arith)

  module _ {i : ℕ} (h : i < length (take n marks)) where
    pub has_mark : i < count
    has_mark = omega (arith, marks_there)

    pub mark_is : get_or (take n marks) i 0 ≡ get_or marks i 0
    mark_is = get_or-take n marks i 0 (omega (arith, marks_there))

  pub marks_over : {i : ℕ} → length (take n marks) ≤ i → count ≤ i
  marks_over h = omega (arith, marks_there)

-- lists gathered of those that are kept
gather_when : (f : ℕ → List ℕ) (t : Bool) (x : ℕ) (xs : List ℕ) → gather f (when t x ++ xs) ≡ pick t (f x) [] ++ gather f xs
unfolding gather when
gather_when f true x xs = refl
gather_when f false x xs = refl

gather_keep : (f : ℕ → List ℕ) (p : ℕ → Bool) (xs : List ℕ) → gather f (keep p xs) ≡ gather (λ x. pick (p x) (f x) []) xs
unfolding gather keep
gather_keep f p [] = refl
gather_keep f p (x ∷ xs) = gather_when f (p x) x (keep p xs) ∙ ap (λ l. pick (p x) (f x) [] ++ l) (gather_keep f p xs)

pick_not : (t : Bool) (x : List ℕ) → pick t [] x ≡ pick (not t) x []
pick_not true x = refl
pick_not false x = refl

-- THE WHOLE LIST

-- the cells of a unit, its adjacent ones of n potential units marked, and so much room in the buffer
pub record Writing (ms : List Image) (g : Grid) (states ids pids : List ℕ) (n : ℕ) (table : List CellInfo) (marks cs : List ℕ) (room : ℕ) : Type 0 where
  pub placed : Placed g states table marks cs
  pub units : units_in g table ≡ ids
  pub potentials : potentials_in g table ≡ pids
  pub ids_long : cells g ≤ length ids
  pub marks_long : n ≤ length marks
  pub enough : (length ms + 8) * cells g ≤ room

module _ {ms : List Image} {g : Grid} {states ids pids : List ℕ} {n : ℕ} {table : List CellInfo} {marks cs : List ℕ} {room : ℕ} (w : Writing ms g states ids pids n table marks cs room) where
  abbrev p : Placed g states table marks cs
  p = w.placed

  abbrev u : UnitInfo
  u = unit_at g table cs

  head : Cell g (head_or0 cs)
  head = (in_cells g (units_in g table) (unit_in table (head_or0 cs)) (head_or0 cs) (rw (← p.cells_are) (head_in cs p.some))).0

  own_is : potential_in table (head_or0 cs) ≡ u.own
  unfolding unit_of
  own_is = sym (potential_at g table (head_or0 cs) head) ∙ ap (λ (l : List ℕ). get_or (potentials_in g table) (head_or0 l) 0) p.cells_are

  near_is : near_boundaries g states pids marks n ≡ gather (potential_boundary g states (potentials_in g table)) (keep (adjacent g states (potentials_in g table) u.own) (range n))
  unfolding near_boundaries marked_boundary
  near_is =
      rw (← w.potentials)
      (let f : ℕ → List ℕ = potential_boundary g states (potentials_in g table) in
      let ad : ℕ → Bool = adjacent g states (potentials_in g table) u.own in
      gather_same (λ q. pick (eqb (get_or marks q 0) 0) [] (f q)) (λ q. pick (ad q) (f q) []) (range n)
      (λ q m.
      let l : q < length marks = omega (arith, in_range n q m, w.marks_long) in
      pick_not (eqb (get_or marks q 0) 0) (f q) ∙ ap (λ t. pick t (f q) []) (p.marked q l ∙ ap (λ i. adjacent g states (potentials_in g table) i q) own_is))
      ∙ sym (gather_keep f ad (range n)))

  list_is : list_at ms g states table n cs ≡ failures_at ms g states table cs ++ (unit_boundary g states ids u.number ++ near_boundaries g states pids marks n)
  unfolding boundaries
  list_is = rw (near_is, ← w.units)

  total : length (failures_at ms g states table cs) + (length (unit_boundary g states ids u.number) + length (near_boundaries g states pids marks n)) ≤ room
  total =
      let a : List ℕ = failures_at ms g states table cs in
      let b : List ℕ = unit_boundary g states ids u.number in
      let c : List ℕ = near_boundaries g states pids marks n in
      let d : List ℕ = boundaries g states (units_in g table) (potentials_in g table) n u in
      omega (arith, w.enough, add-mul (length ms) 8 (cells g), ap length list_is, length-append a d, length-append a (b ++ c), length-append b c, failures_most ms g states (units_in g table) (potentials_in g table) u, boundaries_most g states (units_in g table) (potentials_in g table) n u)

  pub landings_room : {len : ℕ} → len ≡ 0 → len + length (failures_at ms g states table cs) ≤ room
  landings_room empty = omega (arith, total)

  module _ {p₀ p₁ : Entries} (empty : p₀.len ≡ 0) (long : length p₀.buffer.now ≡ room) (landed : Writes (failures_at ms g states table cs) p₀ p₁)
      {k : ℕ} (k_is : unit_in table (head_or0 cs) ≡ k) where
    number : k ≡ u.number
    unfolding unit_of
    number = sym k_is

    pub unit_room : p₁.len + length (unit_boundary g states ids k) ≤ length p₁.buffer.now
    unit_room = rw number (omega (arith, total, landed.appended.place, writes_long landed))

    module _ {p₂ : Entries} (bounded : Writes (unit_boundary g states ids k) p₁ p₂) where
      its : Writes (unit_boundary g states ids u.number) p₁ p₂
      its = rw number at bounded

      pub near_room : p₂.len + length (near_boundaries g states pids marks n) ≤ length p₂.buffer.now
      near_room = omega (arith, total, its.appended.place, landed.appended.place, writes_long its, writes_long landed)

      pub all_written : {p₃ : Entries} → Writes (near_boundaries g states pids marks n) p₂ p₃ → Writes (list_at ms g states table n cs) p₀ p₃
      all_written v = rw list_is (writes_then landed (writes_then its v))
