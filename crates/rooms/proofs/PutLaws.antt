-- A value at each given wall, and the rooms that given walls part. Assumes nothing.
use Prim.Native.Nat.{ℕ, ◌≤◌}
use mathlib.Core.Path.{◌≡◌, refl, ap, sym, ◌∙◌, fun_ext}
use mathlib.Core.Bool.{Bool, true, false, not}
use mathlib.Core.List.{List}
use native.Mathlib.Omega.{arith}
use lib.ListN.{length, get_or, take, replicate, length-replicate}
use lib.Seq.{sets, length-take-le}
use Rattle.limits.specs.Limits.{most_borders}
use Rattle.lists.specs.Choice.{pick}
use Rattle.lists.specs.Writes.{puts, Below}
use Rattle.lists.proofs.ListLaws.{zeros_at}
use Rattle.lists.proofs.WritesLaws.{puts_at}
use Rattle.grid.specs.declared.Grid.{Grid}
use Rattle.grid.specs.Grid.{Limits, cells, border_count}
use Rattle.grid.proofs.Geometry.{border_count_le}
use Rattle.parts.specs.Parts.{parts, roots, begun_in}
use Rattle.groups.specs.Groups.{passes, edges_over, group_ids, group_count}
use Rattle.groups.specs.Turn.{in_turn, starts_of, Keys, Sized}
use Rattle.groups.specs.Lent.{Lent, Grouped, Counted, InTurn}
use Rattle.groups.proofs.Lending.{sizes_fit, turn_asks, grouped, keys_front, sized_front, starts_front, turn_front}
use Rattle.groups.proofs.Theorems.{made, made_ids}
use Rattle.rooms.specs.Rooms.{is_given, room_ids, room_count}
use Rattle.rooms.specs.Lent.{unmarked, Given, Blank, Places, Roomed}

pub unmarked_length : length unmarked ≡ most_borders
unfolding unmarked
unmarked_length = length-replicate {A = ℕ} most_borders 0

pub blank : (g : Grid) (n : ℕ) → border_count g ≤ n → Blank g (replicate n 0)
blank g n h =
    record {
      long = rw (length-replicate {A = ℕ} n 0) h;
      zeros = zeros_at n;
    }

-- arrays with a place for each cell
pub places : (g : Grid) (n : ℕ) → cells g ≤ n → Places g (replicate n 0) (replicate n 0)
places g n h = let e : cells g ≤ length {A = ℕ} (replicate n 0) = rw (length-replicate {A = ℕ} n 0) h in record { ids_long = e; sizes_long = e }

-- marks at the given walls alone
pub unmarked_blank : (g : Grid) → Limits g → Blank g unmarked
unfolding unmarked
unmarked_blank g l = blank g most_borders (border_count_le g l)

module _ (g : Grid) (given : List ℕ) (w : Given g given) where
  -- a board's given walls have their places
  module _ {xs : List ℕ} (b : Blank g xs) where
    pub walls_in : Below (length xs) given
    walls_in e m = omega (arith, w.below e m, b.long)

    pub marks_in : (v e : ℕ) → get_or (puts given v xs) e 0 ≡ pick (is_given given e) v 0
    unfolding is_given
    marks_in v e = puts_at given v xs walls_in e ∙ ap (pick (is_given given e) v) (b.zeros e)

    -- the rooms (SPEC 1.7) are the potential units of a board with the given walls alone
    abbrev passing : ℕ → Bool
    passing e = passes true (get_or (puts given 2 xs) e 0)

    abbrev not_given : ℕ → Bool
    not_given e = not (is_given given e)

    walls_part : passing ≡ not_given
    unfolding passes
    walls_part = fun_ext (λ e. ap (passes true) (marks_in 2 e) ∙ go (is_given given e))
      where
        go : (t : Bool) → passes true (pick t 2 0) ≡ not t
        go true = refl
        go false = refl

    ids_same : group_ids g (puts given 2 xs) true ≡ room_ids g given
    unfolding group_ids room_ids
    ids_same = ap (λ (p : ℕ → Bool). parts (cells g) (edges_over g p)) walls_part

    count_same : group_count g (puts given 2 xs) true ≡ room_count g given
    unfolding group_count room_count
    count_same = ap (λ (p : ℕ → Bool). begun_in (roots (cells g) (edges_over g p)) (cells g)) walls_part

    pub roomed : {ids sizes ids' sizes' : List ℕ} {count : ℕ} → Counted g (puts given 2 xs) true ids sizes ids' sizes' count → Roomed g given ids sizes ids' sizes' count
    roomed o = record { count_is = o.count_is ∙ count_same; ids_are = o.ids_are ∙ cc ids_same; sizes_are = o.sizes_are ∙ cc (ids_same, count_same) }

  pub marks_at : (v e : ℕ) → get_or (puts given v unmarked) e 0 ≡ pick (is_given given e) v 0
  marks_at = marks_in (unmarked_blank g w.limits)

  -- and back; so the rooms' cells can be put in turn, and stand there from each room's start to its end
  module _ {ids sizes ids' sizes' : List ℕ} {count : ℕ} (l : Places g ids sizes) (o : Roomed g given ids sizes ids' sizes' count) where
    counted : Counted g (puts given 2 unmarked) true ids sizes ids' sizes' count
    counted =
        let b = unmarked_blank g w.limits in
        record { count_is = o.count_is ∙ sym (count_same b); ids_are = o.ids_are ∙ cc (ids_same b); sizes_are = o.sizes_are ∙ cc (ids_same b, count_same b) }

    pub sizes_there : count ≤ length sizes'
    sizes_there = sizes_fit w.limits l.ids_long l.sizes_long counted

    abbrev each : List ℕ
    each = take (cells g) ids'

    abbrev sized : List ℕ
    sized = take count sizes'

    pub room_asks : {m k : ℕ} → cells g ≤ m → cells g ≤ k
        → Keys (length each) each (length sized) × Sized (length each) each (length sized) sized × ((length sized ≤ m) × (length each ≤ k))
    room_asks h k =
        let t = turn_asks w.limits l.ids_long l.sizes_long counted h k in
        (keys_front (cells g) ids' t.0.long t.0, sized_front (cells g) ids' t.0.long t.1.0, (t.1.1.0, omega (arith, length-take-le (cells g) ids' t.0.long, t.1.1.1)))

    -- the places of the cells in turn, in slices that end with the last cell and the last room's start
    module _ (starts flat : List ℕ) {starts' flat' : List ℕ} (h : cells g ≤ length starts) (k : cells g ≤ length flat)
        (a : starts' ≡ sets starts 0 (starts_of (length each) each (length sized))) (b : flat' ≡ sets flat 0 (in_turn (length each) each (length sized))) where
      lent : Lent (cells g) ids starts flat
      lent = record { ids_long = l.ids_long; starts_long = h; flat_long = k }

      in_order : Grouped g (puts given 2 unmarked) true ids starts flat ids' starts' flat' count
      in_order =
          let long = (turn_asks w.limits l.ids_long l.sizes_long counted h k).0.long in
          grouped w.limits l.ids_long l.sizes_long counted (rw (starts_front (cells g) ids' long) at a) (rw (turn_front (cells g) ids' long) at b)

      pub room_ids_are : take (cells g) ids' ≡ room_ids g given
      room_ids_are = made_ids lent in_order ∙ ids_same (unmarked_blank g w.limits)

      pub room_turns : InTurn g (take (cells g) ids') (length (take count starts')) (take count starts') flat'
      room_turns = made lent in_order
