-- The edges of a room, gone through in two looks a cell: what is left to write, written behind what is written, gives the whole. Assumes nothing.
use Prim.Native.Nat.{ℕ, suc, ◌+◌, ◌-◌, ◌*◌, ◌/◌, ◌%◌, ◌≤◌, ◌<◌}
use mathlib.Core.Path.{◌≡◌, refl, ap, ◌∙◌}
use mathlib.Core.Logic.{◌≢◌, ⊎_elim}
use mathlib.Core.Bool.{Bool, true, false}
use mathlib.Core.List.{List, [], ◌∷◌, ◌++◌, map, append_assoc, append-nil}
use native.Mathlib.Omega.{arith}
use native.Mathlib.Numerals.{add-one}
use borrow.Author.Tests.{eq-eqb, ne_eqb}
use lib.Dec.{eqb}
use lib.ListN.{length, get_or, drop, set, length-set, drop_of_length-le}
use lib.Seq.{sets, drop-cons}
use Rattle.limits.specs.Limits.{most_cells}
use Rattle.lists.specs.Choice.{pick, when}
use Rattle.lists.specs.Lists.{gather}
use Rattle.lists.proofs.Cases.{eq_or_ne}
use Rattle.grid.specs.declared.Direction.{Direction}
use Rattle.grid.specs.declared.Direction.TheVariants.{Down, Right}
use Rattle.grid.specs.declared.Grid.{Grid}
use Rattle.grid.specs.Orders.{forward}
use Rattle.borders.specs.Entry.{entry_of}
use Rattle.rooms.specs.RoomGraph.{Spot, is_in, in_room, spots_at, spots, from_of, into_of, border_of, kind_of, room_entries}
use Rattle.rooms.specs.Lent.{Written}

-- down for each even number, right for each odd one
abbrev pub way_of : ℕ → Direction
way_of i = pick (eqb (i % 2) 0) Down Right

module _ (g : Grid) (given : ℕ → Bool) (cs : List ℕ) where
  abbrev ss : List Spot
  ss = spots g given cs

  -- the i-th look
  abbrev pub spot_at : ℕ → Spot
  spot_at i = record { cell = get_or cs (i / 2) 0; direction = way_of i }

  abbrev pub edge_at : ℕ → Bool
  edge_at i = in_room g given (is_in cs) (get_or cs (i / 2) 0) (way_of i)

  -- a look sees an edge from c to n over e: these cells have their vertices; j is the next look
  pub record Seen (vertex : List ℕ) (i j c n e : ℕ) : Type 0 where
    pub lt : i < 2 * length cs
    pub next : j ≡ i + 1
    pub there : edge_at i ≡ true
    pub border_is : e ≡ border_of g (spot_at i)
    pub cell_lt : c < most_cells
    pub from_is : get_or vertex c 0 ≡ 1 + from_of cs (spot_at i)
    pub into_is : get_or vertex n 0 ≡ 1 + into_of g cs (spot_at i)

  -- or no edge
  pub record Unseen (i j : ℕ) : Type 0 where
    pub lt : i < 2 * length cs
    pub next : j ≡ i + 1
    pub none : edge_at i ≡ false

  abbrev look : ℕ → List Spot
  look c = gather (spots_at g given cs c) forward

  -- the edges from the i-th look on
  pub rest : ℕ → List Spot
  rest i = pick (eqb (i % 2) 0) (gather look (drop (i / 2) cs)) (spots_at g given cs (get_or cs (i / 2) 0) Right ++ gather look (drop (suc (i / 2)) cs))

  rest_all : rest 0 ≡ spots g given cs
  unfolding rest spots
  rest_all = refl

  rest_none : (i : ℕ) → 2 * length cs ≤ i → i ≤ 2 * length cs → rest i ≡ []
  unfolding rest gather
  rest_none i h l =
      let a : i % 2 ≡ 0 = omega arith in
      let b : length cs ≤ i / 2 = omega arith in
      rw (eq-eqb (i % 2) 0 a, drop_of_length-le cs {i = i / 2} b)

  rest_turn : (i : ℕ) → i < 2 * length cs → rest i ≡ when (edge_at i) (spot_at i) ++ rest (i + 1)
  unfolding rest gather spots_at
  rest_turn i h =
      let k : i / 2 < length cs = omega arith in
      ⊎_elim
      (λ (q : i % 2 ≡ 0).
      let a : (i + 1) % 2 ≢ 0 = λ e. omega arith in
      let b : (i + 1) / 2 ≡ i / 2 = omega arith in
      let c = get_or cs (i / 2) 0 in
      rw (eq-eqb (i % 2) 0 q, ne_eqb ((i + 1) % 2) 0 a, b, drop-cons cs (i / 2) 0 k, append-nil (spots_at g given cs c Right))
      (append_assoc (spots_at g given cs c Down) (spots_at g given cs c Right) (gather look (drop (suc (i / 2)) cs))))
      (λ (q : i % 2 ≢ 0).
      let a : (i + 1) % 2 ≡ 0 = omega arith in
      let b : (i + 1) / 2 ≡ suc (i / 2) = omega arith in
      rw (ne_eqb (i % 2) 0 q, eq-eqb ((i + 1) % 2) 0 a, b))
      (eq_or_ne (i % 2) 0)

  rest_skip : (i : ℕ) → i < 2 * length cs → edge_at i ≡ false → rest i ≡ rest (i + 1)
  unfolding when
  rest_skip i h q = rest_turn i h ∙ rw q

  rest_one : (i : ℕ) → i < 2 * length cs → edge_at i ≡ true → rest i ≡ spot_at i ∷ rest (i + 1)
  unfolding when
  rest_one i h q = rest_turn i h ∙ rw q

  -- ENDS AND STATES
  -- a number for each edge, in a slice: m are written
  pub record Writes (f : Spot → ℕ) (l₀ l : List ℕ) (m i : ℕ) : Type 0 where
    pub long : length l ≡ length l₀
    pub are : sets l m (map f (rest i)) ≡ sets l₀ 0 (map f (spots g given cs))

  writes_skip : (f : Spot → ℕ) (l₀ l : List ℕ) (m i : ℕ) → i < 2 * length cs → edge_at i ≡ false → Writes f l₀ l m i → Writes f l₀ l m (i + 1)
  writes_skip f l₀ l m i h q w = record { long = w.long; are = rw (rest_skip i h q) at w.are }

  writes_one : (f : Spot → ℕ) (l₀ l : List ℕ) (m i v : ℕ) → i < 2 * length cs → edge_at i ≡ true → v ≡ f (spot_at i) → Writes f l₀ l m i → Writes f l₀ (set l m v) (m + 1) (i + 1)
  writes_one f l₀ l m i v h q e w = record { long = simp length-set w.long; are = rw (e, add-one m) (rw (rest_one i h q) at w.are) }

  pub record Writing (states us₀ vs₀ here₀ us vs here : List ℕ) (m i : ℕ) : Type 0 where
    pub within : i ≤ 2 * length cs
    pub few : m ≤ i
    pub counted : m + length (rest i) ≡ length (spots g given cs)
    pub us_are : Writes (from_of cs) us₀ us m i
    pub vs_are : Writes (into_of g cs) vs₀ vs m i
    pub here_are : Writes (λ s. get_or states (border_of g s) 0) here₀ here m i

  pub writing_none : {states us vs here : List ℕ} → Writing states us vs here us vs here 0 0
  writing_none =
      record {
        within = omega arith;
        few = omega arith;
        counted = omega (arith, ap length rest_all);
        us_are = record { long = refl; are = rw rest_all };
        vs_are = record { long = refl; are = rw rest_all };
        here_are = record { long = refl; are = rw rest_all };
      }

  module _ {states us₀ vs₀ here₀ us vs here : List ℕ} {m i : ℕ} (w : Writing states us₀ vs₀ here₀ us vs here m i) where
    pub writing_skip : {j : ℕ} → Unseen i j → Writing states us₀ vs₀ here₀ us vs here m j
    writing_skip o =
        rw o.next
        (record {
          within = omega (arith, o.lt);
          few = omega (arith, w.few);
          counted = omega (arith, w.counted, ap length (rest_skip i o.lt o.none));
          us_are = writes_skip (from_of cs) us₀ us m i o.lt o.none w.us_are;
          vs_are = writes_skip (into_of g cs) vs₀ vs m i o.lt o.none w.vs_are;
          here_are = writes_skip (λ s. get_or states (border_of g s) 0) here₀ here m i o.lt o.none w.here_are;
        })

    pub writing_one : {vertex : List ℕ} {j c n e : ℕ} → Seen vertex i j c n e
        → Writing states us₀ vs₀ here₀ (set us m (get_or vertex c 0 - 1)) (set vs m (get_or vertex n 0 - 1)) (set here m (get_or states e 0)) (m + 1) j
    writing_one o =
        rw o.next
        (record {
          within = omega (arith, o.lt);
          few = omega (arith, w.few);
          counted = omega (arith, w.counted, ap length (rest_one i o.lt o.there));
          us_are = writes_one (from_of cs) us₀ us m i _ o.lt o.there (omega (arith, o.from_is)) w.us_are;
          vs_are = writes_one (into_of g cs) vs₀ vs m i _ o.lt o.there (omega (arith, o.into_is)) w.vs_are;
          here_are = writes_one (λ s. get_or states (border_of g s) 0) here₀ here m i _ o.lt o.there (rw o.border_is) w.here_are;
        })

    pub writing_all : length cs ≤ most_cells → 2 * length cs ≤ i → Written g given states cs us₀ vs₀ here₀ us vs here m
    writing_all l h =
        let none = rest_none i h w.within in
        record {
          count_is = omega (arith, w.counted, ap length none);
          few = omega (arith, w.few, w.within);
          us_are = rw none at w.us_are.are;
          vs_are = rw none at w.vs_are.are;
          here_are = rw none at w.here_are.are;
        }

  -- ENTRIES
  module _ (wall : Bool) (s : ℕ → ℕ) where
    abbrev entry_at : Spot → List ℕ
    entry_at x = when (eqb (s (border_of g x)) (kind_of wall)) (entry_of wall (border_of g x))

    abbrev left : ℕ → List ℕ
    left i = gather entry_at (rest i)

    -- after i looks n entries are written
    pub record Listing (buffer₀ buffer : List ℕ) (n i : ℕ) : Type 0 where
      pub within : i ≤ 2 * length cs
      pub few : n ≤ i
      pub counted : n + length (left i) ≡ length (room_entries g given cs wall s)
      pub long : length buffer ≡ length buffer₀
      pub are : sets buffer n (left i) ≡ sets buffer₀ 0 (room_entries g given cs wall s)

    left_all : left 0 ≡ room_entries g given cs wall s
    unfolding room_entries
    left_all = rw rest_all

    pub listing_none : {buffer : List ℕ} → Listing buffer buffer 0 0
    listing_none =
        record { within = omega arith; few = omega arith; counted = omega (arith, ap length left_all); long = refl; are = rw left_all }

    module _ {buffer₀ buffer : List ℕ} {n i : ℕ} (w : Listing buffer₀ buffer n i) where
      -- nothing to write
      pass : i < 2 * length cs → left i ≡ left (i + 1) → Listing buffer₀ buffer n (i + 1)
      pass h q =
          record { within = omega arith; few = omega (arith, w.few); counted = omega (arith, w.counted, ap length q); long = w.long; are = rw q at w.are }

      pub listing_skip : {j : ℕ} → Unseen i j → Listing buffer₀ buffer n j
      listing_skip o = rw o.next (pass o.lt (rw (rest_skip i o.lt o.none)))

      module _ {vertex : List ℕ} {j c d e : ℕ} (o : Seen vertex i j c d e) where
        pub listing_other : s e ≢ kind_of wall → Listing buffer₀ buffer n j
        unfolding gather when
        listing_other z = rw o.next (pass o.lt (rw (rest_one i o.lt o.there, ne_eqb (s (border_of g (spot_at i))) (kind_of wall) (rw o.border_is at z))))

        pub listing_one : s e ≡ kind_of wall → Listing buffer₀ (set buffer n (entry_of wall e)) (n + 1) j
        unfolding gather when
        listing_one z =
            let one : left i ≡ entry_of wall e ∷ left (i + 1) = rw (rest_one i o.lt o.there, ← o.border_is, eq-eqb (s e) (kind_of wall) z) in
            rw o.next
            (record {
              within = omega (arith, o.lt);
              few = omega (arith, w.few);
              counted = omega (arith, w.counted, ap length one);
              long = simp length-set w.long;
              are = rw (add-one n) (rw one at w.are);
            })

      pub listing_all : 2 * length cs ≤ i → (n ≡ length (room_entries g given cs wall s)) × (buffer ≡ sets buffer₀ 0 (room_entries g given cs wall s))
      unfolding gather
      listing_all h =
          let none : left i ≡ [] = rw (rest_none i h w.within) in
          (omega (arith, w.counted, ap length none), rw none at w.are)
