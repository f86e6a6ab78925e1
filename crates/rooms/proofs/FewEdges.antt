-- A room has at most as many edges as the board has borders: no two of its edges have one border. Assumes nothing.
use Prim.Native.Nat.{ℕ, ◌+◌, ◌≤◌, ◌<◌}
use mathlib.Core.Path.{◌≡◌, refl, ap, sym, ◌∙◌, subst}
use mathlib.Core.Logic.{inl, inr, ◌≢◌, ⊎_elim}
use mathlib.Core.Bool.{Bool, true, not}
use mathlib.Core.List.{List, [], ◌∷◌, ◌++◌, map, append-nil}
use native.Mathlib.Omega.{arith}
use borrow.Author.Tests.{ltb-true}
use lib.ListN.{length, length-map}
use Rattle.lists.specs.Choice.{both}
use Rattle.lists.specs.Lists.{In, count, gather}
use Rattle.lists.proofs.Cases.{le_or_lt, eq_or_ne}
use Rattle.lists.proofs.ChoiceLaws.{both_true}
use Rattle.lists.proofs.ListLaws.{in_when, in_gather}
use Rattle.lists.proofs.CountLaws.{count_none, count_append, count_here, count_other, in_count, count_in, distinct_le}
use Rattle.grid.specs.declared.Direction.{Direction}
use Rattle.grid.specs.declared.Direction.TheVariants.{Down, Right}
use Rattle.grid.specs.declared.Grid.{Grid}
use Rattle.grid.specs.Grid.{Cell, col, goes_on, next, border, border_count}
use Rattle.grid.specs.Orders.{forward}
use Rattle.grid.specs.Steps.{Step}
use Rattle.grid.proofs.Geometry.{goes_step, one_pair, border_lt, cell_wide}
use Rattle.boundary.proofs.Lengths.{when_most}
use Rattle.rooms.specs.RoomGraph.{Spot, is_in, in_room, spots_at, spots, border_of}
use Rattle.rooms.specs.Lent.{Rising}
use Rattle.rooms.proofs.Places.{in_map, map_in, once}
use Rattle.rooms.proofs.RoomLaws.{is_in_lem}

-- WHAT IS GATHERED ONCE
more : (x y : ℕ) (ys : List ℕ) → count x ys ≤ count x (y ∷ ys)
more x y ys = ⊎_elim (λ (q : y ≡ x). rw q (omega (arith, count_here x ys))) (λ (z : y ≢ x). omega (arith, count_other x y ys z)) (eq_or_ne y x)

-- where each list has a number once at most, and no two lists share one, all together have it once at most
gather_once : (f : ℕ → List ℕ) (e : ℕ) (xs : List ℕ) → ((x : ℕ) → In x xs → count e (f x) ≤ 1) → ((x y : ℕ) → In x xs → In y xs → In e (f x) → In e (f y) → x ≡ y)
    → ((x : ℕ) → count x xs ≤ 1) → count e (gather f xs) ≤ 1
unfolding gather
gather_once f e [] one apart distinct = omega (arith, count_none e)
gather_once f e (x ∷ xs) one apart distinct =
    let both = count_append e (f x) (gather f xs) in
    ⊎_elim
    (λ (k : count e (f x) ≤ 0).
    omega (arith, both, gather_once f e xs (λ y m. one y (inr m)) (λ y z m n. apart y z (inr m) (inr n)) (λ y. omega (arith, distinct y, more y x xs))))
    (λ (k : 0 < count e (f x)).
    ⊎_elim
    (λ (j : count e (gather f xs) ≤ 0). omega (arith, both, one x (inl refl)))
    (λ (j : 0 < count e (gather f xs)).
    let o = in_gather f xs e (count_in e (gather f xs) j) in
    let q : x ≡ o.0 = apart x o.0 (inl refl) (inr o.1) (count_in e (f x) k) o.2 in
    absurd (omega (arith, distinct x, count_here x xs, in_count x xs (rw q o.1))))
    (le_or_lt (count e (gather f xs)) 0))
    (le_or_lt (count e (f x)) 0)

map-append : (f : Spot → ℕ) (a b : List Spot) → map f (a ++ b) ≡ map f a ++ map f b
map-append f [] b = refl
map-append f (s ∷ a) b = ap (λ l. f s ∷ l) (map-append f a b)

map_gather : (f : Spot → ℕ) (h : ℕ → List Spot) (xs : List ℕ) → map f (gather h xs) ≡ gather (λ x. map f (h x)) xs
unfolding gather
map_gather f h [] = refl
map_gather f h (x ∷ xs) = map-append f (h x) (gather h xs) ∙ ap (λ l. map f (h x) ++ l) (map_gather f h xs)

count_short : (e : ℕ) (l : List ℕ) → count e l ≤ length l
count_short e [] = omega (arith, count_none e)
count_short e (x ∷ l) = ⊎_elim (λ (q : x ≡ e). rw q (omega (arith, count_here e l, count_short e l))) (λ (z : x ≢ e). omega (arith, count_other e x l z, count_short e l)) (eq_or_ne x e)

-- BORDERS
-- down and right lead to a later cell
later : (g : Grid) (d : Direction) (c : ℕ) → In d forward → Cell g c → c < next g d c
unfolding next
later g d c m l = ⊎_elim (λ (q : d ≡ Down). rw q (omega (arith, cell_wide g c l))) (λ k. ⊎_elim (λ (q : d ≡ Right). rw q (omega arith)) (λ z. absurd z) k) m

module _ (g : Grid) (given : ℕ → Bool) (cs : List ℕ) where
  abbrev look : ℕ → List Spot
  look c = gather (spots_at g given cs c) forward

  -- a cell's border down or right, over which the board goes on
  record Over (c e : ℕ) : Type 0 where
    way : Direction
    ahead : In way forward
    goes : goes_on g way c ≡ true
    is : e ≡ border g way c

  -- what an edge's border is
  spot_facts : (c e : ℕ) (d : Direction) → In e (map (border_of g) (spots_at g given cs c d)) → (goes_on g d c ≡ true) × (e ≡ border g d c)
  unfolding spots_at in_room
  spot_facts c e d i =
      let o = in_map (border_of g) (spots_at g given cs c d) e i in
      let w = in_when (in_room g given (is_in cs) c d) (record { cell = c; direction = d }) o.0 o.1 in
      ((both_true (goes_on g d c) _ w.0).0, o.2 ∙ ap (border_of g) w.1)

  spot_over : (c : ℕ) (s : Spot) → In s (look c) → Over c (border_of g s)
  spot_over c s m =
      let d = in_gather (spots_at g given cs c) forward s m in
      let f = spot_facts c (border_of g s) d.0 (map_in (border_of g) (spots_at g given cs c d.0) s d.2) in
      record { way = d.0; ahead = d.1; goes = f.0; is = f.1 }

  look_over : (c e : ℕ) → In e (map (border_of g) (look c)) → Over c e
  look_over c e i = let o = in_map (border_of g) (look c) e i in subst (Over c) (sym o.2) (spot_over c o.0 o.1)

  over_step : (c e : ℕ) → Cell g c → (o : Over c e) → Step g o.way c (next g o.way c) e
  over_step c e l o = rw o.is (goes_step g o.way c l o.goes)

  -- a border is told from one cell
  one_cell : (c c' e : ℕ) → Cell g c → Cell g c' → Over c e → Over c' e → c ≡ c'
  one_cell c c' e l l' o o' =
      ⊎_elim
      (λ k. k.0)
      (λ k. absurd (omega (arith, later g o.way c o.ahead l, later g o'.way c' o'.ahead l')))
      (one_pair g c (next g o.way c) c' (next g o'.way c') e (o.way, over_step c e l o) (o'.way, over_step c' e l' o'))

  -- and once: down and right have different borders
  down_or_right : (c e : ℕ) → Cell g c → In e (map (border_of g) (spots_at g given cs c Down)) → In e (map (border_of g) (spots_at g given cs c Right)) → ⊥
  unfolding next goes_on
  down_or_right c e l i j =
      let a = spot_facts c e Down i in
      let b = spot_facts c e Right j in
      let down : Step g Down c (next g Down c) e = rw a.1 (goes_step g Down c l a.0) in
      let right : Step g Right c (next g Right c) e = rw b.1 (goes_step g Right c l b.0) in
      let wide : col g c + 1 < g.width = ltb-true (col g c + 1) g.width b.0 in
      ⊎_elim (λ k. omega (arith, k.1)) (λ k. omega (arith, k.0)) (one_pair g c (next g Down c) c (next g Right c) e (Down, down) (Right, right))

  one_most : (c e : ℕ) (d : Direction) → count e (map (border_of g) (spots_at g given cs c d)) ≤ 1
  unfolding spots_at
  one_most c e d =
      omega (
        arith,
        count_short e (map (border_of g) (spots_at g given cs c d)),
        length-map (spots_at g given cs c d) (border_of g),
        when_most {A = Spot} (in_room g given (is_in cs) c d) (record { cell = c; direction = d }),
      )

  cell_once : (c e : ℕ) → Cell g c → count e (map (border_of g) (look c)) ≤ 1
  unfolding gather
  cell_once c e l =
      let down = map (border_of g) (spots_at g given cs c Down) in
      let right = map (border_of g) (spots_at g given cs c Right) in
      rw (append-nil (spots_at g given cs c Right), map-append (border_of g) (spots_at g given cs c Down) (spots_at g given cs c Right), count_append e down right)
      (⊎_elim
      (λ (k : count e down ≤ 0). omega (arith, one_most c e Right))
      (λ (k : 0 < count e down).
      ⊎_elim
      (λ (j : count e right ≤ 0). omega (arith, one_most c e Down))
      (λ (j : 0 < count e right). absurd (down_or_right c e l (count_in e down k) (count_in e right j)))
      (le_or_lt (count e right) 0))
      (le_or_lt (count e down) 0))

  -- an edge's ends are in the room
  pub spot_ends : (s : Spot) → In s (spots g given cs) → In s.cell cs × In (next g s.direction s.cell) cs
  unfolding spots spots_at in_room
  spot_ends s m =
      let c = in_gather look cs s m in
      let d = in_gather (spots_at g given cs c.0) forward s c.2 in
      let o = in_when (in_room g given (is_in cs) c.0 d.0) (record { cell = c.0; direction = d.0 }) s d.2 in
      let t = both_true (goes_on g d.0 c.0) (both (is_in cs (next g d.0 c.0)) (not (given (border g d.0 c.0)))) o.0 in
      rw o.1 (c.1, is_in_lem cs (next g d.0 c.0) (both_true (is_in cs (next g d.0 c.0)) (not (given (border g d.0 c.0))) t.1).0)

  -- cells of the board, in rising order
  module _ (inside : (c : ℕ) → In c cs → Cell g c) (rising : Rising cs) where
    borders_once : (e : ℕ) → count e (map (border_of g) (spots g given cs)) ≤ 1
    unfolding spots
    borders_once e =
        rw (map_gather (border_of g) look cs)
        (gather_once (λ c. map (border_of g) (look c)) e cs
        (λ c m. cell_once c e (inside c m))
        (λ c c' m n i j. one_cell c c' e (inside c m) (inside c' n) (look_over c e i) (look_over c' e j))
        (once cs (λ i j h b q. omega (arith, rising i j h b))))

    -- an edge's border is one of the board's
    pub spot_lt : (s : Spot) → In s (spots g given cs) → border_of g s < border_count g
    unfolding spots
    spot_lt s m =
        let c = in_gather look cs s m in
        let l = inside c.0 c.1 in
        let k = spot_over c.0 s c.2 in
        border_lt g k.way c.0 (next g k.way c.0) (border_of g s) (over_step c.0 (border_of g s) l k)

    borders_inside : (e : ℕ) → In e (map (border_of g) (spots g given cs)) → e < border_count g
    borders_inside e i = let o = in_map (border_of g) (spots g given cs) e i in subst (λ x. x < border_count g) (sym o.2) (spot_lt o.0 o.1)

    pub edges_few : length (spots g given cs) ≤ border_count g
    edges_few =
        let k = distinct_le (border_count g) (map (border_of g) (spots g given cs)) borders_inside (λ e l. borders_once e) in
        simp length-map at k
