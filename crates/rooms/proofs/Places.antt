-- Places in lists: of a member, in rising lists, and through functions; lists with the same members, none twice, are equally long. Assumes nothing.
use Prim.Native.Nat.{ℕ, zero, suc, ◌≤◌, ◌<◌}
use mathlib.Core.Path.{◌≡◌, refl, ap, sym, ◌∙◌}
use mathlib.Core.Logic.{inl, inr, ◌≢◌, ⊎_elim}
use mathlib.Core.Bool.{Bool, true, false}
use mathlib.Core.List.{List, [], ◌∷◌, ◌++◌, map}
use native.Mathlib.Omega.{arith}
use borrow.Author.Tests.{eq-eqb, ne_eqb}
use lib.Dec.{eqb}
use lib.ListN.{length, get_or, length-map}
use Rattle.lists.specs.Choice.{when}
use Rattle.lists.specs.Lists.{count_from, range, count, In, keep}
use Rattle.lists.proofs.Cases.{le_or_lt, eq_or_ne}
use Rattle.lists.proofs.ListLaws.{get_d_in, in_get_d}
use Rattle.lists.proofs.CountLaws.{count_none, count_here, count_other, count_in, distinct_le}
use Rattle.grid.specs.declared.Grid.{Grid}
use Rattle.grid.specs.Grid.{cells}
use Rattle.groups.specs.Groups.{cells_in, cells_of}
use Rattle.rooms.specs.RoomGraph.{place}
use Rattle.rooms.specs.Lent.{Rising}

-- THROUGH FUNCTIONS
module _ {A : Type 0} where
  -- the member at a place, as every function sees it
  pub at_place : (xs : List A) (i : ℕ) → i < length xs → (x : A) × In x xs × ((f : A → ℕ) → get_or (map f xs) i 0 ≡ f x)
  at_place [] i l = absurd (omega arith)
  at_place (x ∷ xs) zero l = (x, inl refl, λ f. refl)
  at_place (x ∷ xs) (suc i) l = let o = at_place xs i (omega arith) in (o.0, inr o.1, o.2)

  -- the place of a member
  pub place_at : (xs : List A) (x : A) → In x xs → (i : ℕ) × (i < length xs) × ((f : A → ℕ) → get_or (map f xs) i 0 ≡ f x)
  place_at [] x m = absurd m
  place_at (y ∷ ys) x (inl e) = (0, omega arith, λ f. ap f (sym e))
  place_at (y ∷ ys) x (inr m) = let o = place_at ys x m in (suc o.0, omega (arith, o.1), o.2)

module _ {A B : Type 0} (f : A → B) where
  pub in_map : (xs : List A) (y : B) → In y (map f xs) → (x : A) × In x xs × (y ≡ f x)
  in_map [] y m = absurd m
  in_map (x ∷ xs) y (inl e) = (x, inl refl, e)
  in_map (x ∷ xs) y (inr m) = let o = in_map xs y m in (o.0, inr o.1, o.2)

  pub map_in : (xs : List A) (x : A) → In x xs → In (f x) (map f xs)
  map_in [] x m = absurd m
  map_in (y ∷ ys) x (inl e) = inl (ap f e)
  map_in (y ∷ ys) x (inr m) = inr (map_in ys x m)

-- RISING LISTS
-- rising, from a on
abbrev Above : ℕ → List ℕ → Type 0
Above a [] = Unit {0}
Above a (x ∷ xs) = (a ≤ x) × Above (suc x) xs

above_less : (a b : ℕ) (xs : List ℕ) → a ≤ b → Above b xs → Above a xs
above_less a b [] l s = tt
above_less a b (x ∷ xs) l s = (omega (arith, s.0), s.1)

above_when : (t : Bool) (a : ℕ) (xs : List ℕ) → Above (suc a) xs → Above a (when t a ++ xs)
unfolding when
above_when true a xs s = (omega arith, s)
above_when false a xs s = above_less a (suc a) xs (omega arith) s

above_keep : (p : ℕ → Bool) (a n : ℕ) → Above a (keep p (count_from a n))
unfolding keep count_from
above_keep p a zero = tt
above_keep p a (suc n) = above_when (p a) a (keep p (count_from (suc a) n)) (above_keep p (suc a) n)

-- what is kept of a rising list rises
keep_above : (p : ℕ → Bool) (a : ℕ) (xs : List ℕ) → Above a xs → Above a (keep p xs)
unfolding keep
keep_above p a [] s = tt
keep_above p a (x ∷ xs) s = above_less a x (when (p x) x ++ keep p xs) s.0 (above_when (p x) x (keep p xs) (keep_above p (suc x) xs s.1))

above_at : (a : ℕ) (xs : List ℕ) → Above a xs → (i : ℕ) → i < length xs → a ≤ get_or xs i 0
above_at a [] s i l = absurd (omega arith)
above_at a (x ∷ xs) s zero l = s.0
above_at a (x ∷ xs) s (suc i) l = omega (arith, s.0, above_at (suc x) xs s.1 i (omega arith))

above_rising : (a : ℕ) (xs : List ℕ) → Above a xs → Rising xs
above_rising a [] s i j h l = absurd (omega arith)
above_rising a (x ∷ xs) s i zero h l = absurd (omega arith)
above_rising a (x ∷ xs) s zero (suc j) h l = above_at (suc x) xs s.1 j (omega arith)
above_rising a (x ∷ xs) s (suc i) (suc j) h l = above_rising (suc x) xs s.1 i j (omega arith) (omega arith)

-- what is kept of the first n numbers rises, and so does what is kept of that
kept_above : (p : ℕ → Bool) (n : ℕ) → Above 0 (keep p (range n))
unfolding range
kept_above p n = above_keep p 0 n

pub keep_rising : (p : ℕ → Bool) (n : ℕ) → Rising (keep p (range n))
keep_rising p n = above_rising 0 (keep p (range n)) (kept_above p n)

module _ (g : Grid) (ids : List ℕ) (k : ℕ) where
  pub cells_rising : Rising (cells_of g ids k)
  unfolding cells_in
  cells_rising = keep_rising (λ c. eqb (get_or ids c 0) k) (cells g)

  pub kept_rising : (p : ℕ → Bool) → Rising (keep p (cells_of g ids k))
  unfolding cells_in
  kept_rising p = above_rising 0 (keep p (cells_of g ids k)) (keep_above p 0 (cells_of g ids k) (kept_above (λ c. eqb (get_or ids c 0) k) (cells g)))

-- PLACES
pub place_of : (xs : List ℕ) (c : ℕ) → In c xs → (place xs c < length xs) × (get_or xs (place xs c) 0 ≡ c)
unfolding place
place_of [] c m = absurd m
place_of (x ∷ xs) c m =
    ⊎_elim
    (λ (q : x ≡ c). rw (eq-eqb x c q) (omega arith, q))
    (λ (z : x ≢ c).
    let o = place_of xs c (⊎_elim (λ (e : c ≡ x). absurd (z (sym e))) (λ k. k) m) in
    rw (ne_eqb x c z) (omega (arith, o.0), o.1))
    (eq_or_ne x c)

-- the place of what stands at i, in a rising list, is i
pub rising_place : (xs : List ℕ) → Rising xs → (i : ℕ) → i < length xs → place xs (get_or xs i 0) ≡ i
rising_place xs r i l =
    let p : ℕ = place xs (get_or xs i 0) in
    let o = place_of xs (get_or xs i 0) (get_d_in 0 xs i l) in
    ⊎_elim
    (λ (h : p ≤ i). ⊎_elim (λ (k : i ≤ p). omega arith) (λ (k : p < i). absurd (omega (arith, r p i k l, o.1))) (le_or_lt i p))
    (λ (h : i < p). absurd (omega (arith, r i p h o.0, o.1)))
    (le_or_lt p i)

-- LENGTHS
-- what differs at any two places stands nowhere twice
pub once : (xs : List ℕ) → ((i j : ℕ) → i < j → j < length xs → get_or xs i 0 ≡ get_or xs j 0 → ⊥) → (x : ℕ) → count x xs ≤ 1
once [] h x = omega (arith, count_none x)
once (y ∷ ys) h x =
    ⊎_elim
    (λ (q : y ≡ x).
    ⊎_elim
    (λ (k : count x ys ≤ 0). rw q (omega (arith, count_here x ys)))
    (λ (k : 0 < count x ys).
    let o = in_get_d 0 x ys (count_in x ys k) in
    absurd (h 0 (suc o.0) (omega arith) (omega (arith, o.1)) (q ∙ sym o.2)))
    (le_or_lt (count x ys) 0))
    (λ (z : y ≢ x). omega (arith, count_other x y ys z, once ys (λ i j l b q. h (suc i) (suc j) (omega arith) (omega arith) q) x))
    (eq_or_ne y x)

count_place : (ys xs : List ℕ) → ((x : ℕ) → In x xs → In x ys) → (e : ℕ) → count e (map (place ys) xs) ≤ count (get_or ys e 0) xs
count_place ys [] h e = omega (arith, count_none e, count_none (get_or ys e 0))
count_place ys (x ∷ xs) h e =
    let rest = count_place ys xs (λ y m. h y (inr m)) e in
    ⊎_elim
    (λ (q : place ys x ≡ e).
    let s : get_or ys e 0 ≡ x = ap (λ i. get_or ys i 0) (sym q) ∙ (place_of ys x (h x (inl refl))).1 in
    rw q (omega (arith, count_here e (map (place ys) xs), ap (λ y. count y (x ∷ xs)) s, ap (λ y. count y xs) s, count_here x xs)))
    (λ (z : place ys x ≢ e). omega (arith, count_other e (place ys x) (map (place ys) xs) z, more (get_or ys e 0)))
    (eq_or_ne (place ys x) e)
  where
    more : (y : ℕ) → count y xs ≤ count y (x ∷ xs)
    more y = ⊎_elim (λ (q : x ≡ y). rw q (omega (arith, count_here y xs))) (λ (z : x ≢ y). omega (arith, count_other y x xs z)) (eq_or_ne x y)

-- a list that has none twice is no longer than one that has all its members
pub no_longer : (xs ys : List ℕ) → ((x : ℕ) → count x xs ≤ 1) → ((x : ℕ) → In x xs → In x ys) → length xs ≤ length ys
no_longer xs ys one h =
    let k =
    distinct_le (length ys) (map (place ys) xs)
    (λ e m. let o = in_map (place ys) xs e m in rw o.2 (place_of ys o.0 (h o.0 o.1)).0)
    (λ e l. omega (arith, count_place ys xs h e, one (get_or ys e 0))) in
    simp length-map at k
