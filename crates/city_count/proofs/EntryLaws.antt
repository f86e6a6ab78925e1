-- The entries of the edges that have a state: which they are, that they are no more than the edges, and the loop that writes them. Assumes nothing.
use Prim.Native.Nat.{ℕ, suc, ◌+◌, ◌-◌, ◌≤◌, ◌<◌}
use mathlib.Core.Path.{◌≡◌, refl, ap}
use mathlib.Core.Logic.{◌≢◌, ⊎_elim}
use mathlib.Core.Bool.{Bool, true, false}
use mathlib.Core.List.{List, [], ◌∷◌}
use native.Mathlib.Omega.{arith}
use native.Mathlib.Numerals.{add-one}
use native.Mathlib.Nat.{sub-zero}
use borrow.Author.Tests.{eqb-true, eq-eqb, ne_eqb}
use lib.Dec.{eqb}
use lib.ListN.{length, set, length-set}
use lib.Seq.{sets}
use Rattle.lists.specs.Choice.{when}
use Rattle.lists.specs.Lists.{In, count_from, range, gather}
use Rattle.lists.proofs.Cases.{true_or_false}
use Rattle.lists.proofs.ListLaws.{in_gather, gather_in, in_when, when_in, range_in, in_range, range_length}
use Rattle.borders.proofs.Congruence.{gather_same}
use Rattle.city_count.specs.Fault.{entries_of}

-- at most one for each
when_few : (t : ℕ → Bool) (f : ℕ → ℕ) (xs : List ℕ) → length (gather (λ x. when (t x) (f x)) xs) ≤ length xs
unfolding gather when
when_few t f [] = omega arith
when_few t f (x ∷ xs) =
    ⊎_elim
    (λ (e : t x ≡ true). rw e (omega (arith, when_few t f xs)))
    (λ (e : t x ≡ false). rw e (omega (arith, when_few t f xs)))
    (true_or_false (t x))

module _ (entry : ℕ → ℕ) (k m : ℕ) (s : ℕ → ℕ) where
  -- an entry is that of an edge of the state
  pub in_entries : (l : ℕ) → In l (entries_of entry k m s) → (i : ℕ) × (i < m) × (s i ≡ k) × (l ≡ entry i)
  unfolding entries_of
  in_entries l h =
      let o = in_gather (λ i. when (eqb (s i) k) (entry i)) (range m) l h in
      let w = in_when (eqb (s o.0) k) (entry o.0) l o.2 in
      (o.0, in_range m o.0 o.1, eqb-true (s o.0) k w.0, w.1)

  pub entries_in : (i : ℕ) → i < m → s i ≡ k → In (entry i) (entries_of entry k m s)
  unfolding entries_of
  entries_in i h e =
      gather_in (λ i. when (eqb (s i) k) (entry i)) (range m) i (entry i) (range_in m i h) (when_in (eqb (s i) k) (entry i) (eq-eqb (s i) k e))

  -- those of the edges from i on
  pub rest : ℕ → List ℕ
  rest i = gather (λ i. when (eqb (s i) k) (entry i)) (count_from i (m - i))

  rest_all : rest 0 ≡ entries_of entry k m s
  unfolding rest entries_of range
  rest_all = simp sub-zero

  rest_pass : (i : ℕ) → i < m → eqb (s i) k ≡ true → rest i ≡ entry i ∷ rest (i + 1)
  unfolding rest count_from gather when
  rest_pass i h t = let e : m - i ≡ suc (m - (i + 1)) = omega arith in rw (e, t, add-one)

  rest_skip : (i : ℕ) → i < m → eqb (s i) k ≡ false → rest i ≡ rest (i + 1)
  unfolding rest count_from gather when
  rest_skip i h t = let e : m - i ≡ suc (m - (i + 1)) = omega arith in rw (e, t, add-one)

  rest_none : (i : ℕ) → m ≤ i → rest i ≡ []
  unfolding rest count_from gather
  rest_none i h = let e : m - i ≡ 0 = omega arith in rw e

  -- after the first i edges n entries are written
  pub record Listing (buf₀ buf : List ℕ) (n i : ℕ) : Type 0 where
    pub within : i ≤ m
    pub few : n ≤ i
    pub size : length buf ≡ length buf₀
    pub counted : n + length (rest i) ≡ length (entries_of entry k m s)
    pub listed : sets buf n (rest i) ≡ sets buf₀ 0 (entries_of entry k m s)

  pub listing_none : (buf : List ℕ) → Listing buf buf 0 0
  listing_none buf =
      record { within = omega arith; few = omega arith; size = refl; counted = omega (arith, ap length rest_all); listed = rw rest_all }

  module _ (buf₀ buf : List ℕ) (n i : ℕ) (w : Listing buf₀ buf n i) (h : i < m) where
    pub listing_more : {x : ℕ} → s i ≡ k → x ≡ entry i → Listing buf₀ (set buf n x) (n + 1) (i + 1)
    listing_more {x} t e =
        let q : rest i ≡ x ∷ rest (i + 1) = rw e (rest_pass i h (eq-eqb (s i) k t)) in
        record {
          within = omega arith;
          few = omega (arith, w.few);
          size = simp length-set w.size;
          counted = omega (arith, w.counted, ap length q);
          listed = rw add-one (rw q at w.listed);
        }

    pub listing_same : s i ≢ k → Listing buf₀ buf n (i + 1)
    listing_same t =
        let q : rest i ≡ rest (i + 1) = rest_skip i h (ne_eqb (s i) k t) in
        record {
          within = omega arith;
          few = omega (arith, w.few);
          size = w.size;
          counted = omega (arith, w.counted, ap length q);
          listed = rw q at w.listed;
        }

  pub listing_all : (buf₀ buf : List ℕ) (n i : ℕ) → Listing buf₀ buf n i → m ≤ i
      → (n ≡ length (entries_of entry k m s)) × (buf ≡ sets buf₀ 0 (entries_of entry k m s))
  listing_all buf₀ buf n i w h =
      let q : rest i ≡ [] = rest_none i h in (omega (arith, w.counted, ap length q), rw q at w.listed)

  -- there are no more entries than edges
  pub entries_few : length (entries_of entry k m s) ≤ m
  unfolding entries_of
  entries_few = omega (arith, when_few (λ i. eqb (s i) k) entry (range m), range_length m)

-- the entries depend on the states of the edges alone
pub entries_agree : (entry : ℕ → ℕ) (k m : ℕ) (s t : ℕ → ℕ) → ((i : ℕ) → i < m → s i ≡ t i) → entries_of entry k m s ≡ entries_of entry k m t
unfolding entries_of
entries_agree entry k m s t h =
    gather_same (λ i. when (eqb (s i) k) (entry i)) (λ i. when (eqb (t i) k) (entry i)) (range m) (λ i n. rw (h i (in_range m i n)))
