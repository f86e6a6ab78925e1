-- How many parts there are: without edges as many as vertices; an edge more joins two parts into one where they were two; more edges leave fewer parts. Assumes nothing.
use Prim.Native.Nat.{ℕ, zero, suc, ◌+◌, ◌≤◌, ◌<◌, max}
use mathlib.Core.Path.{◌≡◌, refl, ap, sym}
use mathlib.Core.Logic.{inr, ◌≢◌, ⊎_elim}
use mathlib.Core.List.{List, [], ◌∷◌}
use native.Mathlib.Omega.{arith}
use Rattle.lists.proofs.Cases.{le_or_lt, eq_or_ne}
use Rattle.parts.specs.Parts.{Edge, Has, Joined, same, over, back, then, root, begun}
use Rattle.parts.proofs.PartLaws.{merge_cases, root_le, root_root, root_least, to_root, begun_first, begun_later, joined_more}

pub begun_none : (n : ℕ) → begun [] n ≡ n
begun_none zero = unfold begun in refl
begun_none (suc n) = omega (arith, begun_first [] n (unfold root in refl), begun_none n)

-- where every first vertex of E below n is one of F, F has no fewer parts
begun_by : (E F : List Edge) (n : ℕ) → ((c : ℕ) → c < n → root E c ≡ c → root F c ≡ c) → begun E n ≤ begun F n
begun_by E F zero h = unfold begun in omega arith
begun_by E F (suc n) h =
    let b : begun E n ≤ begun F n = begun_by E F n (λ c l. h c (omega arith)) in
    ⊎_elim
    (λ (p : root E n ≡ n). omega (arith, begun_first E n p, begun_first F n (h n (omega arith) p)))
    (λ (p : root E n ≢ n).
    ⊎_elim
    (λ (q : root F n ≡ n). omega (arith, begun_later E n p, begun_first F n q))
    (λ (q : root F n ≢ n). omega (arith, begun_later E n p, begun_later F n q))
    (eq_or_ne (root F n) n))
    (eq_or_ne (root E n) n)

-- more edges, fewer parts
pub begun_more : (E F : List Edge) → ((c d : ℕ) → Has E c d → Joined F c d) → (n : ℕ) → begun F n ≤ begun E n
begun_more E F f n =
    begun_by F E n (λ c l p. omega (arith, root_le E c, root_least {E = F} {c = c} {d = root E c} (joined_more f (to_root E c))))

-- edges that join the same vertices give the same parts, with the same numbers
pub begun_same : (E F : List Edge) → ((c d : ℕ) → Has E c d → Joined F c d) → ((c d : ℕ) → Has F c d → Joined E c d) → (n : ℕ) → begun E n ≡ begun F n
begun_same E F f g n = omega (arith, begun_more E F f n, begun_more F E g n)

-- an edge within a part joins nothing new
pub begun_within : (e : Edge) (E : List Edge) (n : ℕ) → root E e.one ≡ root E e.other → begun (e ∷ E) n ≡ begun E n
begun_within e E n q =
    begun_same (e ∷ E) E
    (λ c d m. ⊎_elim (λ k. then (same (ap (λ (x : Edge). x.one) k)) (then (there e.one e.other q) (same (sym (ap (λ (x : Edge). x.other) k))))) (λ k. over k) m)
    (λ c d m. over (inr m))
    n
  where
    there : (c d : ℕ) → root E c ≡ root E d → Joined E c d
    there c d p = then (to_root E c) (then (same p) (back (to_root E d)))

-- an edge between two parts ends the part that began later
module _ (e : Edge) (E : List Edge) (apart : root E e.one ≢ root E e.other) where
  later : ℕ
  later = max (root E e.one) (root E e.other)

  later_root : root E later ≡ later
  unfolding later
  later_root =
      ⊎_elim
      (λ (l : root E e.one ≤ root E e.other). let q : max (root E e.one) (root E e.other) ≡ root E e.other = omega arith in rw q (root_root E e.other))
      (λ (l : root E e.other < root E e.one). let q : max (root E e.one) (root E e.other) ≡ root E e.one = omega arith in rw q (root_root E e.one))
      (le_or_lt (root E e.one) (root E e.other))

  still_root : (n : ℕ) → n ≢ later → root E n ≡ n → root (e ∷ E) n ≡ n
  unfolding root later
  still_root n z p = ⊎_elim (λ w. omega arith) (λ w. omega arith) (merge_cases (root E e.one) (root E e.other) (root E n))

  not_root : (n : ℕ) → root E n ≢ n → root (e ∷ E) n ≢ n
  unfolding root
  not_root n z p = ⊎_elim (λ w. omega (arith, root_le E n)) (λ w. omega arith) (merge_cases (root E e.one) (root E e.other) (root E n))

  no_more : root (e ∷ E) later ≢ later
  unfolding root later
  no_more p = ⊎_elim (λ w. omega arith) (λ w. omega (arith, later_root)) (merge_cases (root E e.one) (root E e.other) (root E later))

  begun_before : (n : ℕ) → n ≤ later → begun (e ∷ E) n ≡ begun E n
  begun_before zero h = unfold begun in refl
  begun_before (suc n) h =
      ⊎_elim
      (λ (p : root E n ≡ n). omega (arith, begun_first E n p, begun_first (e ∷ E) n (still_root n (omega arith) p), begun_before n (omega arith)))
      (λ (p : root E n ≢ n). omega (arith, begun_later E n p, begun_later (e ∷ E) n (not_root n p), begun_before n (omega arith)))
      (eq_or_ne (root E n) n)

  begun_after : (n : ℕ) → later < n → begun (e ∷ E) n + 1 ≡ begun E n
  begun_after zero h = omega arith
  begun_after (suc n) h =
      ⊎_elim
      (λ (l : n ≤ later).
      let q : n ≡ later = omega arith in
      rw q (omega (arith, begun_first E later later_root, begun_later (e ∷ E) later no_more, begun_before later (omega arith))))
      (λ (l : later < n).
      ⊎_elim
      (λ (p : root E n ≡ n). omega (arith, begun_first E n p, begun_first (e ∷ E) n (still_root n (omega arith) p), begun_after n l))
      (λ (p : root E n ≢ n). omega (arith, begun_later E n p, begun_later (e ∷ E) n (not_root n p), begun_after n l))
      (eq_or_ne (root E n) n))
      (le_or_lt n later)

  pub begun_unite : (n : ℕ) → e.one < n → e.other < n → begun (e ∷ E) n + 1 ≡ begun E n
  unfolding later
  begun_unite n p q = begun_after n (omega (arith, root_le E e.one, root_le E e.other))
