-- The lists of all roots and all parts, which compute, hold what `root` and `part` say. Assumes nothing.
use Prim.Native.Nat.{ℕ, zero, suc, ◌≤◌, ◌<◌}
use mathlib.Core.Path.{◌≡◌, refl, ap, sym, ◌∙◌}
use mathlib.Core.Logic.{inl, inr, ⊎_elim}
use mathlib.Core.List.{List, [], ◌∷◌, map}
use native.Mathlib.Omega.{arith}
use lib.ListN.{get_or, length, length-map, get_or-map}
use Rattle.lists.proofs.ListLaws.{range_length, range_at}
use Rattle.parts.specs.Parts.{Edge, Has, merge, root, begun, part, join, roots, Within, begun_in, parts}
use Rattle.parts.proofs.PartLaws.{merge_cases, root_le}

merge_zero : (a b : ℕ) → merge a b 0 ≡ 0
merge_zero a b = ⊎_elim (λ w. omega arith) (λ w. omega arith) (merge_cases a b 0)

pub roots_length : (n : ℕ) (E : List Edge) → length (roots n E) ≡ n
unfolding roots join
roots_length n [] = range_length n
roots_length n (e ∷ E) = simp length-map (roots_length n E)

pub roots_at : (n : ℕ) (E : List Edge) (c : ℕ) → Within n E → c < n → get_or (roots n E) c 0 ≡ root E c
unfolding roots join root
roots_at n [] c k h = range_at n c h
roots_at n (e ∷ E) c k h =
    let l : List ℕ = roots n E in
    let a : ℕ = get_or l e.one 0 in
    let b : ℕ = get_or l e.other 0 in
    ap (get_or (map (merge a b) l) c) (sym (merge_zero a b)) ∙ get_or-map (merge a b) l c 0
    ∙ cc (roots_at n E e.one k.1 k.0.0, roots_at n E e.other k.1 k.0.1, roots_at n E c k.1 h)

begun_in_is : (l : List ℕ) (E : List Edge) (n : ℕ) → ((c : ℕ) → c < n → get_or l c 0 ≡ root E c) → begun_in l n ≡ begun E n
unfolding begun_in begun
begun_in_is l E zero h = refl
begun_in_is l E (suc n) h = cc (begun_in_is l E n (λ c k. h c (omega arith)), h n (omega arith))

-- how many parts begin below m, from the roots of all vertices below n
pub begun_at : (n : ℕ) (E : List Edge) (m : ℕ) → Within n E → m ≤ n → begun_in (roots n E) m ≡ begun E m
begun_at n E m k h = begun_in_is (roots n E) E m (λ c l. roots_at n E c k (omega arith))

pub parts_length : (n : ℕ) (E : List Edge) → length (parts n E) ≡ n
unfolding parts
parts_length n E = simp length-map (roots_length n E)

pub parts_at : (n : ℕ) (E : List Edge) (c : ℕ) → Within n E → c < n → get_or (parts n E) c 0 ≡ part E c
unfolding parts part begun_in
parts_at n E c k h =
    let l : List ℕ = roots n E in
    get_or-map (begun_in l) l c 0 ∙ ap (begun_in l) (roots_at n E c k h) ∙ begun_at n E (root E c) k (omega (arith, root_le E c))

-- where every edge has its ends below n, so has the list, and back
pub within : (n : ℕ) (E : List Edge) → ((c d : ℕ) → Has E c d → (c < n) × (d < n)) → Within n E
within n [] h = tt
within n (e ∷ E) h = (h e.one e.other (inl refl), within n E (λ c d m. h c d (inr m)))

pub within_ends : (n : ℕ) (E : List Edge) (c d : ℕ) → Within n E → Has E c d → (c < n) × (d < n)
within_ends n [] c d k m = absurd m
within_ends n (e ∷ E) c d k (inl q) = (rw (ap (λ (x : Edge). x.one) q) k.0.0, rw (ap (λ (x : Edge). x.other) q) k.0.1)
within_ends n (e ∷ E) c d k (inr m) = within_ends n E c d k.1 m
