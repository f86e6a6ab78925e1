-- Laws of parts: numbers and first vertices tell apart exactly what is not joined, and parts are numbered by first vertex without gaps. Assumes nothing.
use Prim.Native.Nat.{ℕ, zero, suc, ◌+◌, ◌≤◌, ◌<◌, min, max}
use mathlib.Core.Path.{◌≡◌, refl, ap, sym, ◌∙◌}
use mathlib.Core.Logic.{◌⊎◌, inl, inr, ◌≢◌, ⊎_elim, ◌↔◌}
use mathlib.Core.Bool.{Bool, true, false}
use mathlib.Core.List.{List, [], ◌∷◌}
use native.Mathlib.Omega.{arith}
use borrow.Author.Tests.{eqb-true, eqb-false, eq-eqb, ne_eqb}
use lib.Dec.{eqb}
use Rattle.lists.proofs.Cases.{le_or_lt, eq_or_ne}
use Rattle.parts.specs.Parts.{Edge, edge, Has, Joined, same, over, back, then, merge, root, begun, part}

-- WHAT IS JOINED

pub edge_ends : {c d : ℕ} {e : Edge} → edge c d ≡ e → (c ≡ e.one) × (d ≡ e.other)
edge_ends q = (ap (λ (e : Edge). e.one) q, ap (λ (e : Edge). e.other) q)

pub ends_edge : {c d : ℕ} {e : Edge} → c ≡ e.one → d ≡ e.other → edge c d ≡ e
ends_edge p q = rw (p, q)

-- more edges join more
pub joined_more : {E F : List Edge} → ((c d : ℕ) → Has E c d → Joined F c d) → {c d : ℕ} → Joined E c d → Joined F c d
joined_more f (same q) = same q
joined_more f (over {c} {d} m) = f c d m
joined_more f (back j) = back (joined_more f j)
joined_more f (then j k) = then (joined_more f j) (joined_more f k)

pub joined_tail : {E : List Edge} (e : Edge) {c d : ℕ} → Joined E c d → Joined (e ∷ E) c d
joined_tail e j = joined_more (λ c d m. over (inr m)) j

-- what is equal over each edge is equal wherever vertices are joined
pub joined_elim : {A : Type 0} {E : List Edge} (f : ℕ → A) → ((c d : ℕ) → Has E c d → f c ≡ f d) → {c d : ℕ} → Joined E c d → f c ≡ f d
joined_elim f h (same q) = ap f q
joined_elim f h (over {c} {d} m) = h c d m
joined_elim f h (back j) = sym (joined_elim f h j)
joined_elim f h (then j k) = joined_elim f h j ∙ joined_elim f h k

-- what goes over each edge, both ways, goes to whatever is joined
pub joined_keeps : {E : List Edge} (P : ℕ → Type 0) → ((c d : ℕ) → Has E c d → P c ↔ P d) → {c d : ℕ} → Joined E c d → P c ↔ P d
joined_keeps P h (same q) = (λ p. rw (← q) p, λ p. rw q p)
joined_keeps P h (over {c} {d} m) = h c d m
joined_keeps P h (back j) = ((joined_keeps P h j).1, (joined_keeps P h j).0)
joined_keeps P h (then j k) =
    (λ p. (joined_keeps P h k).0 ((joined_keeps P h j).0 p), λ p. (joined_keeps P h j).1 ((joined_keeps P h k).1 p))

-- FIRST VERTICES

pub merge_cases : (a b x : ℕ) → ((x ≡ max a b) × (merge a b x ≡ min a b)) ⊎ ((x ≢ max a b) × (merge a b x ≡ x))
unfolding merge
merge_cases a b x = go (eqb x (max a b)) refl
  where
    go : (t : Bool) → eqb x (max a b) ≡ t → ((x ≡ max a b) × (merge a b x ≡ min a b)) ⊎ ((x ≢ max a b) × (merge a b x ≡ x))
    go true e = inl (eqb-true _ _ e, rw e)
    go false e = inr (eqb-false _ _ e, rw e)

merge_le : (a b x : ℕ) → merge a b x ≤ x
merge_le a b x = ⊎_elim (λ w. omega arith) (λ w. omega arith) (merge_cases a b x)

merge_one : (a b : ℕ) → merge a b a ≡ min a b
merge_one a b = ⊎_elim (λ w. omega arith) (λ w. omega arith) (merge_cases a b a)

merge_other : (a b : ℕ) → merge a b b ≡ min a b
merge_other a b = ⊎_elim (λ w. omega arith) (λ w. omega arith) (merge_cases a b b)

pub root_le : (E : List Edge) (c : ℕ) → root E c ≤ c
unfolding root
root_le [] c = omega arith
root_le (e ∷ E) c = omega (arith, root_le E c, merge_le (root E e.one) (root E e.other) (root E c))

has_root : (E : List Edge) (c d : ℕ) → Has E c d → root E c ≡ root E d
unfolding root
has_root [] c d m = absurd m
has_root (e ∷ E) c d (inl q) = rw ((edge_ends q).0, (edge_ends q).1, merge_one, merge_other)
has_root (e ∷ E) c d (inr m) = rw (has_root E c d m)

pub joined_root : {E : List Edge} {c d : ℕ} → Joined E c d → root E c ≡ root E d
joined_root {E} j = joined_elim (root E) (has_root E) j

-- the greater of two joined is joined to the lesser
max_min : {E : List Edge} (a b : ℕ) → Joined E a b → Joined E (max a b) (min a b)
max_min a b j =
    ⊎_elim
    (λ h. then (same (omega arith)) (then (back j) (same (omega arith))))
    (λ h. then (same (omega arith)) (then j (same (omega arith))))
    (le_or_lt a b)

to_merge : {E : List Edge} (a b r : ℕ) → Joined E a b → Joined E r (merge a b r)
to_merge a b r j =
    ⊎_elim
    (λ w. then (same w.0) (then (max_min a b j) (same (sym w.1))))
    (λ w. same (sym w.1))
    (merge_cases a b r)

-- the root is joined
pub to_root : (E : List Edge) (c : ℕ) → Joined E c (root E c)
unfolding root
to_root [] c = same refl
to_root (e ∷ E) c =
    then
    (joined_tail e (to_root E c))
    (to_merge (root E e.one) (root E e.other) (root E c)
    (then (back (joined_tail e (to_root E e.one))) (then (over (inl refl)) (joined_tail e (to_root E e.other)))))

pub root_joined : (E : List Edge) (c d : ℕ) → root E c ≡ root E d → Joined E c d
root_joined E c d q = then (to_root E c) (then (same q) (back (to_root E d)))

-- it is its own root
pub root_root : (E : List Edge) (c : ℕ) → root E (root E c) ≡ root E c
root_root E c = sym (joined_root (to_root E c))

-- it is the least of its part
pub root_least : {E : List Edge} {c d : ℕ} → Joined E c d → root E c ≤ d
root_least {E} {c} {d} j = omega (arith, joined_root j, root_le E d)

-- edges that join the same vertices give the same roots
pub root_same : (E F : List Edge) → ((c d : ℕ) → Has E c d → Joined F c d) → ((c d : ℕ) → Has F c d → Joined E c d) → (c : ℕ) → root E c ≡ root F c
root_same E F f g c =
    let a : root F c ≤ root E c = root_least (joined_more f (to_root E c)) in
    let b : root E c ≤ root F c = root_least (joined_more g (to_root F c)) in
    omega arith

-- NUMBERS

pub begun_first : (E : List Edge) (n : ℕ) → root E n ≡ n → begun E (suc n) ≡ begun E n + 1
unfolding begun
begun_first E n q = rw (eq-eqb (root E n) n q)

pub begun_later : (E : List Edge) (n : ℕ) → root E n ≢ n → begun E (suc n) ≡ begun E n
unfolding begun
begun_later E n q = rw (ne_eqb (root E n) n q) (omega arith)

begun_step : (E : List Edge) (n : ℕ) → begun E n ≤ begun E (suc n)
unfolding begun
begun_step E n = omega arith

pub begun_le : (E : List Edge) (m n : ℕ) → m ≤ n → begun E m ≤ begun E n
begun_le E m zero h = let q : m ≡ 0 = omega arith in rw q (omega arith)
begun_le E m (suc n) h =
    ⊎_elim
    (λ l. omega (arith, begun_step E n, begun_le E m n l))
    (λ (l : n < m). let q : m ≡ suc n = omega arith in rw q (omega arith))
    (le_or_lt m n)

pub begun_lt : (E : List Edge) (m n : ℕ) → root E m ≡ m → m < n → begun E m < begun E n
begun_lt E m n q h = omega (arith, begun_first E m q, begun_le E (suc m) n h)

-- no more parts begin than there are vertices
pub begun_small : (E : List Edge) (n : ℕ) → begun E n ≤ n
begun_small E zero = unfold begun in omega arith
begun_small E (suc n) =
    ⊎_elim
    (λ q. omega (arith, begun_first E n q, begun_small E n))
    (λ q. omega (arith, begun_later E n q, begun_small E n))
    (eq_or_ne (root E n) n)

-- a first vertex begins its part
pub part_first : (E : List Edge) (c : ℕ) → root E c ≡ c → part E c ≡ begun E c
unfolding part
part_first E c q = ap (begun E) q

-- parts are numbered in the order of their first vertices
pub part_order : (E : List Edge) (c d : ℕ) → (part E c < part E d) ↔ (root E c < root E d)
unfolding part
part_order E c d = (
  λ l. ⊎_elim (λ k. omega (arith, begun_le E (root E d) (root E c) k)) (λ k. k) (le_or_lt (root E d) (root E c)),
  begun_lt E (root E c) (root E d) (root_root E c),
)

pub part_root : (E : List Edge) (c d : ℕ) → part E c ≡ part E d → root E c ≡ root E d
part_root E c d q =
    ⊎_elim
    (λ l. ⊎_elim (λ k. omega arith) (λ k. omega (arith, (part_order E c d).1 k)) (le_or_lt (root E d) (root E c)))
    (λ l. omega (arith, (part_order E d c).1 l))
    (le_or_lt (root E c) (root E d))

pub joined_part : {E : List Edge} {c d : ℕ} → Joined E c d → part E c ≡ part E d
unfolding part
joined_part {E} j = ap (begun E) (joined_root j)

pub part_joined : (E : List Edge) (c d : ℕ) → part E c ≡ part E d → Joined E c d
part_joined E c d q = root_joined E c d (part_root E c d q)

-- TWO VERTICES HAVE ONE PART EXACTLY WHEN THEY ARE JOINED
pub part_iff : (E : List Edge) (c d : ℕ) → (part E c ≡ part E d) ↔ Joined E c d
part_iff E c d = (part_joined E c d, joined_part)

pub part_lt : (E : List Edge) (n c : ℕ) → c < n → part E c < begun E n
unfolding part
part_lt E n c h = begun_lt E (root E c) n (root_root E c) (omega (arith, root_le E c))

-- NO NUMBER IS LEFT OUT: each below the count is the number of a part that begins there
pub part_used : (E : List Edge) (n k : ℕ) → k < begun E n → (c : ℕ) × (c < n) × (root E c ≡ c) × (part E c ≡ k)
part_used E zero k l = absurd (unfold begun in omega arith)
part_used E (suc n) k l =
    ⊎_elim
    (λ (q : root E n ≡ n).
    ⊎_elim
    (λ (h : begun E n ≤ k). (n, omega arith, q, part_first E n q ∙ omega (arith, begun_first E n q)))
    (λ (h : k < begun E n). let o = part_used E n k h in (o.0, omega (arith, o.1), o.2, o.3))
    (le_or_lt (begun E n) k))
    (λ (q : root E n ≢ n). let o = part_used E n k (omega (arith, begun_later E n q)) in (o.0, omega (arith, o.1), o.2, o.3))
    (eq_or_ne (root E n) n)
