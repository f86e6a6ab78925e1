-- The boards over given states: which they are, and how they come from the boards over the states with the first undecided border decided.
-- Assumes nothing.
use Prim.Native.Nat.{ℕ, zero, suc, ◌≤◌, ◌<◌}
use mathlib.Core.Path.{◌≡◌, refl, ap, ap₂, sym, ◌∙◌}
use mathlib.Core.Logic.{◌⊎◌, inl, inr, ⊎_elim, ◌≢◌}
use mathlib.Core.List.{List, [], ◌∷◌, ◌++◌, map-append}
use native.Mathlib.Omega.{arith}
use borrow.Author.Tests.{ne_eqb}
use lib.ListN.{length, get_or, set}
use Rattle.lists.specs.Lists.{In}
use Rattle.lists.proofs.ListLaws.{in_left, in_right, in_append}
use Rattle.enumerate.specs.Boards.{with_first, extensions}
use Rattle.enumerate.specs.Search.{first_undecided}

-- BY THE FIRST UNDECIDED BORDER
pub decided_first : (k : ℕ) (s : List ℕ) → extensions (suc k ∷ s) ≡ with_first (suc k) (extensions s)
unfolding extensions
decided_first k s = rw (ne_eqb (suc k) 0 (omega arith))

first_later : (k : ℕ) (s : List ℕ) → first_undecided (suc k ∷ s) ≡ suc (first_undecided s)
unfolding first_undecided
first_later k s = rw (ne_eqb (suc k) 0 (omega arith))

-- where nothing is undecided, the board itself
pub full_alone : (s : List ℕ) → first_undecided s ≡ length s → extensions s ≡ s ∷ []
full_alone [] q = unfold extensions in refl
full_alone (zero ∷ s) q = absurd (let z : ◌≡◌ {A = ℕ} 0 (suc (length s)) = (unfold first_undecided in q) in omega arith)
full_alone (suc k ∷ s) q = decided_first k s ∙ ap (with_first (suc k)) (full_alone s (omega (arith, first_later k s, q)))

-- else the boards with it Connected, and then those with it Wall
pub split_first : (s : List ℕ) → first_undecided s < length s
    → extensions s ≡ extensions (set s (first_undecided s) 1) ++ extensions (set s (first_undecided s) 2)
split_first [] h = absurd (omega arith)
split_first (zero ∷ s) h = unfold extensions first_undecided in refl
split_first (suc k ∷ s) h =
    let l : first_undecided s < length s = omega (arith, first_later k s) in
    rw (first_later k s)
    (decided_first k s ∙ ap (with_first (suc k)) (split_first s l) ∙ map-append (λ b. suc k ∷ b) (extensions (set s (first_undecided s) 1)) (extensions (set s (first_undecided s) 2))
    ∙ ap₂ (λ x y. x ++ y) (sym (decided_first k (set s (first_undecided s) 1))) (sym (decided_first k (set s (first_undecided s) 2))))

-- WHICH THEY ARE: a value for each undecided border, and the others as they stand
abbrev Value : ℕ → ℕ → Type 0
Value s b = ((s ≡ 0) × ((b ≡ 1) ⊎ (b ≡ 2))) ⊎ ((s ≢ 0) × (b ≡ s))

abbrev pub Over : List ℕ → List ℕ → Type 0
Over [] [] = Unit {0}
Over [] (b ∷ bs) = ⊥
Over (s ∷ ss) [] = ⊥
Over (s ∷ ss) (b ∷ bs) = Value s b × Over ss bs

pub in_first : (k : ℕ) (bs : List (List ℕ)) (b : List ℕ) → In b (with_first k bs) → (c : List ℕ) × (b ≡ k ∷ c) × In c bs
in_first k [] b m = absurd m
in_first k (c ∷ bs) b (inl e) = (c, e, inl refl)
in_first k (c ∷ bs) b (inr m) = let o = in_first k bs b m in (o.0, o.1, inr o.2)

first_in : (k : ℕ) (bs : List (List ℕ)) (c : List ℕ) → In c bs → In (k ∷ c) (with_first k bs)
first_in k (d ∷ bs) c (inl e) = inl (ap (λ x. k ∷ x) e)
first_in k (d ∷ bs) c (inr m) = inr (first_in k bs c m)
first_in k [] c m = absurd m

pub in_extensions : (s b : List ℕ) → In b (extensions s) → Over s b
in_extensions [] b m = go b (unfold extensions in m)
  where
    go : (b : List ℕ) → In b ([] ∷ []) → Over [] b
    go b (inl e) = rw e tt
    go b (inr m) = absurd m
in_extensions (zero ∷ s) b m =
    ⊎_elim
    (λ k. let o = in_first 1 (extensions s) b k in rw o.1 (inl (refl, inl refl), in_extensions s o.0 o.2))
    (λ k. let o = in_first 2 (extensions s) b k in rw o.1 (inl (refl, inr refl), in_extensions s o.0 o.2))
    (in_append b (with_first 1 (extensions s)) (with_first 2 (extensions s)) (unfold extensions in m))
in_extensions (suc k ∷ s) b m =
    let o = in_first (suc k) (extensions s) b (rw (decided_first k s) at m) in
    rw o.1 (inr ((λ q. omega arith), refl), in_extensions s o.0 o.2)

pub extension_in : (s b : List ℕ) → Over s b → In b (extensions s)
extension_in [] [] o = unfold extensions in inl refl
extension_in [] (x ∷ b) o = absurd o
extension_in (x ∷ s) [] o = absurd o
extension_in (zero ∷ s) (x ∷ b) o = ⊎_elim (λ v. ⊎_elim (λ q. connected q (extension_in s b o.1)) (λ q. wall q (extension_in s b o.1)) v.1) (λ v. absurd (v.0 refl)) o.0
  where
    connected : x ≡ 1 → In b (extensions s) → In (x ∷ b) (extensions (zero ∷ s))
    connected q m = unfold extensions in rw q (in_left (1 ∷ b) (with_first 1 (extensions s)) (with_first 2 (extensions s)) (first_in 1 (extensions s) b m))

    wall : x ≡ 2 → In b (extensions s) → In (x ∷ b) (extensions (zero ∷ s))
    wall q m = unfold extensions in rw q (in_right (2 ∷ b) (with_first 1 (extensions s)) (with_first 2 (extensions s)) (first_in 2 (extensions s) b m))
extension_in (suc k ∷ s) (x ∷ b) o =
    ⊎_elim
    (λ v. absurd (omega (arith, v.0)))
    (λ v. decided v.1 (extension_in s b o.1))
    o.0
  where
    decided : x ≡ suc k → In b (extensions s) → In (x ∷ b) (extensions (suc k ∷ s))
    decided q m = rw (decided_first k s, q) (first_in (suc k) (extensions s) b m)

-- place by place
pub over_long : (s b : List ℕ) → Over s b → length b ≡ length s
over_long [] [] o = refl
over_long [] (x ∷ b) o = absurd o
over_long (x ∷ s) [] o = absurd o
over_long (x ∷ s) (y ∷ b) o = ap suc (over_long s b o.1)

pub over_stands : (s b : List ℕ) → Over s b → (e : ℕ) → get_or s e 0 ≢ 0 → get_or b e 0 ≡ get_or s e 0
over_stands [] [] o e z = refl
over_stands [] (x ∷ b) o e z = absurd o
over_stands (x ∷ s) [] o e z = absurd o
over_stands (x ∷ s) (y ∷ b) o zero z = ⊎_elim (λ v. absurd (z v.0)) (λ v. v.1) o.0
over_stands (x ∷ s) (y ∷ b) o (suc e) z = over_stands s b o.1 e z

pub over_full : (s b : List ℕ) → Over s b → (e : ℕ) → e < length s → get_or s e 0 ≤ 2 → (get_or b e 0 ≡ 1) ⊎ (get_or b e 0 ≡ 2)
over_full [] b o e h l = absurd (omega arith)
over_full (x ∷ s) [] o e h l = absurd o
over_full (x ∷ s) (y ∷ b) o zero h l = ⊎_elim (λ v. v.1) (λ v. rw v.1 (go x v.0 l)) o.0
  where
    go : (x : ℕ) → x ≢ 0 → x ≤ 2 → (x ≡ 1) ⊎ (x ≡ 2)
    go zero z l = absurd (z refl)
    go (suc zero) z l = inl refl
    go (suc (suc zero)) z l = inr refl
    go (suc (suc (suc k))) z l = absurd (omega arith)
over_full (x ∷ s) (y ∷ b) o (suc e) h l = over_full s b o.1 e (omega arith) l

pub is_over : (s b : List ℕ) → length b ≡ length s → ((e : ℕ) → e < length s → (get_or b e 0 ≡ 1) ⊎ (get_or b e 0 ≡ 2))
    → ((e : ℕ) → e < length s → get_or s e 0 ≢ 0 → get_or b e 0 ≡ get_or s e 0) → Over s b
is_over [] [] q full stands = tt
is_over [] (y ∷ b) q full stands = absurd (omega arith)
is_over (x ∷ s) [] q full stands = absurd (omega arith)
is_over (x ∷ s) (y ∷ b) q full stands = (value x (full 0 (omega arith)) (stands 0 (omega arith)), is_over s b (omega arith) (λ e h. full (suc e) (omega arith)) (λ e h. stands (suc e) (omega arith)))
  where
    value : (x : ℕ) → (y ≡ 1) ⊎ (y ≡ 2) → (x ≢ 0 → y ≡ x) → Value x y
    value zero f q = inl (refl, f)
    value (suc k) f q = inr ((λ z. omega arith), q (λ z. omega arith))
