-- The boards over given states rise, and so do those that are kept and taken of them. Assumes nothing.
use Prim.Native.Nat.{ℕ, zero, suc, ◌<◌}
use mathlib.Core.Path.{◌≡◌, refl}
use mathlib.Core.Logic.{inl, inr, ⊎_elim}
use mathlib.Core.Bool.{Bool, true, false}
use mathlib.Core.List.{List, [], ◌∷◌, ◌++◌}
use native.Mathlib.Omega.{arith}
use lib.ListN.{take, drop, take-append-drop}
use Rattle.lists.specs.Choice.{when}
use Rattle.lists.specs.Lists.{In, keep}
use Rattle.lists.proofs.ListLaws.{in_left, in_append, in_keep}
use Rattle.borders.specs.Border.{state_of}
use Rattle.enumerate.specs.Boards.{with_first, extensions}
use Rattle.enumerate.specs.AllAnswers.{Before, Rising}
use Rattle.enumerate.proofs.Extensions.{decided_first, in_first}

-- no board comes before itself
pub not_itself : (b : List ℕ) → Before b b → ⊥
not_itself b q = omega (arith, q.lower)

-- with one border more in front
later : (k : ℕ) (b c : List ℕ) → Before b c → Before (k ∷ b) (k ∷ c)
later k b c q = record { at = suc q.at; alike = alike; lower = q.lower }
  where
    alike : (e : ℕ) → e < suc q.at → state_of (k ∷ b) e ≡ state_of (k ∷ c) e
    alike zero l = refl
    alike (suc e) l = q.alike e (omega arith)

first_rising : (k : ℕ) (bs : List (List ℕ)) → Rising bs → Rising (with_first k bs)
first_rising k [] r = tt
first_rising k (b ∷ bs) r = ((λ c m. let o = in_first k bs c m in rw o.1 (later k b o.0 (r.0 o.0 o.2))), first_rising k bs r.1)

-- two lists, one behind the other
append_rising : (xs ys : List (List ℕ)) → Rising xs → Rising ys → ((x y : List ℕ) → In x xs → In y ys → Before x y) → Rising (xs ++ ys)
append_rising [] ys r q h = q
append_rising (x ∷ xs) ys r q h =
    ((λ c m. ⊎_elim (λ k. r.0 c k) (λ k. h x c (inl refl) k) (in_append c xs ys m)), append_rising xs ys r.1 q (λ a b m k. h a b (inr m) k))

pub front_before : (xs ys : List (List ℕ)) → Rising (xs ++ ys) → (x y : List ℕ) → In x xs → In y ys → Before x y
front_before (z ∷ xs) ys r x y (inl e) k = rw e (r.0 y (behind xs k))
  where
    behind : (zs : List (List ℕ)) → In y ys → In y (zs ++ ys)
    behind [] k = k
    behind (a ∷ zs) k = inr (behind zs k)
front_before (z ∷ xs) ys r x y (inr m) k = front_before xs ys r.1 x y m k
front_before [] ys r x y m k = absurd m

front_rising : (xs ys : List (List ℕ)) → Rising (xs ++ ys) → Rising xs
front_rising [] ys r = tt
front_rising (x ∷ xs) ys r = ((λ c m. r.0 c (in_left c xs ys m)), front_rising xs ys r.1)

-- ALL FULL BOARDS over given states
pub all_rising : (s : List ℕ) → Rising (extensions s)
all_rising [] = unfold extensions in ((λ c m. absurd m), tt)
all_rising (zero ∷ s) = go (all_rising s)
  where
    go : Rising (extensions s) → Rising (extensions (zero ∷ s))
    go r =
        unfold extensions in
        append_rising (with_first 1 (extensions s)) (with_first 2 (extensions s)) (first_rising 1 (extensions s) r) (first_rising 2 (extensions s) r)
        (λ x y m k.
        let o = in_first 1 (extensions s) x m in
        let u = in_first 2 (extensions s) y k in
        rw (o.1, u.1) (record { at = 0; alike = λ e l. absurd (omega arith); lower = omega arith }))
all_rising (suc k ∷ s) = rw (decided_first k s) (first_rising (suc k) (extensions s) (all_rising s))

pub keep_rising : (p : List ℕ → Bool) (bs : List (List ℕ)) → Rising bs → Rising (keep p bs)
keep_rising p [] r = unfold keep in tt
keep_rising p (b ∷ bs) r = go (p b) refl (keep_rising p bs r.1)
  where
    go : (t : Bool) → p b ≡ t → Rising (keep p bs) → Rising (keep p (b ∷ bs))
    go true q k = unfold keep when in rw q ((λ c m. r.0 c (in_keep p bs c m).0), k)
    go false q k = unfold keep when in rw q k

pub take_rising : (n : ℕ) (bs : List (List ℕ)) → Rising bs → Rising (take n bs)
take_rising n bs r = front_rising (take n bs) (drop n bs) (rw (take-append-drop n bs) r)
