-- Boards written one by one: two lists in turn are one list, places are enough for all, and in the end the first boards stand one behind the
-- other. Assumes nothing.
use Prim.Native.Nat.{ℕ, zero, suc, ◌+◌, ◌*◌, ◌≤◌, ◌<◌}
use mathlib.Core.Path.{◌≡◌, refl, ap, sym, ◌∙◌}
use mathlib.Core.Logic.{inl, inr, ⊎_elim}
use mathlib.Core.Bool.{Bool, true, false}
use mathlib.Core.List.{List, [], ◌∷◌, ◌++◌}
use native.Mathlib.Omega.{arith}
use native.Mathlib.Nat.{add-zero, suc-mul, mul-le-mul_right}
use native.Mathlib.Numerals.{add-one}
use borrow.Author.Tests.{lt-ltb, le-ltb}
use lib.Dec.{ltb}
use lib.ListN.{length, take, drop, set, get_or, drop_of_length-le}
use lib.Seq.{sets, length-sets, drop-cons}
use Rattle.lists.specs.Lists.{In, gather}
use Rattle.lists.proofs.Cases.{le_or_lt}
use Rattle.lists.proofs.SetsLaws.{sets_append}
use Rattle.enumerate.specs.Search.{Written, written, add, add_all, Fits}

-- a turn of the loop that writes a board, and its end
module _ (board boards : List ℕ) (at i : ℕ) where
  pub write_turn : i < length board → sets boards (at + i) (drop i board) ≡ sets (set boards (at + i) (get_or board i 0)) (at + (i + 1)) (drop (i + 1) board)
  write_turn h = let e : at + (i + 1) ≡ suc (at + i) = omega arith in rw (drop-cons board i 0 h, e, add-one)

  pub write_end : length board ≤ i → sets boards (at + i) (drop i board) ≡ boards
  write_end h = rw (drop_of_length-le board {i = i} h)

pub all_append : (w : Written) (a b : List (List ℕ)) → add_all w (a ++ b) ≡ add_all (add_all w a) b
unfolding add_all
all_append w [] b = refl
all_append w (x ∷ a) b = all_append (add w x) a b

module _ (w : Written) (b : List ℕ) where
  pub add_below : w.listing.count < w.cap
      → add w b ≡ written w.cap (record { count = w.listing.count + 1; more = w.listing.more }) (sets w.boards (w.listing.count * length b) b)
  unfolding add
  add_below h = rw (lt-ltb w.listing.count w.cap h)

  pub add_met : w.cap ≤ w.listing.count → add w b ≡ written w.cap (record { count = w.listing.count; more = true }) w.boards
  unfolding add
  add_met h = rw (le-ltb w.listing.count w.cap h)

-- a board's bytes behind count others have places
pub place : (n : ℕ) (w : Written) → Fits n w → w.listing.count < w.cap → w.listing.count * n + n ≤ length w.boards
place n w f h = go w.listing.count w.cap (length w.boards) h f.long
  where
    go : (k cap l : ℕ) → k < cap → cap * n ≤ l → k * n + n ≤ l
    go k cap l h f = omega (arith, suc-mul k n, mul-le-mul_right {m = suc k} {n = cap} n (omega arith))

fits_add : (n : ℕ) (w : Written) (b : List ℕ) → Fits n w → Fits n (add w b)
fits_add n w b f =
    ⊎_elim
    (λ (h : w.cap ≤ w.listing.count). rw (add_met w b h) (record { few = f.few; long = f.long; met = λ q. omega (arith, f.few) }))
    (λ (h : w.listing.count < w.cap).
    rw (add_below w b h)
    (record { few = omega arith; long = rw (length-sets w.boards (w.listing.count * length b) b) f.long; met = λ q. absurd (omega (arith, f.met q)) }))
    (le_or_lt w.cap w.listing.count)

pub fits_all : (n : ℕ) (w : Written) (bs : List (List ℕ)) → Fits n w → Fits n (add_all w bs)
unfolding add_all
fits_all n w [] f = f
fits_all n w (b ∷ bs) f = fits_all n (add w b) bs (fits_add n w b f)

-- once there is one more than the cap, nothing changes
pub no_more : (w : Written) (bs : List (List ℕ)) → w.cap ≤ w.listing.count → w.listing.more ≡ true → add_all w bs ≡ w
unfolding add_all
no_more w [] h q = refl
no_more w (b ∷ bs) h q = ap (λ x. add_all x bs) same ∙ no_more w bs h q
  where
    same : add w b ≡ w
    same = add_met w b h ∙ ap (λ m. written w.cap (record { count = w.listing.count; more = m }) w.boards) (sym q)

-- THE WHOLE: after k boards, with d more below the cap
abbrev ended : ℕ → ℕ → Bool → List ℕ → Written
ended cap count more boards = written cap (record { count = count; more = more }) boards

shift : (d l : ℕ) → ltb d l ≡ ltb (suc d) (suc l)
shift d l =
    ⊎_elim
    (λ (h : l ≤ d). le-ltb d l h ∙ sym (le-ltb (suc d) (suc l) (omega arith)))
    (λ (h : d < l). lt-ltb d l h ∙ sym (lt-ltb (suc d) (suc l) (omega arith)))
    (le_or_lt l d)

-- one board and then the others
one_then : (n cap d k l x : ℕ) (buf b rest : List ℕ) → length b ≡ n
    → ended cap (k + 1 + x) (ltb d l) (sets (sets buf (k * length b) b) ((k + 1) * n) rest) ≡ ended cap (k + suc x) (ltb (suc d) (suc l)) (sets buf (k * n) (b ++ rest))
one_then n cap d k l x buf b rest q =
    let e : k + 1 + x ≡ k + suc x = omega arith in
    let z : (k + 1) * n ≡ k * n + length b = rw (add-one k) (suc-mul k n) ∙ ap (λ m. k * n + m) (sym q) in
    rw (e, shift d l, z, sets_append b rest buf (k * n), q)

pub all_from : (n cap d k : ℕ) → cap ≡ k + d → (buf : List ℕ) (bs : List (List ℕ)) → ((b : List ℕ) → In b bs → length b ≡ n)
    → add_all (written cap (record { count = k; more = false }) buf) bs
    ≡ written cap (record { count = k + length (take d bs); more = ltb d (length bs) }) (sets buf (k * n) (gather (λ b. b) (take d bs)))
unfolding add_all gather
all_from n cap zero k q buf [] each = rw (add-zero k)
all_from n cap (suc d) k q buf [] each = rw (add-zero k, le-ltb (suc d) 0 (omega arith))
all_from n cap zero k q buf (b ∷ bs) each =
    let w : Written = ended cap k false buf in
    let w' : Written = ended cap k true buf in
    ap (λ x. add_all x bs) (add_met w b (omega arith)) ∙ no_more w' bs (omega arith) refl ∙ (rw (add-zero k, lt-ltb 0 (suc (length bs)) (omega arith)))
all_from n cap (suc d) k q buf (b ∷ bs) each =
    ap (λ x. add_all x bs) (add_below (ended cap k false buf) b (omega arith))
    ∙ all_from n cap d (k + 1) (omega arith) (sets buf (k * length b) b) bs (λ c m. each c (inr m))
    ∙ one_then n cap d k (length bs) (length (take d bs)) buf b (gather (λ c. c) (take d bs)) (each b (inl refl))
