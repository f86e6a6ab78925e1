-- Names and their marks: the borders of names, those of a list of strokes, and where the last stroke starts. Assumes nothing.
use Prim.Native.Nat.{ℕ, zero, suc, ◌+◌, ◌-◌, ◌%◌, ◌≤◌, ◌<◌}
use mathlib.Core.Path.{◌≡◌, refl, ap, sym, ◌∙◌}
use mathlib.Core.Logic.{inl, ◌≢◌}
use mathlib.Core.Bool.{Bool, true, false}
use mathlib.Core.List.{List, [], ◌∷◌, ◌++◌, map, append_assoc, append-nil}
use native.Mathlib.Omega.{arith}
use native.Mathlib.Nat.{add-zero}
use borrow.Author.Tests.{eq-eqb, ne_eqb}
use lib.Dec.{eqb}
use lib.ListN.{length, get_or, take, length-append}
use lib.Seq.{get_or-take, length-take-le}
use Rattle.lists.specs.Choice.{pick}
use Rattle.lists.specs.Lists.{In}
use Rattle.ledger.specs.Ledger.{Decision, whole, borders}
use Rattle.ledger.specs.Books.{half, starts, first_starts, name_of, names_from, names_of, start_of}
use Rattle.ledger.proofs.Standing.{borders_append}

-- STROKES PUT TOGETHER
pub whole_append : (L M : List (List Decision)) → whole (L ++ M) ≡ whole L ++ whole M
unfolding whole
whole_append [] M = refl
whole_append (s ∷ L) M = ap (λ m. s ++ m) (whole_append L M) ∙ sym (append_assoc s (whole L) (whole M))

pub whole_last : (L : List (List Decision)) (s : List Decision) → whole (L ++ (s ∷ [])) ≡ whole L ++ s
unfolding whole
whole_last L s = whole_append L (s ∷ []) ∙ ap (λ m. whole L ++ m) (append-nil s)

-- no stroke is empty
abbrev pub NoneEmpty : List (List Decision) → Type 0
NoneEmpty L = (s : List Decision) → In s L → 0 < length s

-- the names of all strokes, in order
unfoldable pub names_all : List (List Decision) → List ℕ
names_all [] = []
names_all (s ∷ L) = names_of s ++ names_all L

pub all_last : (L : List (List Decision)) (s : List Decision) → names_all (L ++ (s ∷ [])) ≡ names_all L ++ names_of s
unfolding names_all
all_last [] s = append-nil (names_of s)
all_last (x ∷ L) s = ap (λ m. names_of x ++ m) (all_last L s) ∙ sym (append_assoc (names_of x) (names_all L) (names_of s))

-- BORDERS AND MARKS
mark_le : (i : ℕ) → pick (eqb i 0) 1 0 ≤ 1
mark_le i = go (eqb i 0)
  where
    go : (t : Bool) → pick t 1 0 ≤ 1
    go true = omega arith
    go false = omega arith

pub half_name : (e i : ℕ) → half (name_of e i) ≡ e
half_name e i = omega (arith, mark_le i)

pub mark_name : (e i : ℕ) → name_of e i % 2 ≡ pick (eqb i 0) 1 0
mark_name e i = omega (arith, mark_le i)

-- a name by its entry
pub name_first : (x i : ℕ) → i ≡ 0 → x - x % 2 + 1 ≡ name_of (half x) i
name_first x i z = rw z (omega arith)

pub name_next : (x i : ℕ) → i ≢ 0 → x - x % 2 ≡ name_of (half x) i
name_next x i z = rw (ne_eqb i 0 z) (omega arith)

pub names_length : (i : ℕ) (ds : List Decision) → length (names_from i ds) ≡ length ds
unfolding names_from
names_length i [] = refl
names_length i (d ∷ ds) = ap suc (names_length (i + 1) ds)

pub names_half : (i : ℕ) (ds : List Decision) → map half (names_from i ds) ≡ borders ds
unfolding names_from
names_half i [] = refl
names_half i (d ∷ ds) = rw (half_name d.border i, names_half (i + 1) ds)

pub names_append : (i : ℕ) (a b : List Decision) → names_from i (a ++ b) ≡ names_from i a ++ names_from (i + length a) b
unfolding names_from
names_append i [] b = ap (λ x. names_from x b) (sym (add-zero i))
names_append i (d ∷ a) b =
    let e : i + 1 + length a ≡ i + suc (length a) = omega arith in
    ap (λ m. name_of d.border i ∷ m) (names_append (i + 1) a b ∙ ap (λ x. names_from (i + 1) a ++ names_from x b) e)

pub half_append : (a b : List ℕ) → map half (a ++ b) ≡ map half a ++ map half b
half_append [] b = refl
half_append (x ∷ a) b = ap (λ m. half x ∷ m) (half_append a b)

pub all_half : (L : List (List Decision)) → map half (names_all L) ≡ borders (whole L)
unfolding names_all whole
all_half [] = refl
all_half (s ∷ L) =
    half_append (names_of s) (names_all L)
    ∙ ap (λ m. m ++ map half (names_all L)) (names_half 0 s) ∙ ap (λ m. borders s ++ m) (all_half L) ∙ sym (borders_append s (whole L))

pub all_length : (L : List (List Decision)) → length (names_all L) ≡ length (whole L)
unfolding names_all whole
all_length [] = refl
all_length (s ∷ L) = omega (arith, length-append (names_of s) (names_all L), length-append s (whole L), names_length 0 s, all_length L)

-- a name starts a stroke where it is the first of it
pub mark_at : (i : ℕ) (ds : List Decision) (j : ℕ) → j < length ds → get_or (names_from i ds) j 0 % 2 ≡ pick (eqb (i + j) 0) 1 0
unfolding names_from
mark_at i [] j h = absurd (omega arith)
mark_at i (d ∷ ds) zero h = rw (add-zero i) (mark_name d.border i)
mark_at i (d ∷ ds) (suc j) h =
    let e : i + 1 + j ≡ i + suc j = omega arith in
    mark_at (i + 1) ds j (omega arith) ∙ ap (λ x. pick (eqb x 0) 1 0) e

-- the first name of strokes of which none is empty
pub first_mark : (L : List (List Decision)) → NoneEmpty L → 0 < length (whole L) → get_or (names_all L) 0 0 % 2 ≡ 1
unfolding names_all names_from whole
first_mark [] f h = absurd (omega arith)
first_mark ([] ∷ L) f h = absurd (let z : 0 < 0 = f [] (inl refl) in omega arith)
first_mark ((d ∷ s) ∷ L) f h = mark_name d.border 0

-- WHERE THE LAST STROKE STARTS
pub start_le : (l : List ℕ) (k : ℕ) → start_of l k ≤ k
unfolding start_of
start_le l zero = omega arith
start_le l (suc k) = go (starts l k) (start_le l k)
  where
    go : (t : Bool) → start_of l k ≤ k → pick t k (start_of l k) ≤ suc k
    go true h = omega arith
    go false h = omega arith

-- whether the first of the first len names starts a stroke
pub first_none : (l : List ℕ) (len : ℕ) → len ≡ 0 → eqb len 0 ≡ first_starts l len
first_none l len z = rw (eq-eqb len 0 z)

pub first_some : (l : List ℕ) (len : ℕ) → len ≢ 0 → starts (take len l) 0 ≡ first_starts l len
first_some l len z = rw (ne_eqb len 0 z, get_or-take len l 0 0 (omega (arith, z)))

-- names behind the first k tell nothing
start_within : (l : List ℕ) (len k : ℕ) → k ≤ len → start_of (take len l) k ≡ start_of l k
unfolding start_of
start_within l len zero h = refl
start_within l len (suc k) h = rw (get_or-take len l k 0 h, start_within l len k (omega arith))

pub start_front : (l : List ℕ) (len : ℕ) → len ≤ length l → start_of (take len l) (length (take len l)) ≡ start_of l len
start_front l len h = rw (length-take-le len l h) (start_within l len len (omega arith))

-- a stroke starts at a, and none behind it
start_at : (l : List ℕ) (a : ℕ) → starts l a ≡ true → (k : ℕ) → ((j : ℕ) → 1 ≤ j → j ≤ k → starts l (a + j) ≡ false) → start_of l (suc (a + k)) ≡ a
unfolding start_of
start_at l a q zero f = rw (add-zero a, q)
start_at l a q (suc k) f =
    let e : a + suc k ≡ suc (a + k) = omega arith in
    rw (f (suc k) (omega arith) (omega arith)) (ap (start_of l) e ∙ start_at l a q k (λ j g h. f j g (omega arith)))

-- behind the names xs stand those of one stroke
module _ (l xs : List ℕ) (s : List Decision) (some : 0 < length s) (len : ℕ) (front : take len l ≡ xs ++ names_of s) (size : len ≡ length xs + length s) where
  behind : (j : ℕ) → j < length s → get_or l (length xs + j) 0 ≡ get_or (names_of s) j 0
  behind j h =
      sym (get_or-take len l (length xs + j) 0 (omega arith)) ∙ ap (λ m. get_or m (length xs + j) 0) front ∙ over xs (names_of s) j
    where
      over : (a b : List ℕ) (j : ℕ) → get_or (a ++ b) (length a + j) 0 ≡ get_or b j 0
      over [] b j = let e : 0 + j ≡ j = omega arith in ap (λ i. get_or b i 0) e
      over (x ∷ a) b j = let e : suc (length a) + j ≡ suc (length a + j) = omega arith in ap (λ i. get_or (x ∷ (a ++ b)) i 0) e ∙ over a b j

  mark_behind : (j : ℕ) → j < length s → get_or l (length xs + j) 0 % 2 ≡ pick (eqb j 0) 1 0
  mark_behind j h = let e : 0 + j ≡ j = omega arith in ap (λ x. x % 2) (behind j h) ∙ mark_at 0 s j h ∙ ap (λ x. pick (eqb x 0) 1 0) e

  pub start_last : start_of l len ≡ length xs
  start_last =
      let a = length xs in
      let e : len ≡ suc (a + (length s - 1)) = omega arith in
      let first : starts l a ≡ true = eq-eqb (get_or l a 0 % 2) 1 (ap (λ i. get_or l i 0 % 2) (sym (add-zero a)) ∙ mark_behind 0 some) in
      rw e
      (start_at l a first (length s - 1)
      (λ j g h.
      let m : get_or l (a + j) 0 % 2 ≡ 0 = mark_behind j (omega arith) ∙ rw (ne_eqb j 0 (let z : j ≡ 0 → ⊥ = λ q. omega arith in z)) in
      rw m))
