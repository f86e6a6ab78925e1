-- Arrays of zeros; states that a stroke sets or an undo clears, border by border; names that are written behind the others and freed again. Assumes nothing.
use Prim.Native.Nat.{ℕ, ◌+◌, ◌-◌, ◌≤◌, ◌<◌}
use mathlib.Core.Path.{◌≡◌, refl, ap, sym, ◌∙◌, fun_ext}
use mathlib.Core.Logic.{inl, inr, ◌≢◌, ⊎_elim}
use mathlib.Core.Bool.{Bool}
use mathlib.Core.List.{List, [], ◌∷◌, ◌++◌}
use native.Mathlib.Omega.{arith}
use borrow.Author.Tests.{eq-eqb, ne_eqb}
use lib.Dec.{eqb}
use lib.ListN.{length, get_or, set, take, drop, replicate, length-set, length-replicate, length-append, get_or-replicate}
use lib.Seq.{sets, length-sets, sets-eq, get_or-set_same, get_or-set_other, ext_get_or, length-take-le, take_at, take-append-le}
use Rattle.limits.specs.Limits.{most_borders}
use Rattle.lists.specs.Lists.{count}
use Rattle.lists.proofs.Cases.{le_or_lt, eq_or_ne}
use Rattle.lists.proofs.CountLaws.{count_here, count_other}
use Rattle.lists.proofs.ListLaws.{zeros_at}
use Rattle.lists.proofs.SetsLaws.{sets_out, sets_in}
use Rattle.ledger.specs.Ledger.{Decision, state_for, state_in, borders}
use Rattle.ledger.specs.declared.Book.{Book}
use Rattle.ledger.specs.Books.{zeros, none_given, book_holds, state_all, clear_all}
use Rattle.ledger.specs.Marks.{given_in}
use Rattle.ledger.specs.Moves.{GivenMarks}

pub zero_at : (e : ℕ) → get_or zeros e 0 ≡ 0
unfolding zeros
zero_at e = zeros_at most_borders e

pub zeros_length : length zeros ≡ most_borders
unfolding zeros
zeros_length = length-replicate {A = ℕ} most_borders 0

-- marks of zeros are those of no given wall
none_given_lem : given_in zeros ≡ none_given
none_given_lem = fun_ext (λ e. ap (λ x. eqb x 1) (zero_at e))

pub by_marks : (n : ℕ) (b : Book) (t : Bool) → t ≡ book_holds n (given_in zeros) b → book_holds n none_given b ≡ t
by_marks n b t k = sym (k ∙ rw none_given_lem)

pub no_marks : (n : ℕ) → n ≤ most_borders → GivenMarks n zeros
no_marks n h = record { marks_long = omega (arith, zeros_length); marks_given = λ e. omega (arith, zero_at e); few = h }

-- a border that is not named, or named, in front
head_not : (x e : ℕ) (l : List ℕ) → count e (x ∷ l) ≡ 0 → (e ≢ x) × (count e l ≡ 0)
head_not x e l z =
    ⊎_elim
    (λ (q : x ≡ e). absurd (omega (arith, count_here e l, ap (λ y. count e (y ∷ l)) (sym q), z)))
    (λ (q : x ≢ e). (λ p. q (sym p), sym (count_other e x l q) ∙ z))
    (eq_or_ne x e)

pub states_length : (ds : List Decision) (s : List ℕ) → length (state_all s ds) ≡ length s
unfolding state_all
states_length [] s = refl
states_length (d ∷ ds) s = states_length ds (set s d.border (state_for d.wall)) ∙ simp length-set

pub states_other : (ds : List Decision) (s : List ℕ) (e : ℕ) → count e (borders ds) ≡ 0 → get_or (state_all s ds) e 0 ≡ get_or s e 0
unfolding state_all
states_other [] s e z = refl
states_other (d ∷ ds) s e z =
    let k = head_not d.border e (borders ds) z in
    states_other ds (set s d.border (state_for d.wall)) e k.1 ∙ get_or-set_other s d.border e (state_for d.wall) 0 k.0

pub states_named : (ds : List Decision) (s : List ℕ) (e : ℕ) → e < length s → count e (borders ds) ≡ 1 → get_or (state_all s ds) e 0 ≡ state_in ds e
unfolding state_all state_in count
states_named [] s e h c = absurd (omega arith)
states_named (d ∷ ds) s e h c =
    let v = state_for d.wall in
    ⊎_elim
    (λ (q : d.border ≡ e).
    let t = eq-eqb d.border e q in
    let none : count e (borders ds) ≡ 0 = omega (arith, (rw t at c)) in
    rw t (states_other ds (set s d.border v) e none ∙ (rw q (get_or-set_same s e v 0 h))))
    (λ (q : d.border ≢ e).
    let t = ne_eqb d.border e q in
    let one : count e (borders ds) ≡ 1 = omega (arith, (rw t at c)) in
    rw t (states_named ds (set s d.border v) e (simp length-set h) one))
    (eq_or_ne d.border e)

pub clear_length : (l s : List ℕ) → length (clear_all s l) ≡ length s
unfolding clear_all
clear_length [] s = refl
clear_length (x ∷ l) s = clear_length l (set s x 0) ∙ simp length-set

pub clear_other : (l s : List ℕ) (e : ℕ) → count e l ≡ 0 → get_or (clear_all s l) e 0 ≡ get_or s e 0
unfolding clear_all
clear_other [] s e z = refl
clear_other (x ∷ l) s e z = let k = head_not x e l z in clear_other l (set s x 0) e k.1 ∙ get_or-set_other s x e 0 0 k.0

clear_stays : (l s : List ℕ) (e : ℕ) → e < length s → get_or s e 0 ≡ 0 → get_or (clear_all s l) e 0 ≡ 0
unfolding clear_all
clear_stays [] s e h z = z
clear_stays (x ∷ l) s e h z =
    clear_stays l (set s x 0) e (simp length-set h)
    (⊎_elim (λ (q : e ≡ x). rw q (get_or-set_same s x 0 0 (rw q at h))) (λ (q : e ≢ x). get_or-set_other s x e 0 0 q ∙ z) (eq_or_ne e x))

pub clear_named : (l s : List ℕ) (e : ℕ) → e < length s → 1 ≤ count e l → get_or (clear_all s l) e 0 ≡ 0
unfolding clear_all count
clear_named [] s e h c = absurd (omega arith)
clear_named (x ∷ l) s e h c =
    ⊎_elim
    (λ (q : x ≡ e). clear_stays l (set s x 0) e (simp length-set h) (rw q (get_or-set_same s e 0 0 h)))
    (λ (q : x ≢ e). clear_named l (set s x 0) e (simp length-set h) (omega (arith, (rw (ne_eqb x e q) at c))))
    (eq_or_ne x e)

-- a stroke on undecided borders, and its borders cleared
pub clear_states : (ds : List Decision) (s : List ℕ) → ((e : ℕ) → count e (borders ds) ≤ 1) → ((e : ℕ) → 1 ≤ count e (borders ds) → get_or s e 0 ≡ 0)
    → clear_all (state_all s ds) (borders ds) ≡ s
clear_states ds s once free =
    let t = state_all s ds in
    let size = states_length ds s in
    ext_get_or 0 (clear_all t (borders ds)) s (clear_length (borders ds) t ∙ size)
    (λ e h.
    let i : e < length t = rw (clear_length (borders ds) t) at h in
    ⊎_elim
    (λ (c : 1 ≤ count e (borders ds)). clear_named (borders ds) t e i c ∙ sym (free e c))
    (λ (c : count e (borders ds) < 1). let z : count e (borders ds) ≡ 0 = omega arith in clear_other (borders ds) t e z ∙ states_other ds s e z)
    (le_or_lt 1 (count e (borders ds))))

-- names written at the end of the first len
module _ (l : List ℕ) (len : ℕ) (bs : List ℕ) (room : len + length bs ≤ length l) where
  front_names : sets l len bs ≡ (take len l ++ bs) ++ drop (len + length bs) l
  front_names = sets-eq bs l len room

  pub names_behind : take (len + length bs) (sets l len bs) ≡ take len l ++ bs
  names_behind =
      ap (take (len + length bs)) front_names
      ∙ take_at (take len l ++ bs) (drop (len + length bs) l) (len + length bs) (length-append (take len l) bs ∙ ap (λ x. x + length bs) (length-take-le len l (omega arith)))

  -- and freed again
  pub names_freed : ((i : ℕ) → len ≤ i → get_or l i 0 ≡ 0) → (k : ℕ) → k ≡ length bs → sets (sets l len bs) len (replicate k 0) ≡ l
  names_freed free k q =
      let t = sets l len bs in
      let z = replicate {A = ℕ} k 0 in
      let zl : length z ≡ length bs = length-replicate {A = ℕ} k 0 ∙ q in
      let tl : length t ≡ length l = length-sets l len bs in
      ext_get_or 0 (sets t len z) l (length-sets t len z ∙ tl)
      (λ i h.
      ⊎_elim
      (λ (a : len + length bs ≤ i). sets_out z t len i (inr (omega (arith, zl))) ∙ sets_out bs l len i (inr a))
      (λ (a : i < len + length bs).
      ⊎_elim
      (λ (c : len ≤ i).
      let j = i - len in
      let e : len + j ≡ i = omega arith in
      ap (λ x. get_or (sets t len z) x 0) (sym e) ∙ sets_in z t len j (omega (arith, zl, tl)) (omega (arith, zl)) ∙ get_or-replicate k j 0 0 (omega (arith, q)) ∙ sym (free i c))
      (λ (c : i < len). sets_out z t len i (inl c) ∙ sets_out bs l len i (inl c))
      (le_or_lt len i))
      (le_or_lt (len + length bs) i))

-- the places from `from` on are freed: what is before stays, what is behind is 0
pub freed_front : (l : List ℕ) (from len : ℕ) → from ≤ len → len ≤ length l → take from (sets l from (replicate (len - from) 0)) ≡ take from l
freed_front l from len a b =
    let z = replicate {A = ℕ} (len - from) 0 in
    let zl : length z ≡ len - from = length-replicate {A = ℕ} (len - from) 0 in
    let t : length (take from l) ≡ from = length-take-le from l (omega arith) in
    ap (take from) (sets-eq z l from (omega (arith, zl)))
    ∙ take-append-le from (take from l ++ z) (drop (from + length z) l) (let k : from ≤ length (take from l ++ z) = omega (arith, length-append (take from l) z, t) in k)
    ∙ take_at (take from l) z from t

pub freed_rest : (l : List ℕ) (from len : ℕ) → from ≤ len → len ≤ length l → ((i : ℕ) → len ≤ i → get_or l i 0 ≡ 0) → (i : ℕ) → from ≤ i → get_or (sets l from (replicate (len - from) 0)) i 0 ≡ 0
freed_rest l from len a b free i h =
    let z = replicate {A = ℕ} (len - from) 0 in
    let zl : length z ≡ len - from = length-replicate {A = ℕ} (len - from) 0 in
    ⊎_elim
    (λ (c : len ≤ i). sets_out z l from i (inr (omega (arith, zl))) ∙ free i c)
    (λ (c : i < len).
    let j = i - from in
    let e : from + j ≡ i = omega arith in
    ap (λ x. get_or (sets l from z) x 0) (sym e) ∙ sets_in z l from j (omega (arith, zl)) (omega (arith, zl)) ∙ get_or-replicate (len - from) j 0 0 (omega arith))
    (le_or_lt len i)
