-- The test by marks is question 2: names that are new one by one are exactly those that the ledger names once. Assumes nothing.
use Prim.Native.Nat.{ℕ, zero, suc, ◌+◌, ◌-◌, ◌≤◌, ◌<◌}
use mathlib.Core.Path.{◌≡◌, refl, ap, sym, ◌∙◌}
use mathlib.Core.Logic.{◌⊎◌, inl, inr, ◌≢◌, ⊎_elim}
use mathlib.Core.Bool.{Bool, true, false, true≢false}
use mathlib.Core.List.{List, [], ◌∷◌, map}
use native.Mathlib.Omega.{arith}
use borrow.Author.Tests.{eqb-true, eq-eqb, ne_eqb, leb-false, lt-leb}
use lib.Dec.{eqb, leb}
use lib.ListN.{length, get_or, set, take, drop, length-set, length-drop}
use lib.Seq.{get_or-set_same, get_or-set_other, take-length}
use Rattle.lists.specs.Choice.{both, pick}
use Rattle.lists.specs.Lists.{range, In, count, all}
use Rattle.lists.proofs.Cases.{eq_or_ne, le_or_lt}
use Rattle.lists.proofs.ChoiceLaws.{both_true, true_both, either_true, left_either, right_either, same_truth}
use Rattle.lists.proofs.ListLaws.{all_true, range_in}
use Rattle.lists.proofs.CountLaws.{count_none, count_here, count_other, in_count, count_in}
use Rattle.ledger.specs.Ledger.{holds_of}
use Rattle.ledger.specs.Books.{half}
use Rattle.ledger.proofs.Question.{Kept, Question, over, holds_question, question_holds}
use Rattle.ledger.specs.Marks.{given_in, fits_of, new_names, mark_all, fit_all, Marked}

-- the names are borders without a mark, each once
pub record New (n : ℕ) (m l : List ℕ) : Type 0 where
  pub inside : (e : ℕ) → In e l → e < n
  pub unmarked : (e : ℕ) → In e l → get_or m e 0 ≡ 0
  pub once : (e : ℕ) → count e l ≤ 1

new_head : (n x : ℕ) (m l : List ℕ) → new_names n m (x ∷ l) ≡ true → (x < n) × (get_or m x 0 ≡ 0) × (new_names n (set m x 2) l ≡ true)
unfolding new_names
new_head n x m l = go (leb n x) (eqb (get_or m x 0) 0) refl refl
  where
    go : (a b : Bool) → leb n x ≡ a → eqb (get_or m x 0) 0 ≡ b → pick a false (pick b (new_names n (set m x 2) l) false) ≡ true
        → (x < n) × (get_or m x 0 ≡ 0) × (new_names n (set m x 2) l ≡ true)
    go true b p q k = absurd (true≢false (sym k))
    go false true p q k = (leb-false n x p, eqb-true _ _ q, k)
    go false false p q k = absurd (true≢false (sym k))

head_new : (n x : ℕ) (m l : List ℕ) → x < n → get_or m x 0 ≡ 0 → new_names n (set m x 2) l ≡ true → new_names n m (x ∷ l) ≡ true
unfolding new_names
head_new n x m l p q k = rw (lt-leb n x p, eq-eqb (get_or m x 0) 0 q) k

set_marked : (m : List ℕ) (x e : ℕ) → x < length m → get_or (set m x 2) e 0 ≡ 0 → e ≢ x
set_marked m x e h q p = let z : ◌≡◌ {A = ℕ} 2 0 = sym (get_or-set_same m x 2 0 h) ∙ ap (λ i. get_or (set m x 2) i 0) (sym p) ∙ q in omega arith

-- a count in a list of one more
count_cons : (x e : ℕ) (l : List ℕ) → ((e ≡ x) × (count e (x ∷ l) ≡ count e l + 1)) ⊎ ((e ≢ x) × (count e (x ∷ l) ≡ count e l))
count_cons x e l =
    ⊎_elim
    (λ (p : e ≡ x). inl (p, ap (λ y. count e (y ∷ l)) (sym p) ∙ count_here e l))
    (λ (p : e ≢ x). inr (p, count_other e x l (λ q. p (sym q))))
    (eq_or_ne e x)

pub new_names_lem : (n : ℕ) (m l : List ℕ) → n ≤ length m → new_names n m l ≡ true → New n m l
new_names_lem n m [] long q = record { inside = λ e i. absurd i; unmarked = λ e i. absurd i; once = λ e. omega (arith, count_none e) }
new_names_lem n m (x ∷ l) long q =
    let k = new_head n x m l q in
    let f : New n (set m x 2) l = new_names_lem n (set m x 2) l (simp length-set long) k.2 in
    let b : x < length m = omega (arith, k.0) in
    let other : (e : ℕ) → In e l → e ≢ x = λ e i. set_marked m x e b (f.unmarked e i) in
    record {
      inside = λ e. ⊎_elim (λ (p : e ≡ x). rw p k.0) (λ i. f.inside e i);
      unmarked = λ e. ⊎_elim (λ (p : e ≡ x). rw p k.1) (λ i. sym (get_or-set_other m x e 2 0 (other e i)) ∙ f.unmarked e i);
      once = λ e.
          ⊎_elim
          (λ c. ⊎_elim (λ (h : 1 ≤ count e l). absurd (other e (count_in e l h) c.0)) (λ (h : count e l < 1). omega (arith, c.1)) (le_or_lt 1 (count e l)))
          (λ c. omega (arith, c.1, f.once e))
          (count_cons x e l);
    }

pub names_new : (n : ℕ) (m l : List ℕ) → n ≤ length m → New n m l → new_names n m l ≡ true
unfolding new_names
names_new n m [] long f = refl
names_new n m (x ∷ l) long f =
    let b : x < n = f.inside x (inl refl) in
    let other : (e : ℕ) → In e l → e ≢ x = λ e i p. omega (arith, in_count e l i, f.once e, ap (λ y. count e (y ∷ l)) (sym p) ∙ count_here e l) in
    head_new n x m l b (f.unmarked x (inl refl))
    (names_new n (set m x 2) l (simp length-set long)
    record {
      inside = λ e i. f.inside e (inr i);
      unmarked = λ e i. get_or-set_other m x e 2 0 (other e i) ∙ f.unmarked e (inr i);
      once = λ e. ⊎_elim (λ c. omega (arith, c.1, f.once e)) (λ c. omega (arith, c.1, f.once e)) (count_cons x e l);
    })

-- marks after the walk
mark_stays : (m l : List ℕ) (e : ℕ) → get_or m e 0 ≡ 2 → e < length m → get_or (mark_all m l) e 0 ≡ 2
unfolding mark_all
mark_stays m [] e q h = q
mark_stays m (x ∷ l) e q h =
    mark_stays (set m x 2) l e
    (⊎_elim (λ (p : e ≡ x). rw p (get_or-set_same m x 2 0 (rw p at h))) (λ (p : e ≢ x). get_or-set_other m x e 2 0 p ∙ q) (eq_or_ne e x))
    (simp length-set h)

pub marked_named : (m l : List ℕ) (e : ℕ) → e < length m → In e l → get_or (mark_all m l) e 0 ≡ 2
unfolding mark_all
marked_named m [] e h i = absurd i
marked_named m (x ∷ l) e h (inl p) = mark_stays (set m x 2) l e (rw p (get_or-set_same m x 2 0 (rw p at h))) (simp length-set h)
marked_named m (x ∷ l) e h (inr i) = marked_named (set m x 2) l e (simp length-set h) i

pub marked_other : (m l : List ℕ) (e : ℕ) → count e l ≡ 0 → get_or (mark_all m l) e 0 ≡ get_or m e 0
unfolding mark_all
marked_other m [] e z = refl
marked_other m (x ∷ l) e z =
    ⊎_elim
    (λ c. absurd (omega (arith, c.1)))
    (λ c. marked_other (set m x 2) l e (omega (arith, c.1)) ∙ get_or-set_other m x e 2 0 c.0)
    (count_cons x e l)

named_facts : (s : ℕ) → fits_of s 2 ≡ true → (s ≢ 0) × (s ≤ 2)
named_facts s q =
    ⊎_elim
    (λ k. let p = eqb-true s 1 k in omega arith)
    (λ k. let p = eqb-true s 2 k in omega arith)
    (either_true (eqb s 1) (eqb s 2) q)

facts_named : (s : ℕ) → s ≢ 0 → s ≤ 2 → fits_of s 2 ≡ true
facts_named s p q =
    ⊎_elim
    (λ (h : s ≤ 1). left_either (eqb s 1) (eqb s 2) (eq-eqb s 1 (omega arith)))
    (λ (h : 1 < s). right_either (eqb s 1) (eqb s 2) (eq-eqb s 2 (omega arith)))
    (le_or_lt s 1)

module _ (n : ℕ) (s m l : List ℕ) (long : n ≤ length m) (given : (e : ℕ) → get_or m e 0 ≤ 1) where
  unmarked_or_given : (e : ℕ) → (get_or m e 0 ≡ 0) ⊎ (get_or m e 0 ≡ 1)
  unmarked_or_given e = ⊎_elim (λ (h : get_or m e 0 ≤ 0). inl (omega arith)) (λ (h : 0 < get_or m e 0). inr (omega (arith, given e))) (le_or_lt (get_or m e 0) 0)

  -- the three cases of a border: undecided, given, named
  data Case (e : ℕ) : Type 0 where
    undecided : get_or m e 0 ≡ 0 → count e l ≡ 0 → get_or s e 0 ≡ 0 → Case e
    a_given : get_or m e 0 ≡ 1 → count e l ≡ 0 → get_or s e 0 ≡ 2 → Case e
    a_named : get_or m e 0 ≡ 0 → count e l ≡ 1 → get_or s e 0 ≢ 0 → get_or s e 0 ≤ 2 → Case e

  kept_case : (e : ℕ) → Kept (given_in m) s l e → Case e
  kept_case e k =
      ⊎_elim
      (λ (z : get_or m e 0 ≡ 0).
      ⊎_elim
      (λ (q : get_or s e 0 ≡ 0). undecided z (k.counted ∙ rw (z, q)) q)
      (λ (q : get_or s e 0 ≢ 0). a_named z (k.counted ∙ rw (z, ne_eqb (get_or s e 0) 0 q)) q k.state)
      (eq_or_ne (get_or s e 0) 0))
      (λ (z : get_or m e 0 ≡ 1). a_given z (k.counted ∙ rw z) (eqb-true (get_or s e 0) 2 (rw z at k.wall)))
      (unmarked_or_given e)

  case_kept : (e : ℕ) → Case e → Kept (given_in m) s l e
  case_kept e (undecided z c q) = record { state = omega arith; counted = c ∙ rw (z, q); wall = rw z }
  case_kept e (a_given z c q) = record { state = omega arith; counted = c ∙ rw z; wall = rw (z, q) }
  case_kept e (a_named z c q b) = record { state = b; counted = c ∙ rw (z, ne_eqb (get_or s e 0) 0 q); wall = rw z }

  case_fits : (e : ℕ) → e < n → Case e → fits_of (get_or s e 0) (get_or (mark_all m l) e 0) ≡ true
  case_fits e h (undecided z c q) = rw (marked_other m l e c, z, q)
  case_fits e h (a_given z c q) = rw (marked_other m l e c, z, q)
  case_fits e h (a_named z c q b) =
      rw (marked_named m l e (let k : e < length m = omega (arith, long) in k) (count_in e l (omega arith))) (facts_named (get_or s e 0) q b)

  fits_case : (e : ℕ) → e < n → New n m l → fits_of (get_or s e 0) (get_or (mark_all m l) e 0) ≡ true → Case e
  fits_case e h f q =
      ⊎_elim
      (λ (c : 1 ≤ count e l).
      let i = count_in e l c in
      let k = named_facts (get_or s e 0) (rw (marked_named m l e (let b : e < length m = omega (arith, long) in b) i) at q) in
      a_named (f.unmarked e i) (omega (arith, f.once e)) k.0 k.1)
      (λ (c : count e l < 1).
      let none : count e l ≡ 0 = omega arith in
      ⊎_elim
      (λ (z : get_or m e 0 ≡ 0). undecided z none (eqb-true (get_or s e 0) 0 (rw (marked_other m l e none, z) at q)))
      (λ (z : get_or m e 0 ≡ 1). a_given z none (eqb-true (get_or s e 0) 2 (rw (marked_other m l e none, z) at q)))
      (unmarked_or_given e))
      (le_or_lt 1 (count e l))

  case_new : (e : ℕ) → Case e → (1 ≤ count e l → get_or m e 0 ≡ 0) × (count e l ≤ 1)
  case_new e (undecided z c q) = (λ h. z, omega arith)
  case_new e (a_given z c q) = (λ h. absurd (omega arith), omega arith)
  case_new e (a_named z c q b) = (λ h. z, omega arith)

  question_new : Question n (given_in m) s l → New n m l
  question_new q =
      record {
        inside = q.inside;
        unmarked = λ e i. (case_new e (kept_case e (q.kept e (q.inside e i)))).0 (in_count e l i);
        once = λ e.
            ⊎_elim
            (λ (h : n ≤ e).
            ⊎_elim (λ (c : 1 ≤ count e l). absurd (omega (arith, q.inside e (count_in e l c)))) (λ (c : count e l < 1). omega arith) (le_or_lt 1 (count e l)))
            (λ (h : e < n). (case_new e (kept_case e (q.kept e h))).1)
            (le_or_lt n e);
      }

  pub holds_by_marks : holds_of n (given_in m) s l ≡ both (new_names n m l) (fit_all n s (mark_all m l))
  unfolding fit_all
  holds_by_marks =
      let fit : ℕ → Bool = λ e. fits_of (get_or s e 0) (get_or (mark_all m l) e 0) in
      same_truth (holds_of n (given_in m) s l) (both (new_names n m l) (all fit (range n)))
      (λ q.
      let k = holds_question n (given_in m) s l q in
      true_both (new_names n m l) (all fit (range n)) (names_new n m l long (question_new k)) (over n fit (λ e h. case_fits e h (kept_case e (k.kept e h)))))
      (λ q.
      let k = both_true (new_names n m l) (all fit (range n)) q in
      let f = new_names_lem n m l long k.0 in
      question_holds n (given_in m) s l (record { inside = f.inside; kept = λ e h. case_kept e (fits_case e h f (all_true fit (range n) k.1 e (range_in n e h))) }))

-- A LIST IN TWO PARTS, one marked after the other
pub all_front : (p : ℕ → Bool) (k : ℕ) (l : List ℕ) → all p l ≡ true → all p (take k l) ≡ true
unfolding all
all_front p zero [] h = refl
all_front p zero (x ∷ l) h = refl
all_front p (suc k) [] h = refl
all_front p (suc k) (x ∷ l) h = let q = both_true (p x) (all p l) h in true_both (p x) (all p (take k l)) q.0 (all_front p k l q.1)

all_behind : (p : ℕ → Bool) (k : ℕ) (l : List ℕ) → all p l ≡ true → all p (drop k l) ≡ true
unfolding all
all_behind p zero [] h = refl
all_behind p zero (x ∷ l) h = h
all_behind p (suc k) [] h = refl
all_behind p (suc k) (x ∷ l) h = all_behind p k l (both_true (p x) (all p l) h).1

-- what is behind the front, as a slice has it
rest_is : (k : ℕ) (l : List ℕ) → take (length l - k) (drop k l) ≡ drop k l
rest_is k l = ap (λ n. take n (drop k l)) (sym (length-drop k l)) ∙ take-length (drop k l)

pub all_rest : (p : ℕ → Bool) (k : ℕ) (l : List ℕ) → all p l ≡ true → all p (take (length l - k) (drop k l)) ≡ true
all_rest p k l h = ap (all p) (rest_is k l) ∙ all_behind p k l h

cons_parts : (a b p q r : Bool) → both p q ≡ r → both (pick a false (pick b p false)) q ≡ pick a false (pick b r false)
cons_parts true b p q r h = refl
cons_parts false true p q r h = h
cons_parts false false p q r h = refl

pub new_parts : (n k : ℕ) (m l : List ℕ) → both (new_names n m (map half (take k l))) (new_names n (mark_all m (map half (take k l))) (map half (drop k l))) ≡ new_names n m (map half l)
unfolding new_names mark_all
new_parts n zero m [] = refl
new_parts n zero m (x ∷ l) = refl
new_parts n (suc k) m [] = refl
new_parts n (suc k) m (x ∷ l) = cons_parts (leb n (half x)) (eqb (get_or m (half x) 0) 0) _ _ _ (new_parts n k (set m (half x) 2) l)

-- what the front tells, and what the rest does where the front has no border twice
module _ (n k : ℕ) (m l : List ℕ) {r : Bool} {m' : List ℕ} (f : Marked n m (map half (take k l)) r m') where
  abbrev rest : Bool
  rest = new_names n (mark_all m (map half (take k l))) (map half (drop k l))

  pub front_tells : r ≡ false → r ≡ new_names n m (map half l)
  front_tells q = q ∙ ap (λ b. both b rest) (sym q ∙ f.answer) ∙ new_parts n k m l

  pub rest_tells : r ≡ true → length m' ≡ n → {r' : Bool} {m'' : List ℕ} → Marked (length m') m' (map half (take (length l - k) (drop k l))) r' m'' → r' ≡ new_names n m (map half l)
  rest_tells q e g = (rw (rest_is k l, e, f.marks q) at g.answer) ∙ ap (λ b. both b rest) (sym q ∙ f.answer) ∙ new_parts n k m l
