-- One turn and the end of each loop over a stroke's entries, and back over names. Assumes nothing.
use Prim.Native.Nat.{ℕ, zero, suc, ◌+◌, ◌/◌, ◌%◌, ◌≤◌, ◌<◌}
use mathlib.Core.Path.{◌≡◌, refl, ap, sym, ◌∙◌}
use mathlib.Core.Logic.{◌≢◌, ⊎_elim}
use mathlib.Core.Bool.{Bool, true}
use mathlib.Core.List.{List, [], ◌∷◌}
use native.Mathlib.Omega.{arith}
use native.Mathlib.Numerals.{add-one}
use borrow.Author.Tests.{le-leb, eq-eqb, ne_eqb, ltb-true, leb-true}
use Rattle.std.specs.Prelude.{Option, Some, None, unwrap_or}
use lib.Dec.{eqb, ltb, leb}
use lib.ListN.{length, get_or, drop, set, drop_of_length-le}
use lib.Seq.{drop-cons, sets}
use Rattle.lists.specs.Lists.{count, all}
use Rattle.lists.proofs.Cases.{le_or_lt}
use Rattle.lists.proofs.ChoiceLaws.{both_true, same_truth}
use Rattle.lists.proofs.ListLaws.{all_true, true_all}
use Rattle.lists.proofs.CountLaws.{count_in}
use Rattle.ledger.specs.Ledger.{Decision, decision_of, decisions, borders, state_for, all_exist, none_twice}
use Rattle.ledger.specs.Books.{half, name_of, names_from, state_all, start_of}
use Rattle.ledger.specs.Marks.{new_names}
use Rattle.ledger.proofs.Strokes.{all_borders}
use Rattle.ledger.proofs.MarkLaws.{new_names_lem, names_new}

all_at : (p : Decision → Bool) (es : List ℕ) (i : ℕ) → all p (decisions es) ≡ true → i < length es → p (decision_of (get_or es i 0)) ≡ true
unfolding all
all_at p [] i q h = absurd (omega arith)
all_at p (e ∷ es) zero q h = (both_true (p (decision_of e)) (all p (decisions es)) q).0
all_at p (e ∷ es) (suc i) q h = all_at p es i (both_true (p (decision_of e)) (all p (decisions es)) q).1 (omega arith)

module _ (es : List ℕ) (i : ℕ) where
  next_entry : i < length es → drop i es ≡ get_or es i 0 ∷ drop (i + 1) es
  next_entry h = rw (add-one, drop-cons es i 0 h)

  no_entry : length es ≤ i → drop i es ≡ []
  no_entry h = drop_of_length-le es h

  -- an entry's border exists where all do
  pub entry_below : (n : ℕ) → all_exist n (decisions es) ≡ true → i < length es → get_or es i 0 / 2 < n
  entry_below n q h = ltb-true (get_or es i 0 / 2) n (all_at (λ (d : Decision). ltb d.border n) es i q h)

  -- states and names of a stroke
  pub states_turn : (s t : List ℕ) → i < length es → state_all s (decisions (drop i es)) ≡ t
      → state_all (set s (get_or es i 0 / 2) (state_for (eqb (get_or es i 0 % 2) 1))) (decisions (drop (i + 1) es)) ≡ t
  unfolding state_all
  states_turn s t h q = ap (λ l. state_all s (decisions l)) (sym (next_entry h)) ∙ q

  pub states_end : (s t : List ℕ) → length es ≤ i → state_all s (decisions (drop i es)) ≡ t → s ≡ t
  unfolding state_all
  states_end s t h q = ap (λ l. state_all s (decisions l)) (sym (no_entry h)) ∙ q

  pub names_turn : (l t : List ℕ) (len : ℕ) → i < length es → sets l (len + i) (names_from i (decisions (drop i es))) ≡ t
      → sets (set l (len + i) (name_of (half (get_or es i 0)) i)) (len + (i + 1)) (names_from (i + 1) (decisions (drop (i + 1) es))) ≡ t
  unfolding names_from
  names_turn l t len h q =
      ap (λ x. sets (set l (len + i) (name_of (half (get_or es i 0)) i)) x (names_from (i + 1) (decisions (drop (i + 1) es)))) (let z : len + (i + 1) ≡ suc (len + i) = omega arith in z)
      ∙ ap (λ m. sets l (len + i) (names_from i (decisions m))) (sym (next_entry h)) ∙ q

  pub names_end : (l t : List ℕ) (len : ℕ) → length es ≤ i → sets l (len + i) (names_from i (decisions (drop i es))) ≡ t → l ≡ t
  unfolding names_from
  names_end l t len h q = ap (λ m. sets l (len + i) (names_from i (decisions m))) (sym (no_entry h)) ∙ q

-- no border twice, by marks that are free at first
module _ (n : ℕ) (es m₀ : List ℕ) (exist : all_exist n (decisions es) ≡ true) (long : n ≤ length m₀) (free : (e : ℕ) → get_or m₀ e 0 ≡ 0) where
  pub by_marks : new_names n m₀ (borders (decisions es)) ≡ none_twice (borders (decisions es))
  unfolding none_twice
  by_marks =
      let bs = borders (decisions es) in
      same_truth (new_names n m₀ bs) (all (λ e. leb (count e bs) 1) bs)
      (λ q. let f = new_names_lem n m₀ bs long q in true_all (λ e. leb (count e bs) 1) bs (λ e i. le-leb (count e bs) 1 (f.once e)))
      (λ q.
      names_new n m₀ bs long
      record {
        inside = λ e i. ltb-true e n (all_true (λ e. ltb e n) bs (sym (all_borders (λ e. ltb e n) (decisions es)) ∙ exist) e i);
        unmarked = λ e i. free e;
        once = λ e.
            ⊎_elim
            (λ (h : 1 ≤ count e bs). leb-true (count e bs) 1 (all_true (λ x. leb (count x bs) 1) bs q e (count_in e bs h)))
            (λ (h : count e bs < 1). omega arith)
            (le_or_lt 1 (count e bs));
      })

-- a stroke of none or one has no border twice
pub too_short : (es : List ℕ) → length es < 2 → true ≡ none_twice (borders (decisions es))
unfolding none_twice all count
too_short [] h = refl
too_short (x ∷ []) h = rw (eq-eqb (x / 2) (x / 2) refl)
too_short (x ∷ y ∷ es) h = absurd (omega arith)

-- the last place with a start is where the last stroke starts
module _ (l : List ℕ) where
  start_at : (n i : ℕ) → i < n → get_or l i 0 % 2 ≡ 1 → ((k : ℕ) → i < k → k < n → get_or l k 0 % 2 ≢ 1) → i ≡ start_of l n
  unfolding start_of
  start_at zero i h z after = absurd (omega arith)
  start_at (suc n) i h z after =
      ⊎_elim
      (λ (e : n ≤ i). let q : n ≡ i = omega arith in rw (q, z) refl)
      (λ (o : i < n). rw (ne_eqb (get_or l n 0 % 2) 1 (after n o (omega arith))) (start_at n i o z (λ k a b. after k a (omega arith))))
      (le_or_lt n i)

  start_none : (n : ℕ) → ((k : ℕ) → k < n → get_or l k 0 % 2 ≢ 1) → 0 ≡ start_of l n
  unfolding start_of
  start_none zero none = refl
  start_none (suc n) none = rw (ne_eqb (get_or l n 0 % 2) 1 (none n (omega arith))) (start_none n (λ k h. none k (omega arith)))

  pub start_told : (r : Option ℕ) {e : ℕ} → ((i : ℕ) → r ≡ Some i → (i < length l) × (get_or l i 0 % 2 ≡ 1) × ((k : ℕ) → i < k → k < length l → get_or l k 0 % 2 ≢ 1))
      → (r ≡ None → (k : ℕ) → k < length l → get_or l k 0 % 2 ≢ 1) → e ≡ unwrap_or r 0 → e ≡ start_of l (length l)
  start_told None some none q = q ∙ start_none (length l) (none refl)
  start_told (Some i) some none q = let a = some i refl in q ∙ start_at (length l) i a.0 a.1 a.2
