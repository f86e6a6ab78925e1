-- One turn and the end of each loop over a book's names, and over a stroke's entries. Assumes nothing.
use Prim.Native.Nat.{ℕ, ◌+◌, ◌-◌, ◌*◌, ◌≤◌, ◌<◌}
use mathlib.Core.Path.{◌≡◌, refl, ap, sym, ◌∙◌}
use mathlib.Core.Logic.{inl, inr, ⊎_elim}
use mathlib.Core.Bool.{Bool, true, false, ◌&&◌}
use mathlib.Core.List.{List, [], ◌∷◌, map}
use native.Mathlib.Omega.{arith}
use native.Mathlib.Numerals.{add-one}
use borrow.Author.Tests.{lt-leb, lt-ltb, ltb-true}
use lib.Dec.{eqb, ltb}
use lib.ListN.{length, get_or, take, drop, set, replicate, drop_of_length-le, length-map, length-drop, get_or-map, length-replicate}
use lib.Seq.{drop-cons, sets, take-length, get_or-take, length-take-le}
use Rattle.std.proofs.lemmas.List.{drop-map, take-append-drop}
use borrow.Rule.Slice.PartMut.{put_mid, mid_of, mid_len}
use Rattle.limits.specs.Limits.{most_borders}
use Rattle.lists.specs.Choice.{both, pick}
use Rattle.lists.specs.Lists.{In, all, count_from}
use Rattle.lists.proofs.Cases.{true_or_false, not_both}
use Rattle.lists.proofs.ChoiceLaws.{both_true, both_right}
use Rattle.lists.proofs.ListLaws.{in_right, all_true, true_all, in_get_d, get_d_in, all_step}
use Rattle.lists.proofs.SetsLaws.{part_written}
use Rattle.lists.proofs.Bridges.{filled}
use Rattle.ledger.specs.declared.Book.{Book}
use Rattle.ledger.specs.Ledger.{Decision, decision_of, decisions, borders}
use Rattle.ledger.specs.Books.{book, half, borders_in, names_from, names_of, state_all, clear_all}
use Rattle.ledger.specs.Marks.{fits_of, fit_all, new_names, mark_all, Marked, Named}
use Rattle.ledger.proofs.MarkLaws.{new_names_lem}
use Rattle.ledger.proofs.Loops.{new_or_not}
use Rattle.ledger.proofs.StrokeLoops.{states_end, names_end}

next_of : {A : Type 0} (l : List A) (i : ℕ) (d : A) → i < length l → drop i l ≡ get_or l i d ∷ drop (i + 1) l
next_of l i d h = rw (add-one, drop-cons l i d h)

-- THE STATES AND THEIR MARKS: `good` is false where one of the first i does not go with its mark
pub fits_on : (n : ℕ) (s m : List ℕ) (good : Bool) (i : ℕ) (fit : Bool) → i < n → fit ≡ fits_of (get_or s i 0) (get_or m i 0)
    → both good (all (λ e. fits_of (get_or s e 0) (get_or m e 0)) (count_from i (n - i))) ≡ fit_all n s m
    → both (good && fit) (all (λ e. fits_of (get_or s e 0) (get_or m e 0)) (count_from (i + 1) (n - (i + 1)))) ≡ fit_all n s m
fits_on n s m true i fit h p k = ap (λ t. both t (all goes (count_from (i + 1) (n - (i + 1))))) p ∙ sym (all_step goes n i h) ∙ k
  where
    goes : ℕ → Bool
    goes e = fits_of (get_or s e 0) (get_or m e 0)
fits_on n s m false i fit h p k = k

-- A WALK over names: the marks m after the first i names, of marks m₀ at the start, and whether these were new
pub record Walk (l : List ℕ) (n : ℕ) (m₀ m : List ℕ) (i : ℕ) (new : Bool) : Type 0 where
  pub answer : both new (new_names n m (drop i (map half l))) ≡ new_names n m₀ (map half l)
  pub marks : mark_all m (drop i (map half l)) ≡ mark_all m₀ (map half l)

-- which border is the last does not tell where all of them are borders
new_within : (n k : ℕ) (l m : List ℕ) → n ≤ k → all (λ x. ltb x (2 * n)) l ≡ true → new_names k m (map half l) ≡ new_names n m (map half l)
unfolding new_names all
new_within n k [] m room b = refl
new_within n k (x ∷ l) m room b =
    let t = both_true (ltb x (2 * n)) (all (λ x. ltb x (2 * n)) l) b in
    let h = ltb-true x (2 * n) t.0 in
    rw (lt-leb n (half x) (omega (arith, h)), lt-leb k (half x) (omega (arith, h, room)))
    (ap (λ r. pick (eqb (get_or m (half x) 0) 0) r false) (new_within n k l (set m (half x) 2) room t.1))

half_in : (l : List ℕ) (x : ℕ) → In x l → In (half x) (map half l)
half_in [] x k = absurd k
half_in (y ∷ l) x (inl q) = inl (ap half q)
half_in (y ∷ l) x (inr k) = inr (half_in l x k)

module _ (l : List ℕ) (n : ℕ) where
  pub walk_out : (m : List ℕ) → n ≤ length m → all (λ x. ltb x (2 * n)) l ≡ false → Marked n m (map half l) false m
  walk_out m room o =
      let bs = map half l in
      let within : new_names n m bs ≡ true → (x : ℕ) → In x l → ltb x (2 * n) ≡ true =
      λ t x k. lt-ltb x (2 * n) (let f = (new_names_lem n m bs room t).inside (half x) (half_in l x k) in omega arith) in
      record {
        answer =
            ⊎_elim
            (λ (t : new_names n m bs ≡ true). absurd (not_both (all (λ x. ltb x (2 * n)) l) (true_all (λ x. ltb x (2 * n)) l (within t)) o))
            (λ (f : new_names n m bs ≡ false). sym f)
            (true_or_false (new_names n m bs));
        marks = λ t. absurd (not_both false t refl);
      }

  -- names of n borders, marked among k
  module _ (k : ℕ) (room : n ≤ k) (b : all (λ x. ltb x (2 * n)) l ≡ true) where
    pub marked_within : (m m' : List ℕ) (r : Bool) → Marked k m (map half l) r m' → Marked n m (map half l) r m'
    marked_within m m' r w = record { answer = w.answer ∙ new_within n k l m room b; marks = w.marks }

    pub halves_below : all (λ x. ltb (half x) k) l ≡ true
    halves_below =
        true_all (λ x. ltb (half x) k) l
        (λ x i. let h = ltb-true x (2 * n) (all_true (λ x. ltb x (2 * n)) l b x i) in lt-ltb (half x) k (omega (arith, h, room)))

  next_half : (i : ℕ) → i < length l → drop i (map half l) ≡ half (get_or l i 0) ∷ drop (i + 1) (map half l)
  next_half i h = next_of (map half l) i 0 (simp length-map h) ∙ rw (get_or-map half l i 0)

  pub border_below : (i : ℕ) → i < length l → all (λ x. ltb (half x) n) l ≡ true → half (get_or l i 0) < n
  border_below i h b = ltb-true (half (get_or l i 0)) n (all_true (λ x. ltb (half x) n) l b (get_or l i 0) (get_d_in 0 l i h))

  pub walk_on : (m₀ m : List ℕ) (i e : ℕ) (new new' : Bool) → Walk l n m₀ m i new → i < length l → e ≡ half (get_or l i 0) → e < n
      → new' ≡ new && eqb (get_or m e 0) 0 → Walk l n m₀ (set m e 2) (i + 1) new'
  unfolding new_names mark_all
  walk_on m₀ m i e new new' w h q o k =
      let a = rw (next_half i h, ← q, lt-leb n e o) at w.answer in
      record {
        answer = rw k (sym (new_or_not (eqb (get_or m e 0) 0) new (new_names n (set m e 2) (drop (i + 1) (map half l)))) ∙ a);
        marks = rw (next_half i h, ← q) at w.marks;
      }

  pub walk_end : (m₀ m : List ℕ) (i : ℕ) (new : Bool) → Walk l n m₀ m i new → length l ≤ i → Marked n m₀ (map half l) new m
  unfolding new_names mark_all
  walk_end m₀ m i new w h =
      let none : drop i (map half l) ≡ [] = drop_of_length-le (map half l) (simp length-map h) in
      record { answer = sym (both_right new) ∙ (rw none at w.answer); marks = λ t. rw none at w.marks }

-- the borders of entries
pub entries_half : (es : List ℕ) → map half es ≡ borders (decisions es)
entries_half [] = refl
entries_half (x ∷ es) = ap (λ l. half x ∷ l) (entries_half es)

-- a test of all decisions, by their entries
pub all_entries : (p : Decision → Bool) (es : List ℕ) → all (λ x. p (decision_of x)) es ≡ all p (decisions es)
unfolding all
all_entries p [] = refl
all_entries p (x ∷ es) = rw (all_entries p es)

-- THE STATES of a stroke, and its names, placed as far as its first i entries
pub record Placing (b : Book) (es : List ℕ) (b' : Book) (i : ℕ) : Type 0 where
  pub states : state_all b'.states (decisions (drop i es)) ≡ state_all b.states (decisions es)
  pub same_names : b'.names ≡ b.names
  pub same_len : b'.len ≡ b.len

pub record Naming (b : Book) (es : List ℕ) (b' : Book) (i : ℕ) : Type 0 where
  pub names : sets b'.names (b.len + i) (names_from i (decisions (drop i es))) ≡ sets b.names b.len (names_of (decisions es))
  pub same_states : b'.states ≡ b.states
  pub same_len : b'.len ≡ b.len

module _ (b : Book) (es : List ℕ) (b' : Book) (i : ℕ) (h : length es ≤ i) where
  pub placed_end : Placing b es b' i → book b'.states b'.names b'.len ≡ book (state_all b.states (decisions es)) b.names b.len
  placed_end w = rw (states_end es i b'.states _ h w.states, w.same_names, w.same_len)

  pub named_end : Naming b es b' i → book b'.states b'.names (b'.len + length es) ≡ book b.states (sets b.names b.len (names_of (decisions es))) (b.len + length es)
  named_end w = rw (names_end es i b'.names _ b.len h w.names, w.same_states, w.same_len)

-- BORDERS of names cleared as far as the names before place i
module _ (l : List ℕ) (i : ℕ) (s t : List ℕ) (k : clear_all s (drop i (map half l)) ≡ t) where
  pub clear_on : (e : ℕ) → i < length l → e ≡ half (get_or l i 0) → clear_all (set s e 0) (drop (i + 1) (map half l)) ≡ t
  unfolding clear_all
  clear_on e h q = rw q (ap (clear_all s) (sym (next_half l 0 i h)) ∙ k)

  pub cleared : length l ≤ i → s ≡ t
  unfolding clear_all
  cleared h = let none : drop i (map half l) ≡ [] = drop_of_length-le (map half l) (simp length-map h) in rw none at k

-- the names from `from` on, as a part of the first len
module _ (l : List ℕ) (from len : ℕ) (k : Named l from len) where
  part : take (length (take len l) - from) (drop from (take len l)) ≡ drop from (take len l)
  part = ap (λ n. take n (drop from (take len l))) (sym (length-drop from (take len l))) ∙ take-length (drop from (take len l))

  pub part_below : all (λ x. ltb (half x) most_borders) (take (length (take len l) - from) (drop from (take len l))) ≡ true
  part_below =
      let xs = take len l in
      rw part
      (true_all (λ x. ltb (half x) most_borders) (drop from xs)
      (λ x i.
      let o = in_get_d 0 x xs (rw (take-append-drop from xs) at (in_right x (take from xs) (drop from xs) i)) in
      let h : o.0 < len = omega (arith, o.1, length-take-le len l k.long) in
      let e : get_or l o.0 0 ≡ x = sym (get_or-take len l o.0 0 h) ∙ o.2 in
      lt-ltb (half x) most_borders (rw e at (k.places o.0 h))))

  pub part_half : map half (take (length (take len l) - from) (drop from (take len l))) ≡ drop from (borders_in l len)
  part_half = ap (map half) part ∙ sym (drop-map half from (take len l))

-- the places of names are filled with zeros
pub freed : (names : List ℕ) (from len : ℕ) → from ≤ len → len ≤ length names → (ys : List ℕ) → length ys ≡ length (mid_of from (len - from) names)
    → ((k d : ℕ) → k < length (mid_of from (len - from) names) → ◌≡◌ {A = ℕ} 0 0 → get_or ys k d ≡ 0)
    → put_mid from (len - from) names ys ≡ sets names from (replicate (len - from) 0)
freed names from len turn long ys size each =
    let n = len - from in
    let zeros : length (replicate {A = ℕ} n 0) ≡ n = length-replicate {A = ℕ} n 0 in
    let mid : length (mid_of from n names) ≡ n = mid_len from len names long in
    let ys_are : ys ≡ replicate n 0 = filled ys n 0 (size ∙ mid) (λ j q. each j 0 (rw mid q) refl) in
    rw ys_are (part_written names (replicate n 0) from n (sym zeros) (omega (arith, zeros)))
