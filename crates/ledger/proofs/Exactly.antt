-- QUESTION 2 is yes exactly for what calls reach: a book that holds together, with free places behind its names, is what the strokes that it names make
-- of a fresh one, none of them empty (SPEC 12.5). Assumes nothing.
use Prim.Native.Nat.{ℕ, ◌+◌, ◌%◌, ◌≤◌, ◌<◌}
use mathlib.Core.Path.{◌≡◌, refl, ap, sym, ◌∙◌}
use mathlib.Core.Logic.{inl, inr, ◌≢◌, ⊎_elim}
use mathlib.Core.Bool.{Bool, true, false}
use mathlib.Core.List.{List, [], ◌∷◌, ◌++◌, map, append_assoc, append-nil}
use native.Mathlib.Omega.{arith}
use borrow.Author.Tests.{eqb-true, eq-eqb, ne_eqb}
use lib.Dec.{eqb}
use lib.ListN.{length, get_or, take, length-map, length-append}
use lib.Seq.{get_or-take, ext_get_or, length-sets, length-take-le}
use Rattle.limits.specs.Limits.{most_borders}
use Rattle.lists.specs.Choice.{pick}
use Rattle.lists.specs.Lists.{count}
use Rattle.lists.proofs.Cases.{le_or_lt, eq_or_ne}
use Rattle.ledger.specs.declared.Book.{Book}
use Rattle.ledger.specs.Ledger.{Decision, stroke, standing, whole, borders, stroke_code, added, ledger_of}
use Rattle.ledger.specs.Books.{zeros, book, fresh_book, half, name_of, names_from, names_of, names_in, state_at, book_holds, placed, book_after, run}
use Rattle.ledger.proofs.Standing.{Sound, count_both, not_decided}
use Rattle.ledger.proofs.Strokes.{Fits, code_fits, fits_code}
use Rattle.ledger.proofs.NameLaws.{whole_append, NoneEmpty, names_all, names_append}
use Rattle.ledger.proofs.BookLaws.{states_length, states_other, zeros_length}
use Rattle.ledger.proofs.Found.{decisions_in, borders_in_lem, sound_in, stands_in, held, question}
use Rattle.ledger.proofs.Reached.{Reached, reached}
use Rattle.ledger.proofs.Cuts.{strokes, after_stroke}

-- THE STROKES OF A LIST OF NAMES, cut where one starts
-- the decision of a name, by the states
abbrev decision_at : List ℕ → ℕ → Decision
decision_at s x = record { border = half x; wall = eqb (get_or s (half x) 0) 2 }

-- the stroke at hand and those behind it
parts : List ℕ → List Decision → List ℕ → List (List Decision)
parts s acc [] = acc ∷ []
parts s acc (x ∷ l) = pick (eqb (x % 2) 1) (acc ∷ parts s (decision_at s x ∷ []) l) (parts s (acc ++ (decision_at s x ∷ [])) l)

strokes_in : List ℕ → List ℕ → List (List Decision)
strokes_in s [] = []
strokes_in s (x ∷ l) = parts s (decision_at s x ∷ []) l

record Cut (s : List ℕ) (acc : List Decision) (l : List ℕ) (L : List (List Decision)) : Type 0 where
  names : names_all L ≡ names_of acc ++ l
  decided : whole L ≡ acc ++ map (decision_at s) l
  full : NoneEmpty L

one_name : (s : List ℕ) (x : ℕ) → x % 2 ≡ 1 → names_of (decision_at s x ∷ []) ≡ x ∷ []
unfolding names_from
one_name s x q = let e : name_of (half x) 0 ≡ x = omega arith in rw e

next_name : (s : List ℕ) (acc : List Decision) (x : ℕ) → 0 < length acc → x % 2 ≢ 1 → names_of (acc ++ (decision_at s x ∷ [])) ≡ names_of acc ++ (x ∷ [])
unfolding names_from
next_name s acc x some q =
    let far : eqb (0 + length acc) 0 ≡ false = ne_eqb (0 + length acc) 0 (let z : 0 + length acc ≢ 0 = λ p. omega arith in z) in
    let e : name_of (half x) (0 + length acc) ≡ x = rw far (omega arith) in
    names_append 0 acc (decision_at s x ∷ []) ∙ rw e

cut_parts : (s : List ℕ) (acc : List Decision) (l : List ℕ) → 0 < length acc → Cut s acc l (parts s acc l)
unfolding parts names_all whole
cut_parts s acc [] some =
    record { names = refl; decided = refl; full = λ t. ⊎_elim (λ (q : t ≡ acc). rw q some) (λ m. absurd m) }
cut_parts s acc (x ∷ l) some =
    ⊎_elim
    (λ (q : x % 2 ≡ 1).
    let d = decision_at s x in
    let c = cut_parts s (d ∷ []) l (omega arith) in
    rw q
    record {
      names = ap (λ m. names_of acc ++ m) (c.names ∙ ap (λ m. m ++ l) (one_name s x q));
      decided = ap (λ m. acc ++ m) c.decided;
      full = λ t. ⊎_elim (λ (p : t ≡ acc). rw p some) (λ m. c.full t m);
    })
    (λ (q : x % 2 ≢ 1).
    let d = decision_at s x in
    let c = cut_parts s (acc ++ (d ∷ [])) l (omega (arith, length-append acc (d ∷ []))) in
    rw (ne_eqb (x % 2) 1 q)
    record {
      names = c.names ∙ ap (λ m. m ++ l) (next_name s acc x some q) ∙ append_assoc (names_of acc) (x ∷ []) l;
      decided = c.decided ∙ append_assoc acc (d ∷ []) (map (decision_at s) l);
      full = c.full;
    })
    (eq_or_ne (x % 2) 1)

-- names of which the first, if there is one, starts a stroke
record Strokes (s l : List ℕ) : Type 0 where
  names : names_all (strokes_in s l) ≡ l
  decided : whole (strokes_in s l) ≡ map (decision_at s) l
  full : NoneEmpty (strokes_in s l)

strokes_in_lem : (s l : List ℕ) → (0 < length l → get_or l 0 0 % 2 ≡ 1) → Strokes s l
unfolding strokes_in names_all whole
strokes_in_lem s [] f = record { names = refl; decided = refl; full = λ t m. absurd m }
strokes_in_lem s (x ∷ l) f =
    let c = cut_parts s (decision_at s x ∷ []) l (omega arith) in
    record { names = c.names ∙ ap (λ m. m ++ l) (one_name s x (f (omega arith))); decided = c.decided; full = c.full }

as_decisions : (s l : List ℕ) → map (decision_at s) l ≡ decisions_in s (map half l)
unfolding decisions_in
as_decisions s [] = refl
as_decisions s (x ∷ l) = ap (λ m. decision_at s x ∷ m) (as_decisions s l)

-- WHAT NO CALL CHANGES: the lengths, and the states behind the borders
record Shape (n : ℕ) (s l : List ℕ) (b : Book) : Type 0 where
  states_same : length b.states ≡ length s
  names_same : length b.names ≡ length l
  behind : (e : ℕ) → n ≤ e → get_or b.states e 0 ≡ get_or s e 0

module _ (n : ℕ) (s l : List ℕ) where
  placed_shape : (b : Book) (ds : List Decision) → stroke_code n (state_at b.states) ds ≡ 0 → Shape n s l b → Shape n s l (placed b ds)
  placed_shape b ds z r =
      let f = code_fits n (state_at b.states) ds z in
      record {
        states_same = states_length ds b.states ∙ r.states_same;
        names_same = length-sets b.names b.len (names_of ds) ∙ r.names_same;
        behind = λ e i.
            states_other ds b.states e
            (⊎_elim
            (λ (h : 1 ≤ count e (borders ds)). absurd (let k = f.inside e h in omega arith))
            (λ (h : count e (borders ds) < 1). omega arith)
            (le_or_lt 1 (count e (borders ds))))
            ∙ r.behind e i;
      }

  run_shape : (L : List (List Decision)) (b : Book) → Shape n s l b → Shape n s l (run n b (strokes L))
  unfolding run book_after
  run_shape [] b r = r
  run_shape (x ∷ L) b r =
      let code = stroke_code n (state_at b.states) x in
      run_shape L (book_after n b (stroke x))
      (⊎_elim
      (λ (q : code ≡ 0). rw (eq-eqb code 0 q) (placed_shape b x q r))
      (λ (q : code ≢ 0). rw (ne_eqb code 0 q) r)
      (eq_or_ne code 0))

-- SOUND STROKES, none of them empty, are the ledger of their calls
append_one : (M : List (List Decision)) (s : List Decision) (L : List (List Decision)) → (M ++ (s ∷ [])) ++ L ≡ M ++ (s ∷ L)
append_one M s L = append_assoc M (s ∷ []) L

added_some : (M : List (List Decision)) (s : List Decision) → 0 < length s → added M s ≡ M ++ (s ∷ [])
unfolding added
added_some M [] h = absurd (omega arith)
added_some M (d ∷ ds) h = refl

whole_parts : (M : List (List Decision)) (x : List Decision) (L : List (List Decision)) → whole (M ++ (x ∷ L)) ≡ whole M ++ (x ++ whole L)
unfolding whole
whole_parts M x L = whole_append M (x ∷ L)

module _ (n : ℕ) (given : ℕ → Bool) where
  ledger_of_lem : (L M : List (List Decision)) → Sound n given (whole (M ++ L)) → NoneEmpty L → ledger_of n given M (strokes L) ≡ M ++ L
  unfolding ledger_of
  ledger_of_lem [] M s f = sym (append-nil M)
  ledger_of_lem (x ∷ L) M s f =
      let c : (e : ℕ) → count e (borders (whole (M ++ (x ∷ L)))) ≡ count e (borders (whole M)) + (count e (borders x) + count e (borders (whole L))) =
      λ e. ap (λ m. count e (borders m)) (whole_parts M x L) ∙ count_both (whole M) (x ++ whole L) e ∙ ap (λ k. count e (borders (whole M)) + k) (count_both x (whole L) e) in
      let fits : Fits n (standing given (whole M)) x =
      record {
        inside = λ e h. s.inside e (omega (arith, c e));
        once = λ e. omega (arith, c e, s.once e);
        free = λ e h. not_decided n given (whole M) e (s.free e (omega (arith, c e))) (omega (arith, c e, s.once e));
      } in
      let next = after_stroke n given M x (fits_code n (standing given (whole M)) x fits) ∙ added_some M x (f x (inl refl)) in
      ap (λ N. ledger_of n given N (strokes L)) next
      ∙ ledger_of_lem L (M ++ (x ∷ [])) (rw (append_one M x L) s) (λ y m. f y (inr m)) ∙ append_one M x L

  -- two books of the same strokes and lengths, with the same states behind the borders, are one
  same_book : (L : List (List Decision)) (b c : Book) → Reached n given L b → Reached n given L c
      → length b.states ≡ length c.states → length b.names ≡ length c.names
      → ((e : ℕ) → n ≤ e → get_or b.states e 0 ≡ get_or c.states e 0) → b ≡ c
  same_book L b c r t ss sn rest =
      let len : b.len ≡ c.len = r.len_is ∙ sym t.len_is in
      let states =
      ext_get_or 0 b.states c.states ss
      (λ e h. ⊎_elim (λ (k : n ≤ e). rest e k) (λ (k : e < n). r.stands e k ∙ sym (t.stands e k)) (le_or_lt n e)) in
      let names =
      ext_get_or 0 b.names c.names sn
      (λ i h.
      ⊎_elim
      (λ (k : b.len ≤ i). r.rest_free i k ∙ sym (t.rest_free i (rw len at k)))
      (λ (k : i < b.len).
      sym (get_or-take b.len b.names i 0 k)
      ∙ ap (λ x. get_or x i 0) (r.names_are ∙ sym t.names_are) ∙ get_or-take c.len c.names i 0 (rw len at k))
      (le_or_lt b.len i)) in
      fields b.states c.states b.names c.names b.len c.len states names len
    where
      fields : (s t l m : List ℕ) (x y : ℕ) → s ≡ t → l ≡ m → x ≡ y → book s l x ≡ book t m y
      fields s t l m x y p q r = rw (p, q, r)

  -- a book that holds together, with free places behind its names, is a book of calls
  module _ (b : Book) (long : n ≤ length b.states) (room : n ≤ length b.names) (q : book_holds n given b ≡ true) (free : (i : ℕ) → b.len ≤ i → get_or b.names i 0 ≡ 0) where
    pub strokes_of : List (List Decision)
    strokes_of = strokes_in b.states (take b.len b.names)

    size : length (take b.len b.names) ≡ b.len
    size = length-take-le b.len b.names (omega (arith, (held n given b q).0))

    first : 0 < length (take b.len b.names) → get_or (take b.len b.names) 0 0 % 2 ≡ 1
    first h =
        let some : 0 < b.len = omega (arith, size) in
        let off : eqb b.len 0 ≡ false = ne_eqb b.len 0 (let z : b.len ≢ 0 = λ p. omega arith in z) in
        ap (λ x. x % 2) (get_or-take b.len b.names 0 0 some) ∙ eqb-true (get_or b.names 0 0 % 2) 1 (rw off at (held n given b q).1)

    pub found : Reached n given strokes_of b
    unfolding strokes_of
    found =
        let l = take b.len b.names in
        let c = strokes_in_lem b.states l first in
        let k = question n given b q in
        let same : whole (strokes_in b.states l) ≡ decisions_in b.states (names_in b) = c.decided ∙ as_decisions b.states l in
        record {
          states_long = long;
          names_long = room;
          full = c.full;
          sound = rw same (sound_in n given b.states (names_in b) k);
          stands = rw same (stands_in n given b.states (names_in b) k);
          names_are = sym c.names;
          len_is = rw same (sym (sym (simp length-map) ∙ ap length (borders_in_lem b.states (names_in b)) ∙ simp length-map size));
          rest_free = free;
        }

  -- THE THEOREM: s are the states of a fresh book, with the given walls, and with b's states behind the borders
  module _ (s : List ℕ) (f : (e : ℕ) → e < n → get_or s e 0 ≡ pick (given e) 2 0) (few : n ≤ most_borders) (b : Book) (ss : length s ≡ length b.states) (sn : length b.names ≡ most_borders)
      (rest : (e : ℕ) → n ≤ e → get_or s e 0 ≡ get_or b.states e 0) where
    pub called : (long : n ≤ length s) → book_holds n given b ≡ true → ((i : ℕ) → b.len ≤ i → get_or b.names i 0 ≡ 0)
        → (L : List (List Decision)) × NoneEmpty L × (b ≡ run n (fresh_book s) (strokes L))
    called long q free =
        let r = found b (omega (arith, ss)) (omega (arith, sn)) q free in
        let L = strokes_of b (omega (arith, ss)) (omega (arith, sn)) q free in
        let c = run n (fresh_book s) (strokes L) in
        let k : ledger_of n given [] (strokes L) ≡ L = ledger_of_lem L [] r.sound r.full in
        let t : Reached n given L c = rw k at (reached n given s long few f (strokes L)) in
        let h = run_shape n s zeros L (fresh_book s) (record { states_same = refl; names_same = refl; behind = λ e i. refl }) in (
          L,
          r.full,
          same_book L b c r t (sym ss ∙ sym h.states_same) (sn ∙ sym zeros_length ∙ sym h.names_same) (λ e i. sym (rest e i) ∙ sym (h.behind e i)),
        )
