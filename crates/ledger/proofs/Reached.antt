-- THE LEDGER'S THEOREM, once for boards, puzzles and room graphs: over n borders of which some are given, after every list of calls, accepted and
-- refused ones, the states are exactly the standing borders and question 2 holds; and an undo gives back the very book before an accepted stroke that
-- is not empty. Assumes nothing.
use Prim.Native.Nat.{ℕ, suc, ◌+◌, ◌-◌, ◌%◌, ◌≤◌, ◌<◌}
use mathlib.Core.Path.{◌≡◌, refl, ap, sym, ◌∙◌}
use mathlib.Core.Logic.{◌⊎◌, inl, inr, ◌≢◌, ⊎_elim}
use mathlib.Core.Bool.{Bool, true}
use mathlib.Core.List.{List, [], ◌∷◌, ◌++◌, map}
use native.Mathlib.Omega.{arith}
use native.Mathlib.Nat.{add-zero}
use borrow.Author.Tests.{eq-eqb, ne_eqb, le-leb}
use lib.Dec.{eqb}
use lib.ListN.{length, get_or, take, drop, replicate, length-map, length-append}
use lib.Seq.{sets, get_or-take, length-sets, take-take, take-length, take_at, drop_at, length-take-le}
use Rattle.limits.specs.Limits.{most_borders}
use Rattle.lists.specs.Choice.{pick}
use Rattle.lists.specs.Lists.{In, count}
use Rattle.lists.proofs.ChoiceLaws.{true_both, left_either, right_either}
use Rattle.lists.proofs.Cases.{le_or_lt, eq_or_ne}
use Rattle.lists.proofs.SetsLaws.{sets_out}
use Rattle.ledger.specs.declared.Book.{Book}
use Rattle.ledger.specs.Ledger.{Decision, Call, stroke, undo, ask, state_in, standing, whole, borders, stroke_code, undo_code, first_code, added, ledger_after, ledger_of}
use Rattle.ledger.specs.Books.{zeros, fresh_book, none_given, half, starts, names_from, names_of, names_in, state_at, first_starts, book_holds, state_all, clear_all, start_of, placed, taken, book_after, run}
use Rattle.ledger.proofs.Standing.{Sound, count_both, borders_append, state_behind, state_front, not_named, sound_empty, sound_length, sound_front, standing_named, standing_same, undecided, not_decided, holds_together}
use Rattle.ledger.proofs.Strokes.{Fits, code_fits, code_same, sound_stroke}
use Rattle.ledger.proofs.NameLaws.{half_append, NoneEmpty, whole_last, names_all, all_last, all_half, all_length, names_length, names_half, first_mark, start_last}
use Rattle.ledger.proofs.BookLaws.{zero_at, zeros_length, states_length, states_other, states_named, clear_length, clear_other, clear_named, clear_states, names_behind, names_freed, freed_front, freed_rest}

-- a book of calls: exactly the strokes of the ledger L stand, and the places behind the last name are free
pub record Reached (n : ℕ) (given : ℕ → Bool) (L : List (List Decision)) (b : Book) : Type 0 where
  pub states_long : n ≤ length b.states
  pub names_long : n ≤ length b.names
  pub full : NoneEmpty L
  pub sound : Sound n given (whole L)
  pub stands : (e : ℕ) → e < n → get_or b.states e 0 ≡ standing given (whole L) e
  pub names_are : take b.len b.names ≡ names_all L
  pub len_is : b.len ≡ length (whole L)
  pub rest_free : (i : ℕ) → b.len ≤ i → get_or b.names i 0 ≡ 0

-- a list of strokes without its last
split_last : (L : List (List Decision)) → 0 < length L → (M : List (List Decision)) × (s : List Decision) × (L ≡ M ++ (s ∷ []))
split_last [] h = absurd (omega arith)
split_last (x ∷ []) h = ([], x, refl)
split_last (x ∷ (y ∷ L)) h = let o = split_last (y ∷ L) (omega arith) in (x ∷ o.0, o.1, ap (λ m. x ∷ m) o.2)

without_last : (M : List (List Decision)) (s : List Decision) → take (length (M ++ (s ∷ [])) - 1) (M ++ (s ∷ [])) ≡ M
without_last M s = take_at M (s ∷ []) (length (M ++ (s ∷ [])) - 1) (omega (arith, length-append M (s ∷ [])))

in_parts : (s : List Decision) (L : List (List Decision)) (t : List Decision) → In s (L ++ (t ∷ [])) → (In s L) ⊎ (s ≡ t)
in_parts s [] t (inl q) = inr q
in_parts s [] t (inr m) = absurd m
in_parts s (x ∷ L) t (inl q) = inl (inl q)
in_parts s (x ∷ L) t (inr m) = ⊎_elim (λ k. inl (inr k)) inr (in_parts s L t m)

in_front : (s : List Decision) (L : List (List Decision)) (t : List Decision) → In s L → In s (L ++ (t ∷ []))
in_front s [] t m = absurd m
in_front s (x ∷ L) t (inl q) = inl q
in_front s (x ∷ L) t (inr m) = inr (in_front s L t m)

-- strokes of which none is empty have no fewer decisions than there are strokes
some_decision : (L : List (List Decision)) → NoneEmpty L → 0 < length L → 0 < length (whole L)
unfolding whole
some_decision [] f h = absurd (omega arith)
some_decision (s ∷ L) f h = omega (arith, length-append s (whole L), f s (inl refl))

-- an empty stroke leaves the book
pub placed_empty : (b : Book) → placed b [] ≡ b
unfolding state_all names_from
placed_empty b = rw (add-zero b.len)

-- an accepted stroke on the book
pub after_placed : (n : ℕ) (b : Book) (ds : List Decision) → stroke_code n (state_at b.states) ds ≡ 0 → book_after n b (stroke ds) ≡ placed b ds
unfolding book_after
after_placed n b ds q = rw q

module _ (n : ℕ) (given : ℕ → Bool) where
  module _ (L : List (List Decision)) (b : Book) (r : Reached n given L b) where
    pub len_le : b.len ≤ n
    len_le = omega (arith, r.len_is, sound_length n given (whole L) r.sound)

    pub borders_are : names_in b ≡ borders (whole L)
    borders_are = ap (map half) r.names_are ∙ all_half L

    starts_first : first_starts b.names b.len ≡ true
    starts_first =
        ⊎_elim
        (λ (h : b.len ≤ 0). left_either (eqb b.len 0) (starts b.names 0) (eq-eqb b.len 0 (omega arith)))
        (λ (h : 0 < b.len).
        let same : get_or b.names 0 0 ≡ get_or (names_all L) 0 0 = sym (get_or-take b.len b.names 0 0 h) ∙ ap (λ l. get_or l 0 0) r.names_are in
        right_either (eqb b.len 0) (starts b.names 0) (eq-eqb (get_or b.names 0 0 % 2) 1 (ap (λ x. x % 2) same ∙ first_mark L r.full (omega (arith, r.len_is)))))
        (le_or_lt b.len 0)

    -- question 2 of a book of calls
    pub reached_holds : book_holds n given b ≡ true
    unfolding book_holds
    reached_holds =
        true_both _ _ (le-leb b.len n len_le)
        (true_both _ _ starts_first (holds_together n given b.states (names_in b) (whole L) r.sound r.stands borders_are))

    -- the record's numbers are the ledger's
    pub same_code : (ds : List Decision) → stroke_code n (state_at b.states) ds ≡ stroke_code n (standing given (whole L)) ds
    same_code ds = code_same n (state_at b.states) (standing given (whole L)) ds r.stands

    -- AN ACCEPTED STROKE, not empty
    module _ (ds : List Decision) (some : 0 < length ds) (f : Fits n (standing given (whole L)) ds) where
      more : Sound n given (whole L ++ ds)
      more = sound_stroke n given (whole L) ds r.sound f

      size : length (names_of ds) ≡ length ds
      size = names_length 0 ds

      room : b.len + length (names_of ds) ≤ length b.names
      room = omega (arith, sound_length n given (whole L ++ ds) more, length-append (whole L) ds, r.len_is, r.names_long, size)

      stands_placed : (e : ℕ) → e < n → get_or (state_all b.states ds) e 0 ≡ standing given (whole L ++ ds) e
      stands_placed e h =
          ⊎_elim
          (λ (c : 1 ≤ count e (borders ds)).
          let u = undecided n given (whole L) e (f.free e c) in
          states_named ds b.states e (omega (arith, r.states_long)) (omega (arith, f.once e))
          ∙ sym (standing_named n given (whole L ++ ds) e u.0 ∙ state_behind (whole L) ds e (not_named (whole L) e u.1)))
          (λ (c : count e (borders ds) < 1).
          let z : count e (borders ds) ≡ 0 = omega arith in
          states_other ds b.states e z ∙ r.stands e h ∙ standing_same n given (whole L) (whole L ++ ds) e (sym (state_front (whole L) ds e (not_named ds e z))))
          (le_or_lt 1 (count e (borders ds)))

      -- the names now: those before, and the stroke's
      names_now : take (b.len + length ds) (sets b.names b.len (names_of ds)) ≡ take b.len b.names ++ names_of ds
      names_now = rw size at (names_behind b.names b.len (names_of ds) room)

      placed_reached : Reached n given (L ++ (ds ∷ [])) (placed b ds)
      placed_reached =
          record {
            states_long = rw (states_length ds b.states) r.states_long;
            names_long = rw (length-sets b.names b.len (names_of ds)) r.names_long;
            full = λ s m. ⊎_elim (λ k. r.full s k) (λ (q : s ≡ ds). rw q some) (in_parts s L ds m);
            sound = rw (whole_last L ds) more;
            stands = rw (whole_last L ds) stands_placed;
            names_are = names_now ∙ ap (λ m. m ++ names_of ds) r.names_are ∙ sym (all_last L ds);
            len_is = rw (whole_last L ds) (omega (arith, length-append (whole L) ds, r.len_is));
            rest_free = λ i k. sets_out (names_of ds) b.names b.len i (inr (omega (arith, size))) ∙ r.rest_free i (omega arith);
          }

      -- UNDO: what was placed is taken back, and the very book is there again
      pub taken_placed : taken (placed b ds) ≡ b
      taken_placed =
          let front : length (take b.len b.names) ≡ b.len = length-take-le b.len b.names (omega (arith, room)) in
          let start : start_of (sets b.names b.len (names_of ds)) (b.len + length ds) ≡ b.len =
          start_last (sets b.names b.len (names_of ds)) (take b.len b.names) ds some (b.len + length ds) names_now (omega (arith, front)) ∙ front in
          let last : drop b.len (map half (take (b.len + length ds) (sets b.names b.len (names_of ds)))) ≡ borders ds =
          ap (λ l. drop b.len (map half l)) names_now
          ∙ ap (drop b.len) (half_append (take b.len b.names) (names_of ds))
          ∙ drop_at (map half (take b.len b.names)) (map half (names_of ds)) b.len (simp length-map front) ∙ names_half 0 ds in
          let states : clear_all (state_all b.states ds) (borders ds) ≡ b.states =
          clear_states ds b.states f.once (λ e c. r.stands e (f.inside e c) ∙ f.free e c) in
          let freed : sets (sets b.names b.len (names_of ds)) b.len (replicate (b.len + length ds - b.len) 0) ≡ b.names =
          names_freed b.names b.len (names_of ds) room r.rest_free (b.len + length ds - b.len) (omega (arith, size)) in
          rw (start, last, states, freed)

    -- THE LAST STROKE TAKEN BACK
    module _ (M : List (List Decision)) (s : List Decision) (split : L ≡ M ++ (s ∷ [])) where
      parts : whole L ≡ whole M ++ s
      parts = ap whole split ∙ whole_last M s

      names_split : take b.len b.names ≡ names_all M ++ names_of s
      names_split = r.names_are ∙ ap names_all split ∙ all_last M s

      last_some : 0 < length s
      last_some = r.full s (rw split (last_in M s))
        where
          last_in : (M : List (List Decision)) (s : List Decision) → In s (M ++ (s ∷ []))
          last_in [] s = inl refl
          last_in (x ∷ M) s = inr (last_in M s)

      len_more : b.len ≡ length (whole M) + length s
      len_more = r.len_is ∙ ap length parts ∙ length-append (whole M) s

      start : start_of b.names b.len ≡ length (whole M)
      start = start_last b.names (names_all M) s last_some b.len names_split (omega (arith, len_more, all_length M)) ∙ all_length M

      sound_all : Sound n given (whole M ++ s)
      sound_all = rw parts at r.sound

      last_are : drop (length (whole M)) (names_in b) ≡ borders s
      last_are =
          ap (drop (length (whole M))) (borders_are ∙ ap borders parts ∙ borders_append (whole M) s)
          ∙ drop_at (borders (whole M)) (borders s) (length (whole M)) (simp length-map)

      stands_taken : (e : ℕ) → e < n → get_or (clear_all b.states (borders s)) e 0 ≡ standing given (whole M) e
      stands_taken e h =
          ⊎_elim
          (λ (c : 1 ≤ count e (borders s)).
          clear_named (borders s) b.states e (omega (arith, r.states_long)) c
          ∙ sym (not_decided n given (whole M) e (sound_all.free e (omega (arith, count_both (whole M) s e))) (omega (arith, count_both (whole M) s e, sound_all.once e))))
          (λ (c : count e (borders s) < 1).
          let z : count e (borders s) ≡ 0 = omega arith in
          clear_other (borders s) b.states e z
          ∙ r.stands e h ∙ ap (λ l. standing given l e) parts ∙ standing_same n given (whole M ++ s) (whole M) e (state_front (whole M) s e (not_named s e z)))
          (le_or_lt 1 (count e (borders s)))

      taken_reached : Reached n given M (taken b)
      taken_reached =
          let at = length (whole M) in
          let to_end : at ≤ b.len = omega (arith, len_more) in
          let in_place : b.len ≤ length b.names = omega (arith, len_le, r.names_long) in
          rw (start, last_are)
          record {
            states_long = rw (clear_length (borders s) b.states) r.states_long;
            names_long = rw (length-sets b.names at (replicate (b.len - at) 0)) r.names_long;
            full = λ x m. r.full x (rw split (in_front x M s m));
            sound = sound_front n given (whole M) s sound_all;
            stands = stands_taken;
            names_are = freed_front b.names at b.len to_end in_place
                ∙ sym (take-take at b.len b.names to_end) ∙ ap (take at) names_split ∙ take_at (names_all M) (names_of s) at (all_length M);
            len_is = refl;
            rest_free = freed_rest b.names at b.len to_end in_place r.rest_free;
          }

    reached_placed : (ds : List Decision) → stroke_code n (standing given (whole L)) ds ≡ 0 → Reached n given (added L ds) (placed b ds)
    unfolding added
    reached_placed [] q = rw (placed_empty b) r
    reached_placed (d ∷ ds) q = placed_reached (d ∷ ds) (omega arith) (code_fits n (standing given (whole L)) (d ∷ ds) q)

    -- a call on the book is the same call on the ledger
    pub reached_after : (c : Call) → Reached n given (ledger_after n given L c) (book_after n b c)
    unfolding ledger_after book_after
    reached_after (stroke ds) =
        ⊎_elim
        (λ (q : stroke_code n (standing given (whole L)) ds ≡ 0). rw (same_code ds, q) (reached_placed ds q))
        (λ (q : stroke_code n (standing given (whole L)) ds ≢ 0). rw (same_code ds, ne_eqb (stroke_code n (standing given (whole L)) ds) 0 q) r)
        (eq_or_ne (stroke_code n (standing given (whole L)) ds) 0)
    reached_after undo =
        ⊎_elim
        (λ (k : length L ≤ 0).
        let none : b.len ≡ 0 = r.len_is ∙ ap (λ m. length (whole m)) (no_strokes L k) in
        rw (eq-eqb b.len 0 none, let q : length L - 1 ≡ length L = omega arith in q, take-length L) r)
        (λ (k : 0 < length L).
        let o = split_last L k in
        let q : take (length L - 1) L ≡ o.0 = ap (λ m. take (length m - 1) m) o.2 ∙ without_last o.0 o.1 in
        let some : b.len ≢ 0 = λ z. omega (arith, r.len_is, some_decision L r.full k) in
        rw (q, ne_eqb b.len 0 some) (taken_reached o.0 o.1 o.2))
        (le_or_lt (length L) 0)
      where
        no_strokes : (L : List (List Decision)) → length L ≤ 0 → L ≡ []
        no_strokes [] k = refl
        no_strokes (x ∷ L) k = absurd (omega arith)
    reached_after ask = r

    -- an undo after an accepted stroke that is not empty: accepted, and the very book is there again
    pub undo_placed : (d : Decision) (ds : List Decision) → undo_code (placed b (d ∷ ds)).len ≡ 0
    undo_placed d ds = rw (ne_eqb (b.len + length (d ∷ ds)) 0 (let z : b.len + suc (length ds) ≢ 0 = λ q. omega arith in z))

    pub undo_stroke : (d : Decision) (ds : List Decision) → stroke_code n (state_at b.states) (d ∷ ds) ≡ 0 → taken (placed b (d ∷ ds)) ≡ b
    undo_stroke d ds z = taken_placed (d ∷ ds) (omega arith) (code_fits n (standing given (whole L)) (d ∷ ds) (sym (same_code (d ∷ ds)) ∙ z))

  pub reached_run : (L : List (List Decision)) (b : Book) → Reached n given L b → (cs : List Call) → Reached n given (ledger_of n given L cs) (run n b cs)
  unfolding run ledger_of
  reached_run L b r [] = r
  reached_run L b r (c ∷ cs) = reached_run (ledger_after n given L c) (book_after n b c) (reached_after L b r c) cs

  -- THE THEOREM, from a fresh book: its states are those of the given walls
  module _ (s : List ℕ) (a : n ≤ length s) (m : n ≤ most_borders) (f : (e : ℕ) → e < n → get_or s e 0 ≡ pick (given e) 2 0) where
    pub reached_fresh : Reached n given [] (fresh_book s)
    unfolding standing state_in whole names_all
    reached_fresh =
        record {
          states_long = a;
          names_long = omega (arith, zeros_length);
          full = λ s m. absurd m;
          sound = sound_empty n given;
          stands = f;
          names_are = refl;
          len_is = refl;
          rest_free = λ i k. zero_at i;
        }

    pub reached : (cs : List Call) → Reached n given (ledger_of n given [] cs) (run n (fresh_book s) cs)
    reached cs = reached_run [] (fresh_book s) reached_fresh cs

    pub states_stand : (cs : List Call) (e : ℕ) → e < n → get_or (run n (fresh_book s) cs).states e 0 ≡ standing given (whole (ledger_of n given [] cs)) e
    states_stand cs e h = (reached cs).stands e h

    pub run_holds : (cs : List Call) → book_holds n given (run n (fresh_book s) cs) ≡ true
    run_holds cs = reached_holds (ledger_of n given [] cs) (run n (fresh_book s) cs) (reached cs)

-- from a book of zeros, where no border is given
pub reached_lone : (n : ℕ) → n ≤ most_borders → (cs : List Call) → Reached n none_given (ledger_of n none_given [] cs) (run n (fresh_book zeros) cs)
reached_lone n few = reached n none_given zeros (omega (arith, zeros_length)) few (λ e h. zero_at e)

-- A RECORD R AROUND A BOOK, a board, a puzzle or a room graph: the number of its own questions, 1 and 2, hangs on its book alone, and a call answers a
-- number and the record, with another book where that is 0
pub record Around (R D : Type 0) (n : ℕ) (given : ℕ → Bool) : Type 0 where
  pub around : Book → R
  pub code : R → ℕ
  pub answer : ℕ → R → D
  pub ready : (b : Book) → book_holds n given b ≡ true → code (around b) ≡ 0

module _ {R D : Type 0} {n : ℕ} {given : ℕ → Bool} (a : Around R D n given) where
  abbrev pub answered : Book → ℕ → Book → D
  answered b k b' = let q = first_code (a.code (a.around b)) k in pick (eqb q 0) (a.answer 0 (a.around b')) (a.answer q (a.around b))

  -- a call on the record is the same call on its book
  pub told : (L : List (List Decision)) (b : Book) → Reached n given L b → (k : ℕ) (b' : Book) → answered b k b' ≡ a.answer k (a.around (pick (eqb k 0) b' b))
  told L b r k b' = rw (a.ready b (reached_holds n given L b r)) (⊎_elim (λ (p : k ≡ 0). rw p) (λ (p : k ≢ 0). rw (ne_eqb k 0 p)) (eq_or_ne k 0))

  -- an undo after an accepted stroke that is not empty gives back the very record
  pub told_back : (L : List (List Decision)) (b : Book) → Reached n given L b → (d : Decision) (ds : List Decision) → stroke_code n (state_at b.states) (d ∷ ds) ≡ 0
      → answered (placed b (d ∷ ds)) (undo_code (placed b (d ∷ ds)).len) (taken (placed b (d ∷ ds))) ≡ a.answer 0 (a.around b)
  told_back L b r d ds q =
      let s = stroke (d ∷ ds) in
      let next = rw (after_placed n b (d ∷ ds) q) at (reached_after n given L b r s) in
      told (ledger_after n given L s) (placed b (d ∷ ds)) next _ _ ∙ rw (undo_placed n given L b r d ds, undo_stroke n given L b r d ds q) refl
