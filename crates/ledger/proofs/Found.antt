-- Question 2 read back: a book that holds together has sound decisions, its names with their states; so an accepted stroke has room, and the last
-- stroke's names are borders. Assumes nothing.
use Prim.Native.Nat.{ℕ, ◌+◌, ◌≤◌, ◌<◌}
use mathlib.Core.Path.{◌≡◌, refl, ap, sym, ◌∙◌}
use mathlib.Core.Logic.{◌≢◌, ⊎_elim}
use mathlib.Core.Bool.{Bool, true, false, not}
use mathlib.Core.List.{List, [], ◌∷◌, ◌++◌, map}
use native.Mathlib.Omega.{arith}
use borrow.Author.Tests.{eqb-true, eqb-false, eq-eqb, ne_eqb, leb-true}
use lib.Dec.{eqb, leb}
use lib.ListN.{length, get_or, take, length-map, length-append, get_or-map}
use lib.Seq.{get_or-take, length-take-le}
use Rattle.limits.specs.Limits.{most_borders}
use Rattle.lists.specs.Choice.{both, pick}
use Rattle.lists.specs.Lists.{count}
use Rattle.lists.proofs.Cases.{le_or_lt, eq_or_ne, true_or_false}
use Rattle.lists.proofs.ChoiceLaws.{both_true}
use Rattle.lists.proofs.ListLaws.{get_d_in}
use Rattle.lists.proofs.CountLaws.{count_in}
use Rattle.ledger.specs.declared.Book.{Book}
use Rattle.ledger.specs.Ledger.{Decision, decision_of, decisions, state_for, state_in, standing, borders, all_exist, stroke_code, holds_of}
use Rattle.ledger.specs.Books.{half, names_in, state_at, first_starts, book_holds, start_of}
use Rattle.ledger.specs.Marks.{Named}
use Rattle.ledger.specs.Moves.{Held, HeldBook}
use Rattle.ledger.proofs.Question.{Question, due_of, due_le, holds_question}
use Rattle.ledger.proofs.Standing.{Sound, not_named, standing_named, standing_given, sound_length}
use Rattle.ledger.proofs.Strokes.{exist_more, questions, code_fits, fits_same, sound_stroke}
use Rattle.ledger.proofs.NameLaws.{start_le}

-- the names with their states
unfoldable pub decisions_in : List ℕ → List ℕ → List Decision
decisions_in s l = map (λ e. record { border = e; wall = eqb (get_or s e 0) 2 }) l

pub borders_in_lem : (s l : List ℕ) → borders (decisions_in s l) ≡ l
unfolding decisions_in
borders_in_lem s [] = refl
borders_in_lem s (e ∷ l) = ap (λ m. e ∷ m) (borders_in_lem s l)

state_in_lem : (s l : List ℕ) (e : ℕ) → 1 ≤ count e l → state_in (decisions_in s l) e ≡ state_for (eqb (get_or s e 0) 2)
unfolding decisions_in state_in count
state_in_lem s [] e h = absurd (omega arith)
state_in_lem s (x ∷ l) e h =
    ⊎_elim
    (λ (q : x ≡ e). rw (eq-eqb x e q, q))
    (λ (q : x ≢ e). let t = ne_eqb x e q in rw t (state_in_lem s l e (omega (arith, (rw t at h)))))
    (eq_or_ne x e)

value : (x : ℕ) → 1 ≤ x → x ≤ 2 → x ≡ state_for (eqb x 2)
value x a b =
    ⊎_elim
    (λ (q : x ≡ 2). rw q)
    (λ (q : x ≢ 2). rw (ne_eqb x 2 q) (omega arith))
    (eq_or_ne x 2)

module _ (n : ℕ) (given : ℕ → Bool) (s l : List ℕ) (k : Question n given s l) where
  due_free : (e : ℕ) → 1 ≤ due_of given s e → (given e ≡ false) × (get_or s e 0 ≢ 0)
  due_free e = go (given e) refl (eqb (get_or s e 0) 0) refl
    where
      go : (t : Bool) → given e ≡ t → (u : Bool) → eqb (get_or s e 0) 0 ≡ u → 1 ≤ pick (both (not t) (not u)) 1 0 → (given e ≡ false) × (get_or s e 0 ≢ 0)
      go true p u q h = absurd (let z : 1 ≤ 0 = h in omega arith)
      go false p true q h = absurd (let z : 1 ≤ 0 = h in omega arith)
      go false p false q h = (p, eqb-false _ _ q)

  none_due : (e : ℕ) → given e ≡ false → due_of given s e ≡ 0 → get_or s e 0 ≡ 0
  none_due e g z =
      ⊎_elim
      (λ (q : get_or s e 0 ≡ 0). q)
      (λ (q : get_or s e 0 ≢ 0). absurd (let o : ◌≡◌ {A = ℕ} 1 0 = sym (rw (g, ne_eqb (get_or s e 0) 0 q)) ∙ z in omega arith))
      (eq_or_ne (get_or s e 0) 0)

  named : (e : ℕ) → 1 ≤ count e l → e < n
  named e h = k.inside e (count_in e l h)

  once_in : (e : ℕ) → count e l ≤ 1
  once_in e =
      ⊎_elim
      (λ (h : 1 ≤ count e l). rw (k.kept e (named e h)).counted (due_le given s e))
      (λ (h : count e l < 1). omega arith)
      (le_or_lt 1 (count e l))

  free_in : (e : ℕ) → 1 ≤ count e l → given e ≡ false
  free_in e h = (due_free e (rw (k.kept e (named e h)).counted at h)).0

  pub sound_in : Sound n given (decisions_in s l)
  sound_in =
      record {
        once = λ e. rw (borders_in_lem s l) (once_in e);
        inside = λ e h. named e (rw (borders_in_lem s l) at h);
        free = λ e h. free_in e (rw (borders_in_lem s l) at h);
      }

  pub stands_in : (e : ℕ) → e < n → get_or s e 0 ≡ standing given (decisions_in s l) e
  stands_in e h =
      let K = k.kept e h in
      ⊎_elim
      (λ (g : given e ≡ true). sym (standing_given n given (decisions_in s l) e g ∙ sym (eqb-true (get_or s e 0) 2 (rw g at K.wall))))
      (λ (g : given e ≡ false).
      rw (standing_named n given (decisions_in s l) e g)
      (⊎_elim
      (λ (c : 1 ≤ count e l).
      let d = due_free e (rw K.counted at c) in
      value (get_or s e 0) (let o : 1 ≤ get_or s e 0 = omega (arith, d.1) in o) K.state ∙ sym (state_in_lem s l e c))
      (λ (c : count e l < 1).
      let z : count e l ≡ 0 = omega arith in
      none_due e g (sym K.counted ∙ z) ∙ sym (not_named (decisions_in s l) e (rw (borders_in_lem s l) z)))
      (le_or_lt 1 (count e l))))
      (true_or_false (given e))

-- what question 2 says of a book
module _ (n : ℕ) (given : ℕ → Bool) (b : Book) (q : book_holds n given b ≡ true) where
  pub held : (b.len ≤ n) × (first_starts b.names b.len ≡ true) × (holds_of n given b.states (names_in b) ≡ true)
  unfolding book_holds
  held =
      let k = both_true (leb b.len n) (both (first_starts b.names b.len) (holds_of n given b.states (names_in b))) q in
      let m = both_true (first_starts b.names b.len) (holds_of n given b.states (names_in b)) k.1 in
      (leb-true b.len n k.0, m.0, m.1)

  pub question : Question n given b.states (names_in b)
  question = holds_question n given b.states (names_in b) held.2

-- the arrays of a book, and the borders that they are for
pub record Places (n : ℕ) (b : Book) : Type 0 where
  pub few : n ≤ most_borders
  pub states_are : length b.states ≡ most_borders
  pub names_are : length b.names ≡ most_borders

-- an accepted stroke, given by its entries, has its places
pub record Placeable (b : Book) (es : List ℕ) : Type 0 where
  pub exist : all_exist most_borders (decisions es) ≡ true
  pub fits : b.len + length es ≤ most_borders

as_many : (es : List ℕ) → length (decisions es) ≡ length es
as_many es = length-map es decision_of

-- the last stroke's names are there
pub record Takeable (b : Book) : Type 0 where
  pub names : Named b.names (start_of b.names b.len) b.len
  pub len_fits : b.len ≤ most_borders

module _ (n : ℕ) (given : ℕ → Bool) (b : Book) (q : book_holds n given b ≡ true) (p : Places n b) where
  size : length (names_in b) ≡ b.len
  size = simp length-map (length-take-le b.len b.names (omega (arith, (held n given b q).0, p.few, p.names_are)))

  pub placeable : (es : List ℕ) → stroke_code n (state_at b.states) (decisions es) ≡ 0 → Placeable b es
  placeable es z =
      let ds = decisions es in
      let l = decisions_in b.states (names_in b) in
      let k = question n given b q in
      let f = fits_same n (state_at b.states) (standing given l) ds (stands_in n given b.states (names_in b) k) (code_fits n (state_at b.states) ds z) in
      let more = sound_stroke n given l ds (sound_in n given b.states (names_in b) k) f in
      let named : length l ≡ b.len = sym (simp length-map) ∙ ap length (borders_in_lem b.states (names_in b)) ∙ size in
      let e = (questions n (state_at b.states) ds z).0 in
      record {
        exist = exist_more n most_borders ds p.few e;
        fits = omega (arith, sound_length n given (l ++ ds) more, length-append l ds, named, as_many es, p.few);
      }

  pub takeable : Takeable b
  takeable =
      let len_le = (held n given b q).0 in
      record {
        names =
            record {
              in_turn = start_le b.names b.len;
              long = omega (arith, len_le, p.few, p.names_are);
              places = λ i h.
                  let e : get_or (names_in b) i 0 < n = (question n given b q).inside (get_or (names_in b) i 0) (get_d_in 0 (names_in b) i (let k : i < length (names_in b) = omega (arith, size) in k)) in
                  let g : get_or (names_in b) i 0 ≡ half (get_or b.names i 0) = get_or-map half (take b.len b.names) i 0 ∙ ap half (get_or-take b.len b.names i 0 h) in
                  omega (arith, e, g, p.few);
            };
        len_fits = omega (arith, len_le, p.few);
      }

-- of a book that question 2 accepts, whose arrays are as long as their types say
pub room : (n : ℕ) (b : Book) → Held n b → length b.states ≡ most_borders → length b.names ≡ most_borders → (es : List ℕ) → stroke_code n (state_at b.states) (decisions es) ≡ 0 → Placeable b es
room n b h s l es z = placeable n h.given b h.holds (record { few = h.few; states_are = s; names_are = l }) es z

pub few_names : (b : Book) → HeldBook b → b.len ≤ most_borders
few_names b k = omega (arith, (held k.n k.held.given b k.held.holds).0, k.held.few)

pub last_named : (b : Book) → HeldBook b → length b.states ≡ most_borders → length b.names ≡ most_borders → Named b.names (start_of b.names b.len) b.len
last_named b k s l = (takeable k.n k.held.given b k.held.holds (record { few = k.held.few; states_are = s; names_are = l })).names
