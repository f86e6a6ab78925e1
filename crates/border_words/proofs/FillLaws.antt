-- Row words of borders, as they are made one after the other: one turn, and the part of the table where it ends. Assumes nothing.
use Prim.Native.Nat.{ℕ, ◌+◌, ◌-◌, ◌≤◌, ◌<◌}
use mathlib.Core.Path.{◌≡◌, ap, sym, ◌∙◌}
use mathlib.Core.Logic.{inl, inr, ⊎_elim}
use mathlib.Core.List.{List}
use native.Mathlib.Omega.{arith}
use borrow.Author.Tests.{le-ltb, lt-leb}
use borrow.Rule.Slice.PartMut.{put_mid, mid_of}
use lib.Dec.{eqb, leb, ltb}
use lib.ListN.{get_or, length, set, take, drop}
use lib.Seq.{length-sets, get_or-set_same, get_or-set_other}
use Rattle.std.proofs.lemmas.List.{length-take-le, length-drop, get_or-take, get_or-drop}
use Rattle.lists.specs.Choice.{both}
use Rattle.lists.proofs.Cases.{le_or_lt}
use Rattle.lists.proofs.SetsLaws.{sets_in, sets_out, part_written}
use Rattle.words.specs.Words.{Only}
use Rattle.border_words.specs.Filled.{SideWord, Run, Filled}

-- one row more is made
pub row_turn : (word : ℕ → ℕ → Type 0) (words : List ℕ) (y new : ℕ) → y < length words → ((z : ℕ) → z < y → word z (get_or words z 0)) → word y new
    → (z : ℕ) → z < y + 1 → word z (get_or (set words y new) z 0)
row_turn word words y new l w n z k = ⊎_elim (λ (q : y ≤ z). here (omega arith)) (λ (q : z < y). there q) (le_or_lt y z)
  where
    here : z ≡ y → word z (get_or (set words y new) z 0)
    here q = rw (q, get_or-set_same words y new 0 l) n

    there : z < y → word z (get_or (set words y new) z 0)
    there q = rw (get_or-set_other words y z new 0 (λ (e : z ≡ y). omega arith)) (w z q)

-- the rows of a part of the table, which was lent
pub part_filled : (word : ℕ → ℕ → Type 0) (rows at k : ℕ) (words vs : List ℕ) → k ≡ rows → at + rows ≤ length words → length vs ≡ length (mid_of at k words)
    → ((y : ℕ) → y < rows → y < length (mid_of at k words) → word y (get_or vs y 0)) → Filled word rows at words (put_mid at k words vs)
part_filled word rows at k words vs e room long w =
    let part : length (mid_of at k words) ≡ k = length-take-le k (drop at words) (omega (arith, length-drop at words, e, room)) in
    let size : length vs ≡ rows = long ∙ part ∙ e in
    rw (part_written words vs at k (e ∙ sym size) (omega (arith, size, room)))
    record {
      made = λ y h. rw (sets_in vs words at y (omega (arith, size, room)) (omega (arith, size, h))) (w y h (omega (arith, part, e, h)));
      before = λ z h. sets_out vs words at z (inl h);
      behind = λ z h. sets_out vs words at z (inr (omega (arith, size, h)));
      long = length-sets words at vs;
    }

-- a row of the states behind the first `from`
pub behind_word : (from start len : ℕ) (states : List ℕ) (k word : ℕ) → SideWord start len (drop from states) k word → SideWord (from + start) len states k word
behind_word from start len states k word b j =
    b j
    ∙ ap (λ t. both (leb 32 j) (both (ltb j (32 + len)) (eqb t k)))
    (get_or-drop from states (start + (j - 32)) 0 ∙ (let e : from + (start + (j - 32)) ≡ from + start + (j - 32) = omega arith in ap (λ i. get_or states i 0) e))

-- a row of the first `count` states
pub front_word : (count start len : ℕ) (states : List ℕ) (k word : ℕ) → start + len ≤ count → SideWord start len (take count states) k word → SideWord start len states k word
front_word count start len states k word h b j =
    b j
    ∙ ⊎_elim
    (λ (m : 32 + len ≤ j). rw (le-ltb j (32 + len) m))
    (λ (m : j < 32 + len).
    ⊎_elim
    (λ (q : 32 ≤ j). ap (λ t. both (leb 32 j) (both (ltb j (32 + len)) (eqb t k))) (get_or-take count states (start + (j - 32)) 0 (omega arith)))
    (λ (q : j < 32). rw (lt-leb 32 j q))
    (le_or_lt 32 j))
    (le_or_lt (32 + len) j)

-- the states of a run, cut out of all: their word is the run's
module _ {from count : ℕ} {states : List ℕ} (r : Run from count states) where
  abbrev cut : List ℕ
  cut = take (from + count - from) (drop from states)

  cut_long : length cut ≡ count
  cut_long = length-take-le (from + count - from) (drop from states) (omega (arith, length-drop from states, r.states_long)) ∙ (let e : from + count - from ≡ count = omega arith in e)

  cut_at : (x : ℕ) → x < count → get_or cut x 0 ≡ get_or states (from + x) 0
  cut_at x h = get_or-take (from + count - from) (drop from states) x 0 (omega arith) ∙ get_or-drop from states x 0

  pub cut_word : (k word : ℕ) → Only (length cut) (λ x. eqb (get_or cut x 0) k) word → SideWord from count states k word
  cut_word k word b j =
      b j
      ∙ rw cut_long
      (⊎_elim
      (λ (h : 32 ≤ j).
      ⊎_elim
      (λ (m : 32 + count ≤ j). rw (le-ltb j (32 + count) m))
      (λ (m : j < 32 + count). rw (cut_at (j - 32) (omega arith)))
      (le_or_lt (32 + count) j))
      (λ (h : j < 32). rw (lt-leb 32 j h))
      (le_or_lt 32 j))
