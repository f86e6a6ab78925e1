-- What decisions are like that name no border twice, put together or apart; and that states which follow them and names of theirs hold together. Assumes nothing.
use Prim.Native.Nat.{ℕ, ◌+◌, ◌≤◌, ◌<◌}
use mathlib.Core.Path.{◌≡◌, refl, ap, sym, ◌∙◌}
use mathlib.Core.Logic.{◌⊎◌, inl, inr, ◌≢◌, ⊎_elim}
use mathlib.Core.Bool.{Bool, true, false, not, true≢false}
use mathlib.Core.List.{List, [], ◌∷◌, ◌++◌}
use native.Mathlib.Omega.{arith}
use borrow.Author.Tests.{ne_eqb}
use lib.Dec.{eqb}
use lib.ListN.{length, get_or, length-map}
use Rattle.lists.specs.Choice.{both, pick}
use Rattle.lists.specs.Lists.{count}
use Rattle.lists.proofs.Cases.{true_or_false}
use Rattle.lists.proofs.CountLaws.{count_append, in_count, distinct_le}
use Rattle.ledger.specs.Ledger.{Decision, state_for, state_in, standing, borders, holds_of}
use Rattle.ledger.proofs.Question.{question_holds}

-- decisions over n borders name none twice, none that is given, none that does not exist
pub record Sound (n : ℕ) (given : ℕ → Bool) (l : List Decision) : Type 0 where
  pub once : (e : ℕ) → count e (borders l) ≤ 1
  pub inside : (e : ℕ) → 1 ≤ count e (borders l) → e < n
  pub free : (e : ℕ) → 1 ≤ count e (borders l) → given e ≡ false

pub state_le : (wall : Bool) → (1 ≤ state_for wall) × (state_for wall ≤ 2)
state_le true = omega arith
state_le false = omega arith

-- decisions give a state exactly to the borders that they name
pub named_or_not : (l : List Decision) (e : ℕ) → ((count e (borders l) ≡ 0) × (state_in l e ≡ 0)) ⊎ ((1 ≤ count e (borders l)) × (1 ≤ state_in l e) × (state_in l e ≤ 2))
unfolding count state_in
named_or_not [] e = inl (refl, refl)
named_or_not (d ∷ l) e = go (eqb d.border e) refl (named_or_not l e)
  where
    go : (t : Bool) → eqb d.border e ≡ t
        → ((count e (borders l) ≡ 0) × (state_in l e ≡ 0)) ⊎ ((1 ≤ count e (borders l)) × (1 ≤ state_in l e) × (state_in l e ≤ 2))
        → ((pick (eqb d.border e) 1 0 + count e (borders l) ≡ 0) × (pick (eqb d.border e) (state_for d.wall) (state_in l e) ≡ 0)) ⊎ ((1 ≤ pick (eqb d.border e) 1 0 + count e (borders l)) × (1 ≤ pick (eqb d.border e) (state_for d.wall) (state_in l e)) × (pick (eqb d.border e) (state_for d.wall) (state_in l e) ≤ 2))
    go true q k = rw q (inr (omega arith, (state_le d.wall).0, (state_le d.wall).1))
    go false q (inl k) = rw q (inl (omega arith, k.1))
    go false q (inr k) = rw q (inr (omega arith, k.1, k.2))

pub not_named : (l : List Decision) (e : ℕ) → count e (borders l) ≡ 0 → state_in l e ≡ 0
not_named l e z = ⊎_elim (λ k. k.1) (λ k. absurd (omega (arith, k.0))) (named_or_not l e)

pub no_state : (l : List Decision) (e : ℕ) → state_in l e ≡ 0 → count e (borders l) ≡ 0
no_state l e z = ⊎_elim (λ k. k.0) (λ k. absurd (omega (arith, k.1))) (named_or_not l e)

pub borders_append : (a b : List Decision) → borders (a ++ b) ≡ borders a ++ borders b
borders_append [] b = refl
borders_append (x ∷ a) b = ap (λ m. x.border ∷ m) (borders_append a b)

-- a count over decisions put together
pub count_both : (a b : List Decision) (e : ℕ) → count e (borders (a ++ b)) ≡ count e (borders a) + count e (borders b)
count_both a b e = ap (count e) (borders_append a b) ∙ count_append e (borders a) (borders b)

-- a state over decisions put together
pub state_behind : (a b : List Decision) (e : ℕ) → state_in a e ≡ 0 → state_in (a ++ b) e ≡ state_in b e
unfolding state_in
state_behind [] b e z = refl
state_behind (x ∷ a) b e z =
    ⊎_elim
    (λ (q : eqb x.border e ≡ true). absurd (let h : state_for x.wall ≡ 0 = rw q at z in omega (arith, (state_le x.wall).0)))
    (λ (q : eqb x.border e ≡ false). rw q (state_behind a b e (rw q at z)))
    (true_or_false (eqb x.border e))

pub state_front : (a b : List Decision) (e : ℕ) → state_in b e ≡ 0 → state_in (a ++ b) e ≡ state_in a e
unfolding state_in
state_front [] b e z = z
state_front (x ∷ a) b e z = ap (pick (eqb x.border e) (state_for x.wall)) (state_front a b e z)

module _ (n : ℕ) (given : ℕ → Bool) where
  pub sound_empty : Sound n given []
  unfolding count
  sound_empty = record { once = λ e. omega arith; inside = λ e h. omega arith; free = λ e h. absurd (let z : 1 ≤ 0 = h in omega arith) }

  pub standing_named : (l : List Decision) (e : ℕ) → given e ≡ false → standing given l e ≡ state_in l e
  unfolding standing
  standing_named l e q = rw q

  pub standing_given : (l : List Decision) (e : ℕ) → given e ≡ true → standing given l e ≡ 2
  unfolding standing
  standing_given l e q = rw q

  -- what is undecided is neither given nor named, and back
  pub undecided : (l : List Decision) (e : ℕ) → standing given l e ≡ 0 → (given e ≡ false) × (count e (borders l) ≡ 0)
  unfolding standing
  undecided l e = go (given e) refl
    where
      go : (t : Bool) → given e ≡ t → pick t 2 (state_in l e) ≡ 0 → (given e ≡ false) × (count e (borders l) ≡ 0)
      go true p k = absurd (omega arith)
      go false p k = (p, no_state l e k)

  pub not_decided : (l : List Decision) (e : ℕ) → given e ≡ false → count e (borders l) ≡ 0 → standing given l e ≡ 0
  not_decided l e g z = standing_named l e g ∙ not_named l e z

  -- the standing borders by the decisions' states alone
  pub standing_same : (a b : List Decision) (e : ℕ) → state_in a e ≡ state_in b e → standing given a e ≡ standing given b e
  unfolding standing
  standing_same a b e q = ap (pick (given e) 2) q

  -- sound decisions are at most as many as there are borders
  pub sound_length : (l : List Decision) → Sound n given l → length l ≤ n
  sound_length l s =
      let k = distinct_le n (borders l) (λ x m. s.inside x (in_count x (borders l) m)) (λ x m. s.once x) in
      simp length-map at k

  pub sound_front : (a b : List Decision) → Sound n given (a ++ b) → Sound n given a
  sound_front a b s =
      record {
        once = λ e. omega (arith, count_both a b e, s.once e);
        inside = λ e h. s.inside e (omega (arith, count_both a b e));
        free = λ e h. s.free e (omega (arith, count_both a b e));
      }

  -- states of sound decisions, and their borders, hold together
  module _ (s l : List ℕ) (L : List Decision) (sound : Sound n given L) (stands : (e : ℕ) → e < n → get_or s e 0 ≡ standing given L e) (names : l ≡ borders L) where
    standing_le : (e : ℕ) → standing given L e ≤ 2
    standing_le e =
        ⊎_elim
        (λ (g : given e ≡ true). rw (standing_given L e g) (omega arith))
        (λ (g : given e ≡ false). rw (standing_named L e g) (⊎_elim (λ k. omega (arith, k.1)) (λ k. k.2) (named_or_not L e)))
        (true_or_false (given e))

    counted : (e : ℕ) → e < n → count e (borders L) ≡ pick (both (not (given e)) (not (eqb (get_or s e 0) 0))) 1 0
    counted e h =
        ⊎_elim
        (λ (g : given e ≡ true).
        rw g
        (⊎_elim (λ k. k.0) (λ k. absurd (true≢false (sym g ∙ sound.free e k.0))) (named_or_not L e)))
        (λ (g : given e ≡ false).
        rw (g, stands e h, standing_named L e g)
        (⊎_elim
        (λ k. rw k.1 k.0)
        (λ k. rw (ne_eqb (state_in L e) 0 (let z : state_in L e ≢ 0 = λ q. omega (arith, k.1) in z)) (omega (arith, k.0, sound.once e)))
        (named_or_not L e)))
        (true_or_false (given e))

    pub holds_together : holds_of n given s l ≡ true
    holds_together =
        question_holds n given s l
        record {
          inside = λ e m. sound.inside e (rw names at (in_count e l m));
          kept = λ e h.
              record {
                state = rw (stands e h) (standing_le e);
                counted = rw names (counted e h);
                wall =
                    ⊎_elim
                    (λ (g : given e ≡ true). rw (g, stands e h, standing_given L e g))
                    (λ (g : given e ≡ false). rw g)
                    (true_or_false (given e));
              };
        }
