-- Two questions in their order, a law for each number of a stroke, and a decide as a stroke of one. Assumes nothing.
use Prim.Native.Nat.{ℕ, ◌/◌, ◌%◌, ◌≤◌, ◌<◌}
use mathlib.Core.Path.{◌≡◌, refl, ap}
use mathlib.Core.Logic.{◌⊎◌, inl, inr, ◌≢◌, ⊎_elim}
use mathlib.Core.Bool.{Bool, true, false}
use mathlib.Core.List.{List, [], ◌∷◌}
use native.Mathlib.Omega.{arith}
use borrow.Author.Tests.{eqb-true, eqb-false, eq-eqb, ne_eqb, le-ltb}
use lib.Dec.{eqb, ltb}
use Rattle.limits.specs.Limits.{most_borders}
use Rattle.lists.specs.Choice.{both, pick}
use Rattle.lists.specs.Lists.{all, count}
use Rattle.lists.proofs.Cases.{le_or_lt, eq_or_ne}
use Rattle.ledger.specs.Ledger.{Decision, decisions, single, borders, all_exist, none_twice, all_free, stroke_code, first_code}
use Rattle.ledger.specs.declared.Book.{Book}
use Rattle.ledger.specs.Books.{state_at, placed}
use Rattle.ledger.specs.Marks.{Entry}

-- the first of two questions refuses, or the second is put
pub first_stops : (code next : ℕ) → code ≢ 0 → first_code code next ≡ code
first_stops code next z = rw (ne_eqb code 0 z)

pub first_passes : (code next : ℕ) → code ≡ 0 → first_code code next ≡ next
first_passes code next z = rw z

-- two questions that accept
pub clear_both : (code next : ℕ) → first_code code next ≡ 0 → (code ≡ 0) × (next ≡ 0)
clear_both code next = go (eqb code 0) refl
  where
    go : (t : Bool) → eqb code 0 ≡ t → pick t next code ≡ 0 → (code ≡ 0) × (next ≡ 0)
    go true p z = (eqb-true code 0 p, z)
    go false p z = absurd (eqb-false code 0 p z)

-- a stroke by its questions
module _ (n : ℕ) (state : ℕ → ℕ) (ds : List Decision) where
  pub not_there : all_exist n ds ≡ false → 3 ≡ stroke_code n state ds
  unfolding stroke_code
  not_there p = rw p

  module _ (p : all_exist n ds ≡ true) where
    pub there_twice : none_twice (borders ds) ≡ false → 14 ≡ stroke_code n state ds
    unfolding stroke_code
    there_twice q = rw (p, q)

    module _ (q : none_twice (borders ds) ≡ true) where
      pub not_free : all_free state ds ≡ false → 4 ≡ stroke_code n state ds
      unfolding stroke_code
      not_free r = rw (p, q, r)

      pub no_refusal : all_free state ds ≡ true → 0 ≡ stroke_code n state ds
      unfolding stroke_code
      no_refusal r = rw (p, q, r)

-- an empty stroke is accepted
pub empty_code : (n : ℕ) (state : ℕ → ℕ) → stroke_code n state [] ≡ 0
unfolding stroke_code all none_twice
empty_code n state = refl

-- A SINGLE DECIDE is a stroke of one: questions 3 and 4
pub single_code : (n : ℕ) (state : ℕ → ℕ) (e : ℕ) (wall : Bool) → stroke_code n state (single e wall) ≡ pick (ltb e n) (pick (eqb (state e) 0) 0 4) 3
unfolding stroke_code all none_twice count
single_code n state e wall = rw (eq-eqb e e refl) (go (ltb e n) (eqb (state e) 0))
  where
    go : (a b : Bool) → ◌≡◌ {A = ℕ} (pick (both a true) (pick (both b true) 0 4) 3) (pick a (pick b 0 4) 3)
    go true true = refl
    go true false = refl
    go false b = refl

-- the entry of a decide stands for it in a stroke of one: the same decision, or both are refused 3
pub as_entry : (n : ℕ) (state : ℕ → ℕ) (e : ℕ) (wall : Bool) (x : ℕ) → n ≤ most_borders → Entry e wall x
    → (decisions (x ∷ []) ≡ single e wall) ⊎ ((stroke_code n state (decisions (x ∷ [])) ≡ 3) × (stroke_code n state (single e wall) ≡ 3))
as_entry n state e wall x few k =
    ⊎_elim
    (λ (h : most_borders ≤ e). inr (missing (x / 2) (eqb (x % 2) 1) (omega (arith, k.above h)), missing e wall (omega arith)))
    (λ (h : e < most_borders). inl (rw (k.below h)))
    (le_or_lt most_borders e)
  where
    missing : (e : ℕ) (wall : Bool) → n ≤ e → stroke_code n state (single e wall) ≡ 3
    missing e wall h = rw (single_code n state e wall, le-ltb e n h)

-- a call by its number and the book that it leaves: where the number refuses, the book does not count
module _ {D : Type 0} (f : ℕ → Book → D) (refused : (c : ℕ) → c ≢ 0 → (k m : Book) → f c k ≡ f c m) where
  -- the stroke of a decide's entry answers what the decide does; `code` is that of questions 1 and 2
  pub as_decide : (code n : ℕ) (b : Book) (e : ℕ) (wall : Bool) (x : ℕ) → (code ≡ 0 → n ≤ most_borders) → Entry e wall x
      → f (first_code code (stroke_code n (state_at b.states) (decisions (x ∷ [])))) (placed b (decisions (x ∷ [])))
      ≡ f (first_code code (stroke_code n (state_at b.states) (single e wall))) (placed b (single e wall))
  as_decide code n b e wall x few k =
      let state = state_at b.states in
      let one = decisions (x ∷ []) in
      ⊎_elim
      (λ (z : code ≡ 0).
      ⊎_elim
      (λ (q : one ≡ single e wall). ap (λ ds. f (first_code code (stroke_code n state ds)) (placed b ds)) q)
      (λ (q : (stroke_code n state one ≡ 3) × (stroke_code n state (single e wall) ≡ 3)).
      rw (z, q.0, q.1) (refused 3 (λ p. omega arith) (placed b one) (placed b (single e wall))))
      (as_entry n state e wall x (few z) k))
      (λ (z : code ≢ 0).
      rw (first_stops code (stroke_code n state one) z, first_stops code (stroke_code n state (single e wall)) z) (refused code z (placed b one) (placed b (single e wall))))
      (eq_or_ne code 0)
