-- Question 2 of a ledger as facts, both ways. Assumes nothing.
use Prim.Native.Nat.{ℕ, ◌≤◌, ◌<◌}
use mathlib.Core.Path.{◌≡◌}
use mathlib.Core.Bool.{Bool, true, false, not}
use mathlib.Core.List.{List}
use native.Mathlib.Omega.{arith}
use borrow.Author.Tests.{eqb-true, eq-eqb, leb-true, le-leb, ltb-true, lt-ltb}
use lib.Dec.{eqb, ltb}
use lib.ListN.{get_or}
use Rattle.lists.specs.Choice.{both, pick}
use Rattle.lists.specs.Lists.{range, In, count, all}
use Rattle.lists.proofs.ChoiceLaws.{both_true, true_both}
use Rattle.lists.proofs.ListLaws.{all_true, true_all, range_in, in_range}
use Rattle.ledger.specs.Ledger.{state_ok, named_once, given_wall, holds_of}

-- how often the ledger is to name a border
abbrev pub due_of : (ℕ → Bool) → List ℕ → ℕ → ℕ
due_of given s e = pick (both (not (given e)) (not (eqb (get_or s e 0) 0))) 1 0

pub due_le : (given : ℕ → Bool) (s : List ℕ) (e : ℕ) → due_of given s e ≤ 1
due_le given s e = go (both (not (given e)) (not (eqb (get_or s e 0) 0)))
  where
    go : (t : Bool) → pick t 1 0 ≤ 1
    go true = omega arith
    go false = omega arith

-- a test of all that holds at each of the n places
pub over : (n : ℕ) (p : ℕ → Bool) → ((e : ℕ) → e < n → p e ≡ true) → all p (range n) ≡ true
over n p q = true_all p (range n) (λ e i. q e (in_range n e i))

-- what question 2 says of one border
pub record Kept (given : ℕ → Bool) (s l : List ℕ) (e : ℕ) : Type 0 where
  pub state : get_or s e 0 ≤ 2
  pub counted : count e l ≡ due_of given s e
  pub wall : given_wall given s e ≡ true

pub record Question (n : ℕ) (given : ℕ → Bool) (s l : List ℕ) : Type 0 where
  pub inside : (e : ℕ) → In e l → e < n
  pub kept : (e : ℕ) → e < n → Kept given s l e

module _ (n : ℕ) (given : ℕ → Bool) (s l : List ℕ) where
  states : Bool
  states = all (state_ok s) (range n)

  inner : Bool
  inner = all (λ e. ltb e n) l

  names : Bool
  names = all (named_once given s l) (range n)

  walls : Bool
  walls = all (given_wall given s) (range n)

  pub holds_question : holds_of n given s l ≡ true → Question n given s l
  unfolding holds_of states names walls inner
  holds_question q =
      let a = both_true states (both (both inner names) walls) q in
      let b = both_true (both inner names) walls a.1 in
      let c = both_true inner names b.0 in
      record {
        inside = λ e i. ltb-true e n (all_true (λ x. ltb x n) l c.0 e i);
        kept = λ e h.
            record {
              state = leb-true (get_or s e 0) 2 (all_true (state_ok s) (range n) a.0 e (range_in n e h));
              counted = eqb-true _ _ (all_true (named_once given s l) (range n) c.1 e (range_in n e h));
              wall = all_true (given_wall given s) (range n) b.1 e (range_in n e h);
            };
      }

  pub question_holds : Question n given s l → holds_of n given s l ≡ true
  unfolding holds_of
  question_holds q =
      true_both _ _ (over n (state_ok s) (λ e h. le-leb (get_or s e 0) 2 (q.kept e h).state))
      (true_both _ _
      (true_both _ _ (true_all _ l (λ e i. lt-ltb e n (q.inside e i))) (over n (named_once given s l) (λ e h. eq-eqb _ _ (q.kept e h).counted)))
      (over n (given_wall given s) (λ e h. (q.kept e h).wall)))
