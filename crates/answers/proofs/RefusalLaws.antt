-- What a caller learns from each case of a call that lists, and that no refusal has the number of none. Assumes nothing.
use Rattle.std.proofs.Common.{◌≡◌, ℕ, ◌<◌, List, length, arith}
use Rattle.std.specs.Prelude.{Ok, Err}
use Rattle.answers.specs.declared.Refusal.{Refusal}
use Rattle.answers.specs.declared.Refusal.TheVariants.{Size, Record, Missing, Decided, NothingToUndo, ShortBuffer, Unsorted, ClueCount, LargeClue, NotJoined, UnsoundFile, ManyUndecided, ZeroSeed, Repeated}
use Rattle.answers.specs.Answers.{refused, listed}
use Rattle.answers.specs.Refusals.{number_of, Lists}

-- no refusal has the number of none
pub some_number : (r : Refusal) → 0 < number_of r
some_number Size = omega arith
some_number Record = omega arith
some_number Missing = omega arith
some_number Decided = omega arith
some_number NothingToUndo = omega arith
some_number ShortBuffer = omega arith
some_number Unsorted = omega arith
some_number ClueCount = omega arith
some_number LargeClue = omega arith
some_number NotJoined = omega arith
some_number UnsoundFile = omega arith
some_number ManyUndecided = omega arith
some_number ZeroSeed = omega arith
some_number Repeated = omega arith

-- a call that lists: Ok tells the list's length, and Err the question's number; neither stands for the other
pub listed_ok : (l : List ℕ) (n : ℕ) → Lists (listed l) (Ok n) → n ≡ length l
listed_ok l n q = cc

pub listed_err : (l : List ℕ) (r : Refusal) → Lists (listed l) (Err r) → ⊥
listed_err l r q = let z : ◌≡◌ {A = ℕ} 0 1 = cc in omega arith

pub refused_ok : (k n : ℕ) → Lists (refused k) (Ok n) → ⊥
refused_ok k n q = let z : ◌≡◌ {A = ℕ} 0 1 = cc in omega arith

pub refused_err : (k : ℕ) (r : Refusal) → Lists (refused k) (Err r) → number_of r ≡ k
refused_err k r q = cc
