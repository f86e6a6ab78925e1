-- The numbers of refusals (SPEC 3), and what results come to as numbers (SPEC 3.16). Assumes nothing.
use Rattle.std.specs.Prelude.{ℕ, ◌≡◌, Option, Some, None, Result, Ok, Err}
use Rattle.answers.specs.declared.Refusal.{Refusal}
use Rattle.answers.specs.declared.Refusal.TheVariants.{Size, Record, Missing, Decided, NothingToUndo, ShortBuffer, Unsorted, ClueCount, LargeClue, NotJoined, UnsoundFile, ManyUndecided, ZeroSeed, Repeated}
use Rattle.answers.specs.declared.Plain.{Plain}
use Rattle.answers.specs.Listed.{Listed}
use Rattle.answers.specs.Listed as case_listed
use Rattle.answers.specs.Answer.{Answer}
use Rattle.answers.specs.Answer as case_answer
use Rattle.answers.specs.Answers.{Outcome, listed_of, answer_of, plain_listed, plain_answer}

-- the question's number (SPEC 3)
abbrev pub number_of : Refusal → ℕ
number_of Size = 1
number_of Record = 2
number_of Missing = 3
number_of Decided = 4
number_of NothingToUndo = 5
number_of ShortBuffer = 6
number_of Unsorted = 7
number_of ClueCount = 8
number_of LargeClue = 9
number_of NotJoined = 10
number_of UnsoundFile = 11
number_of ManyUndecided = 12
number_of ZeroSeed = 13
number_of Repeated = 14

-- the number of the question that refuses, or 0
abbrev pub code_of : {A : Type 0} → Result A Refusal → ℕ
code_of (Ok x) = 0
code_of (Err e) = number_of e

-- WHICH CASE of an answer a result is: of a call that lists, and of an ask, which finds nothing, or a fault
abbrev pub listed_in : Result ℕ Refusal → Listed
listed_in (Ok n) = case_listed.List n
listed_in (Err e) = case_listed.Refused (number_of e)

abbrev pub answer_in : Result (Option ℕ) Refusal → Answer
answer_in (Ok None) = case_answer.Clear
answer_in (Ok (Some n)) = case_answer.Fault n
answer_in (Err e) = case_answer.Refused (number_of e)

-- a call that lists, and an ask, answer what the outcome says
abbrev pub Lists : Outcome → Result ℕ Refusal → Type 0
Lists o r = listed_in r ≡ listed_of o

abbrev pub Answers : Outcome → Result (Option ℕ) Refusal → Type 0
Answers o r = answer_in r ≡ answer_of o

-- AS NUMBERS: a result, and what an outcome says
abbrev pub result_plain : Result ℕ Refusal → Plain
result_plain r = plain_listed (listed_in r)

abbrev pub ask_plain : Result (Option ℕ) Refusal → Plain
ask_plain r = plain_answer (answer_in r)

abbrev pub listed_plain : Outcome → Plain
listed_plain o = plain_listed (listed_of o)

abbrev pub answer_plain : Outcome → Plain
answer_plain o = plain_answer (answer_of o)
