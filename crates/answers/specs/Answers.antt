-- What a call comes to, the case of its answer with its number and values (SPEC 3.16), and what it leaves in the buffer (SPEC 3.12, 3.15). Assumes nothing.
use Rattle.std.specs.Prelude.{ℕ, ◌≡◌, Bool, true, false, List, [], length}
use Rattle.std.specs.Prelude as std
use Rattle.std.proofs.Math.Option.{Option, none, some}
use Rattle.std.proofs.lemmas.List.Edits.{sets}
use Rattle.answers.specs.Listed.{Listed}
use Rattle.answers.specs.Listed as case_listed
use Rattle.answers.specs.Answer.{Answer}
use Rattle.answers.specs.Answer as case_answer
use Rattle.answers.specs.declared.Plain.{Plain}

-- THE OUTCOME of a call: refused by the question of this number, clear, or a list (a fault's, where the call is an ask)
pub data Outcome : Type 0 where
  refused : ℕ → Outcome
  clear : Outcome
  listed : List ℕ → Outcome

-- what a check finds: nothing, or a fault with its list
abbrev pub found : Option (List ℕ) → Outcome
found none = clear
found (some l) = listed l

-- SPEC 3.16: the number and values for each case of an answer: the refusal's number, or the list's length
abbrev pub listed_of : Outcome → Listed
listed_of (refused n) = case_listed.Refused n
listed_of clear = case_listed.List 0
listed_of (listed l) = case_listed.List (length l)

abbrev pub answer_of : Outcome → Answer
answer_of (refused n) = case_answer.Refused n
answer_of clear = case_answer.Clear
answer_of (listed l) = case_answer.Fault (length l)

-- what the call lists
abbrev pub list_of : Option (List ℕ) → List ℕ
list_of none = []
list_of (some l) = l

-- THE BUFFER: a refusal changes no byte (SPEC 3.12); a list fills the first places, and the others stay (SPEC 3.15)
abbrev pub written : Outcome → List ℕ → List ℕ
written (refused n) buffer = buffer
written clear buffer = buffer
written (listed l) buffer = sets buffer 0 l

-- what a stage of a check answers, nothing or how many places hold its list, and what it leaves
abbrev pub length_found : Option (List ℕ) → std.Option ℕ
length_found none = std.None
length_found (some l) = std.Some (length l)

pub record Finds (o : Option (List ℕ)) (buffer buffer' : List ℕ) (r : std.Option ℕ) : Type 0 where
  pub answer : r ≡ length_found o
  pub stored : buffer' ≡ written (found o) buffer

-- AS NUMBERS, for other languages
abbrev pub plain : ℕ → Bool → ℕ → Plain
plain code fault n = record { code = code; fault = fault; length = n }

abbrev pub plain_listed : Listed → Plain
plain_listed (case_listed.List n) = plain 0 false n
plain_listed (case_listed.Refused k) = plain k false 0

abbrev pub plain_answer : Answer → Plain
plain_answer case_answer.Clear = plain 0 false 0
plain_answer (case_answer.Fault n) = plain 0 true n
plain_answer (case_answer.Refused k) = plain k false 0
