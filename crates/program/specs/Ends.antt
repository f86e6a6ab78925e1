-- SPEC 5.8: what the program ends with. Assumes nothing.
use Rattle.std.specs.Prelude.{ℕ, List, eqb, ◌≡◌, ◌⊎◌, Result, Ok, Err}
use Rattle.lists.specs.Choice.{pick}
use Rattle.case_file.specs.Sound.{decode_of}
use Rattle.case_run.specs.CaseRun.{opened_of}
use Rattle.program.specs.declared.status.Status.{Status}
use Rattle.program.specs.declared.status.Status.TheVariants.{Done, Refused, WrongUse, NotWritten}

-- the number that the system gets
abbrev pub number_of : Status → ℕ
number_of Done = 0
number_of Refused = 1
number_of WrongUse = 2
number_of NotWritten = 3

-- of the bytes of a file, where all is written: whether the file and its puzzle are accepted
abbrev pub status_of : List ℕ → Status
status_of bs = pick (eqb (opened_of (decode_of bs)).code 0) Done Refused

-- a run whose last write failed ends as such, and any other as it was to end
abbrev pub ended_in : {E : Type 0} → Result Status E → Status
ended_in (Ok status) = status
ended_in (Err e) = NotWritten

-- what a run of a file ends with where all is written, and what it ends with at all
abbrev pub EndsWritten : Status → Type 0
EndsWritten status = (status ≡ Done) ⊎ (status ≡ Refused)

abbrev pub EndsRun : Status → Type 0
EndsRun status = EndsWritten status ⊎ (status ≡ NotWritten)
