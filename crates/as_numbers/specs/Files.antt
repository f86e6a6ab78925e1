-- A case file's layout and its calls as numbers: kinds as in SPEC 5.2, and 11 for an unsound file (3.11). Assumes nothing.
use Rattle.std.specs.Prelude.{ℕ, Option, Some, None, Result, Ok, Err}
use Rattle.lists.specs.Choice.{pick}
use Rattle.answers.specs.declared.Refusal.{Refusal}
use Rattle.answers.specs.Refusals.{number_of}
use Rattle.case_file.specs.declared.Call.{Call}
use Rattle.case_file.specs.declared.Call.TheVariants.{Undo, Decide, Ask}
use Rattle.case_file.specs.declared.Layout.{Layout}
use Rattle.as_numbers.specs.declared.files.Parts.{Parts}
use Rattle.as_numbers.specs.declared.files.CallFields.{CallFields}

-- where the parts of a sound file stand; or the refusal's number, 11
abbrev pub parts_of : Result Layout Refusal → Parts
parts_of (Ok l) =
    record {
      code = 0;
      height = l.height;
      width = l.width;
      walls_at = l.walls.at;
      walls_count = l.walls.count;
      clues_at = l.clues.at;
      clues_count = l.clues.count;
      calls_at = l.calls.at;
      calls_count = l.calls.count;
    }
parts_of (Err e) =
    record {
      code = number_of e;
      height = 0;
      width = 0;
      walls_at = 0;
      walls_count = 0;
      clues_at = 0;
      clues_count = 0;
      calls_at = 0;
      calls_count = 0;
    }

-- a call by its kind's byte, its border and the byte behind it
abbrev pub call_fields : Call → ℕ → CallFields
call_fields Undo behind = record { code = 0; kind = 0; border = 0; behind = behind }
call_fields (Decide e wall) behind = record { code = 0; kind = pick wall 2 1; border = e; behind = behind }
call_fields Ask behind = record { code = 0; kind = 3; border = 0; behind = behind }

-- a call that is read; or 11
abbrev pub step_fields : Option (Call × ℕ) → CallFields
step_fields (Some s) = call_fields s.0 s.1
step_fields None = record { code = 11; kind = 0; border = 0; behind = 0 }
