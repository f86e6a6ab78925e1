-- The first part of an unsound file that is not as SPEC 5.1 to 5.3 have it, and the byte at which it stands. Assumes nothing.
use Rattle.std.specs.Prelude.{ℕ, zero, suc, ◌+◌, ◌*◌, ◌-◌, ◌/◌, Bool, true, false, List, eqb, leb, ltb, length, drop, get_or, Some, None, Result, Ok, Err}
use Rattle.std.specs.Prelude as std
use Rattle.std.proofs.Math.Option.{Option, none, some}
use Rattle.lists.specs.Choice.{pick, both}
use Rattle.answers.specs.declared.Refusal.{Refusal}
use Rattle.case_file.specs.Sound.{Case, decode_of}
use Rattle.case_file.specs.Sound.{call_of as Sound·callOf}
use Rattle.case_file.specs.Layout.{numbers_at, step_at, file_of}
use Rattle.case_file.specs.declared.Call.{Call}
use Rattle.case_file.specs.declared.Layout.{Layout}
use Rattle.flaws.specs.declared.Flaw.{Flaw}
use Rattle.flaws.specs.declared.Flaw.TheVariants.{Long, Short, Version, Length, Walls, Clues, Calls, Cut, Kind, Behind}

-- the count at a byte; 0 where the file ends before it
abbrev pub count_of : List ℕ → ℕ → ℕ
count_of bs at = get_or (numbers_at bs at 1) 0 0

-- the byte behind the list of numbers whose count stands at a byte, if the file has room for it
abbrev pub behind_of : List ℕ → ℕ → std.Option ℕ
behind_of bs at = pick (both (leb (at + 2) (length bs)) (leb (count_of bs at) ((length bs - 2 - at) / 2))) (Some (at + 2 + 2 * count_of bs at)) None

-- a call that is none: of another kind, or the file ends before it or in it
abbrev pub call_of : List ℕ → ℕ → Flaw
call_of bs at = pick (ltb 3 (get_or bs at 0)) (Kind at) (Cut at)

abbrev pub at_call : List ℕ → ℕ → std.Option (Call × ℕ) → (ℕ → Flaw) → Flaw
at_call bs at (Some c) rest = rest c.1
at_call bs at None rest = call_of bs at

-- so many calls from a byte on: the first that is none, or what stands behind them
unfoldable pub calls_of : ℕ → List ℕ → ℕ → Flaw
calls_of zero bs at = Behind at
calls_of (suc n) bs at = at_call bs at (step_at at (Sound·callOf (drop at bs))) (calls_of n bs)

-- the calls whose count stands at a byte
abbrev pub call_list_of : List ℕ → ℕ → Flaw
call_list_of bs at = pick (leb (at + 2) (length bs)) (calls_of (count_of bs at) bs (at + 2)) (Calls at)

-- the clues whose count stands at a byte, by the byte behind them
abbrev pub clues_of : List ℕ → ℕ → std.Option ℕ → Flaw
clues_of bs at None = Clues at
clues_of bs at (Some calls) = call_list_of bs calls

-- given walls, by the byte behind them
abbrev pub walls_of : List ℕ → std.Option ℕ → Flaw
walls_of bs None = Walls
walls_of bs (Some clues) = clues_of bs clues (behind_of bs clues)

-- given walls, clues and calls, and nothing behind them
abbrev pub lists_of : List ℕ → Flaw
lists_of bs = walls_of bs (behind_of bs 5)

-- from the front: the length, the version, and the 5 bytes that these, the height and the width take
abbrev pub length_of : List ℕ → Flaw
length_of bs = pick (eqb (count_of bs 1) (length bs - 3)) (lists_of bs) Length

abbrev pub version_of : List ℕ → Flaw
version_of bs = pick (eqb (get_or bs 0 0) 1) (length_of bs) Version

abbrev pub short_of : List ℕ → Flaw
short_of bs = pick (ltb (length bs) 5) Short (version_of bs)

abbrev pub part_of : List ℕ → Flaw
part_of bs = pick (ltb 60003 (length bs)) Long (short_of bs)

abbrev pub of_file : Result Layout Refusal → Flaw → std.Option Flaw
of_file (Ok l) f = None
of_file (Err e) f = Some f

-- what is wrong with a file
abbrev pub flaw_of : List ℕ → std.Option Flaw
flaw_of bs = of_file (file_of (decode_of bs)) (part_of bs)

abbrev pub is_sound : std.Option Flaw → Bool
is_sound None = true
is_sound (Some f) = false

-- question 11 (SPEC 3.11)
abbrev pub sound_of : Option Case → Bool
sound_of none = false
sound_of (some f) = true
