-- What is promised of a file that is written (SPEC 11.6 to 11.8), in the terms of the files' reader and of the puzzle that is run. Assumes nothing.
use Rattle.std.specs.Prelude.{ℕ, zero, suc, ◌+◌, ◌*◌, ◌≤◌, ◌≡◌, ◌⊎◌, List, [], ◌∷◌, map, length, drop}
use Rattle.std.proofs.Math.Option.{some}
use Rattle.limits.specs.Limits.{no_clue}
use Rattle.lists.specs.Lists.{In}
use Rattle.grid.specs.Grid.{grid, border_count}
use Rattle.case_file.specs.declared.Call.{Call}
use Rattle.case_file.specs.declared.Call.TheVariants.{Undo, Decide, Ask}
use Rattle.case_file.specs.Sound.{decode_of}
use Rattle.puzzle.specs.declared.Puzzle.{Puzzle}
use Rattle.puzzle.specs.declared.kind.Kind.TheVariants.{Translates}
use Rattle.puzzle.specs.Answer.{Refused}
use Rattle.puzzle.specs.Puzzle.{fresh_puzzle}
use Rattle.demand_3.specs.Run.{Reply, coded, asked, replies}
use Rattle.demand_3.specs.Demand3.{Demand3}
use Rattle.case_run.specs.CaseRun.{opened, opened_of, as_call, calls_in}
use Rattle.generator.specs.Generator.{draw_from, calls_from, BorderBelow, case_of}

-- THE STATE after so many calls (SPEC 11.9)
unfoldable pub state_from : ℕ → ℕ → ℕ → ℕ
state_from borders zero s = s
state_from borders (suc n) s = state_from borders n (draw_from borders s).state

-- THE RUN (SPEC 11.6): an undo is done, or nothing is left to take back (5); a decide is done, or its border is decided (4); an ask is answered
abbrev pub Replied : Call → Reply → Type 0
Replied Undo (coded k) = (k ≡ 0) ⊎ (k ≡ 5)
Replied Undo (asked a) = ⊥
Replied (Decide border wall) (coded k) = (k ≡ 0) ⊎ (k ≡ 4)
Replied (Decide border wall) (asked a) = ⊥
Replied Ask (coded k) = ⊥
Replied Ask (asked a) = (k : ℕ) → a.answer ≡ Refused k → ⊥

-- call by call
abbrev pub RepliedAll : List Call → List Reply → Type 0
RepliedAll [] [] = Unit {0}
RepliedAll [] (r ∷ rs) = ⊥
RepliedAll (c ∷ cs) [] = ⊥
RepliedAll (c ∷ cs) (r ∷ rs) = Replied c r × RepliedAll cs rs

-- the puzzle of translates without given walls and with one room, which has no clue
abbrev pub open_puzzle : ℕ → ℕ → Puzzle
open_puzzle h w = fresh_puzzle Translates (grid h w) [] (no_clue ∷ [])

module _ (seed h w n : ℕ) where
  abbrev pub borders : ℕ
  borders = border_count (grid h w)

  abbrev pub drawn_calls : List Call
  drawn_calls = calls_from borders n seed

  -- THE PROMISE of a file (SPEC 11.6, 11.8)
  pub record Promised (file : List ℕ) : Type 0 where
    -- the file is sound, and says what was drawn
    pub sound : decode_of file ≡ some (case_of seed (grid h w) n)
    -- which are as many calls as were asked for, and every border that they name exists
    pub as_many : length drawn_calls ≡ n
    pub exist : (c : Call) → In c drawn_calls → BorderBelow borders c
    -- the file's puzzle is made, and its calls are those that were drawn
    pub made : opened_of (decode_of file) ≡ opened 0 (open_puzzle h w) 13 n
    pub runs : calls_in n (drop 13 file) ≡ drawn_calls
    -- a run of them refuses none but by 4 and 5, and demand 3 holds of its asks
    pub replied : RepliedAll drawn_calls (replies (open_puzzle h w) (map as_call drawn_calls))
    pub asks : Demand3 Translates h w [] (no_clue ∷ [])
    -- its length: a byte or three for each call, behind 13 others
    pub least : 13 + n ≤ length file
    pub most : length file ≤ 13 + 3 * n
    pub longest : length file ≤ 60003
