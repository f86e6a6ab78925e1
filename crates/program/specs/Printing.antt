-- SPEC 5.6: a call's line before the next call; where a line can't be written the run ends there. Assumes nothing.
use Rattle.std.specs.Prelude.{ℕ, ◌-◌, ◌≤◌, ◌≡◌, List, drop, Result, IsOk}
use Rattle.case_run.specs.declared.Remaining.{Remaining}
use Rattle.case_run.specs.CaseRun.{run_of, calls_in}

-- of a file's puzzle and calls `o` a run leaves `r`: the puzzle is that of the calls whose lines are out, all of them, or as many as there were before a
-- failed write
pub record Prints {T E : Type 0} (bs : List ℕ) (o r : Remaining) (outcome : Result T E) : Type 0 where
  pub runs : r.puzzle ≡ run_of o.puzzle (calls_in (o.count - r.count) (drop o.at bs))
  pub most : r.count ≤ o.count
  pub all : IsOk outcome → r.count ≡ 0
