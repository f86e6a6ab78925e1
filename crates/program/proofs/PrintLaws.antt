-- The calls of a file, done one by one: what is left of their run, and one law a call. Assumes nothing.
use Prim.Native.Nat.{ℕ, suc, ◌+◌, ◌-◌, ◌<◌, ◌≤◌}
use mathlib.Core.Path.{◌≡◌, sym, ap, ◌∙◌}
use mathlib.Core.List.{List, []}
use native.Mathlib.Omega.{arith}
use Rattle.std.specs.Prelude.{Result, Ok, Err, IsOk}
use lib.ListN.{length, take, drop}
use lib.Seq.{length-take-le}
use Rattle.lines.specs.Line.{needed}
use Rattle.answers.specs.declared.Refusal.{Refusal}
use Rattle.answers.specs.Refusals.{number_of}
use Rattle.answers.proofs.RefusalLaws.{some_number}
use Rattle.puzzle.specs.declared.Puzzle.{Puzzle}
use Rattle.demand_3.specs.Run.{run}
use Rattle.case_run.specs.declared.Remaining.{Remaining}
use Rattle.case_run.specs.declared.Progress.{Progress}
use Rattle.case_run.specs.declared.Ran.{Ran}
use Rattle.case_run.specs.CaseRun.{calls_in, bytes_of, run_of, code_in, done_in, ran_of, ran_in}
use Rattle.case_run.proofs.OneByOne.{one_by_one}
use Rattle.program.specs.Printing.{Prints}

-- whatever number of calls is run from here on, they make the run of the calls done with these behind them
pub record Printing (bs : List ℕ) (o r : Remaining) (out : List ℕ) (done : ℕ) : Type 0 where
  pub long : length out ≡ 65536
  pub counts : done + r.count ≡ o.count
  pub left : (n : ℕ) → run_of r.puzzle (calls_in n (drop r.at bs)) ≡ run_of o.puzzle (calls_in (done + n) (drop o.at bs))

module _ {bs : List ℕ} {o r : Remaining} {out : List ℕ} {done : ℕ} (p : Printing bs o r out done) where
  -- a buffer for one line is not too short for it
  one_ran : (answer : Result Progress Refusal) (after : Puzzle)
      → ran_in answer r.at after ≡ ran_of (code_in 1 (length out)) r.puzzle r.at (done_in 1 (drop r.at bs) (length out)) → ran_in answer r.at after ≡ ran_of 0 r.puzzle r.at (calls_in 1 (drop r.at bs))
  one_ran answer after e = rw p.long at e

  pub never_short : (e : Refusal) (after : Puzzle) → ran_in (Err e) r.at after ≡ ran_of (code_in 1 (length out)) r.puzzle r.at (done_in 1 (drop r.at bs) (length out)) → ⊥
  never_short e after q =
      let z : number_of e ≡ 0 = ap (λ (a : Ran). a.code) (one_ran (Err e) after q) in
      omega (arith, some_number e)

  pub printing_next : (ran : Progress) (after : Puzzle) (out' : List ℕ) → done < o.count
      → ran_in (Ok ran) r.at after ≡ ran_of (code_in 1 (length out)) r.puzzle r.at (done_in 1 (drop r.at bs) (length out)) → length out' ≡ length out
      → Printing bs o (record r { puzzle = after; at = ran.at; count = r.count - 1 }) out' (done + 1)
  printing_next ran after out' h e l =
      let one = calls_in 1 (drop r.at bs) in
      let q = one_ran (Ok ran) after e in
      let x : after ≡ run_of r.puzzle one = ap (λ (a : Ran). a.puzzle) q in
      let y : ran.at ≡ r.at + bytes_of one = ap (λ (a : Ran). a.at) q in
      record {
        long = l ∙ p.long;
        counts = omega (arith, p.counts);
        left = λ n. let m : done + suc n ≡ done + 1 + n = omega arith in
            rw (x, y) ((one_by_one r.puzzle bs r.at n).runs ∙ p.left (suc n) ∙ ap (λ k. run_of o.puzzle (calls_in k (drop o.at bs))) m);
      }

  -- the calls that are done
  printed : r.puzzle ≡ run_of o.puzzle (calls_in (o.count - r.count) (drop o.at bs))
  unfolding calls_in run
  printed = let n : done + 0 ≡ o.count - r.count = omega (arith, p.counts) in p.left 0 ∙ ap (λ k. run_of o.puzzle (calls_in k (drop o.at bs))) n

  -- the ways out: a line that is not written, and the end
  pub stopped : {T E : Type 0} (outcome : Result T E) → (IsOk outcome → o.count ≤ done) → Prints bs o r outcome
  stopped outcome h = record { runs = printed; most = omega (arith, p.counts); all = λ e. omega (arith, p.counts, h e) }

-- a line in the program's buffer
pub record Lined (n : ℕ) (out : List ℕ) : Type 0 where
  pub within : n ≤ length out
  pub long : n ≡ length (take n out)

pub lined : (n : ℕ) (out : List ℕ) → n ≤ length out → Lined n out
lined n out h = record { within = h; long = sym (length-take-le n out h) }

-- a line without entries
pub bare_lined : (n : ℕ) (out out' : List ℕ) → length out ≡ 65536 → length out' ≡ length out → n ≤ needed [] → Lined n out'
bare_lined n out out' h l e = lined n out' (omega arith)
