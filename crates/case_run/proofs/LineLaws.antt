-- The line of each answer, in a buffer that is long enough for it. Assumes nothing.
use Prim.Native.Nat.{ℕ, ◌≤◌}
use mathlib.Core.Path.{◌≡◌, refl, sym, ap, ◌∙◌}
use mathlib.Core.Bool.{Bool}
use mathlib.Core.List.{List, []}
use native.Mathlib.Omega.{arith}
use borrow.Author.Tests.{le-leb}
use lib.ListN.{length, take, length-replicate}
use lib.Seq.{sets, length-sets}
use Rattle.hand_over.specs.Sorted.{sorted_once}
use Rattle.std.specs.Prelude.{Result, Ok, Err}
use Rattle.std.specs.Result.{result_unwrap_or}
use Rattle.answers.specs.declared.Refusal.{Refusal}
use Rattle.answers.specs.Answers.{written}
use Rattle.answers.specs.Refusals.{Lists}
use Rattle.hand_over.specs.HandOver.{hand_over}
use Rattle.hand_over.proofs.SortedLaws.{no_longer}
use Rattle.hand_over.proofs.HandOverLaws.{given, refused}
use Rattle.lines.specs.declared.Line.{Line}
use Rattle.lines.specs.declared.Line.TheVariants as line
use Rattle.lines.specs.Line.{line_of, needed}
use Rattle.case_file.specs.declared.Call.{Call}
use Rattle.case_file.specs.declared.Call.TheVariants.{Undo, Decide}
use Rattle.lists.proofs.SetsLaws.{front}
use Rattle.puzzle.specs.declared.Puzzle.{Puzzle}
use Rattle.puzzle.specs.declared.Made.{Made}
use Rattle.puzzle.specs.Puzzle.{answer as made, decide_of, undo_of}
use Rattle.demand_3.specs.Run.{puzzle_after, reply_to}
use Rattle.case_run.specs.CaseRun.{as_call, code_line, line_by, blank, Turned}

pub blank_length : length blank ≡ 16384
unfolding blank
blank_length = length-replicate {A = ℕ} 16384 0

-- HAND-OVER into an array that has a place for each entry
pub record Listed (list : List ℕ) (n : ℕ) (buf : List ℕ) : Type 0 where
  pub within : n ≤ length buf
  pub counted : n ≡ length (sorted_once list)
  pub is : take n buf ≡ sorted_once list

module _ (list before : List ℕ) (few : length list ≤ length before) where
  pub listed : (answer : Result ℕ Refusal) (buf : List ℕ) → Lists (hand_over list (length before)) answer → buf ≡ written (hand_over list (length before)) before
      → Listed list (result_unwrap_or answer 0) buf
  listed (Err e) buf q m = absurd (omega (arith, (refused list (length before) e q).0))
  listed (Ok n) buf q m =
      let o = given list (length before) n q in
      let s : buf ≡ sets before 0 (sorted_once list) = rw (le-leb (length list) (length before) o.0) at m in
      record {
        within = omega (arith, ap length s, length-sets before 0 (sorted_once list), o.0, o.1, no_longer list);
        counted = o.1;
        is = rw (s, o.1) (front before (sorted_once list) (omega (arith, o.0, no_longer list)));
      }

-- A LINE, written
pub turned : (p after : Puzzle) (c : Call) (line : Line) (l buf : List ℕ) {r : ℕ} {buf' : List ℕ} → after ≡ puzzle_after p (as_call c) → line_of line l ≡ line_by p c
    → length l ≤ 9216 → (r ≡ length (line_of line l)) × ((buf' ≡ sets buf 0 (line_of line l)) × (r ≤ needed l)) → Turned r after p c × (buf' ≡ sets buf 0 (line_by p c))
turned p after c line l buf x y few e =
    (record { turned = x; count = e.0 ∙ ap length y; fits = omega (arith, e.1.1) }, e.1.0 ∙ ap (sets buf 0) y)

-- A DECIDE OR AN UNDO by what the puzzle answers
abbrev Told : Puzzle → Puzzle → Call → Line → Type 0
Told p after c l = (after ≡ puzzle_after p (as_call c)) × (line_of l [] ≡ line_by p c)

told : (p after : Puzzle) (c : Call) (well l : Line) (code : ℕ) (d : Made) → made code after ≡ d → puzzle_after p (as_call c) ≡ d.puzzle
    → line_by p c ≡ code_line well d.code → line_of l [] ≡ code_line well code → Told p after c l
told p after c well l code d q x y e = (ap (λ (z : Made). z.puzzle) q ∙ sym x, e ∙ ap (λ (z : Made). code_line well z.code) q ∙ sym y)

pub told_undo : (p after : Puzzle) (c : Call) (l : Line) {code : ℕ} → c ≡ Undo → made code after ≡ undo_of p → line_of l [] ≡ code_line line.Undone code → Told p after c l
unfolding puzzle_after reply_to
told_undo p after c l {code} z q e = rw z (told p after Undo line.Undone l code (undo_of p) q refl refl e)

pub told_decide : (p after : Puzzle) (c : Call) (border : ℕ) (wall : Bool) (l : Line) {code : ℕ} → c ≡ Decide border wall → made code after ≡ decide_of p border wall
    → line_of l [] ≡ code_line line.Decided code → Told p after c l
unfolding puzzle_after reply_to
told_decide p after c border wall l {code} z q e = rw z (told p after (Decide border wall) line.Decided l code (decide_of p border wall) q refl refl e)
