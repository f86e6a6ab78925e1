-- Calls run one by one are the calls run at once, line by line; and a sound file's are its case's. Assumes nothing.
use Prim.Native.Nat.{ℕ, zero, suc, ◌+◌}
use mathlib.Core.Path.{◌≡◌, refl, sym, ap, ◌∙◌}
use mathlib.Core.Logic.{⊎_elim}
use mathlib.Core.List.{List, [], ◌∷◌, ◌++◌, append-nil}
use mathlib.Core.Option.{none, some, some-injective}
use native.Mathlib.Nat.{add-zero}
use lib.ListN.{length, drop}
use Rattle.case_file.specs.declared.Call.{Call}
use Rattle.case_file.specs.Sound.{Case, call_of, calls_of, decode_of}
use Rattle.case_file.specs.Layout.{size_of, layout_of}
use Rattle.case_file.proofs.ListLaws.{Whole, call_cases, headed}
use Rattle.case_file.proofs.UseLaws.{calls_there}
use Rattle.puzzle.specs.declared.Puzzle.{Puzzle}
use Rattle.demand_3.specs.Run.{run, replies}
use Rattle.case_run.specs.CaseRun.{calls_in, bytes_of, lines_of, run_of, printed_by, line_by}
use Rattle.case_run.proofs.RunLaws.{calls_none, calls_some}

-- the calls of a sound file, from its layout's place on, are its case's
pub calls_of_lem : (n : ℕ) (r s : List ℕ) (cs : List Call) → calls_of n r ≡ some (cs, s) → calls_in n r ≡ cs
unfolding calls_of calls_in
calls_of_lem zero r s cs e = let q : ◌≡◌ {A = List Call × List ℕ} ([], r) (cs, s) = some-injective ([], r) (cs, s) e in ap (λ (o : List Call × List ℕ). o.0) q
calls_of_lem (suc n) r s cs e =
    let h = headed n r s cs e in
    calls_some n r h.after h.call h.reads ∙ ap (λ (l : List Call). h.call ∷ l) (calls_of_lem n h.after s h.others h.follow) ∙ sym h.whole

pub file_calls : (bs : List ℕ) (f : Case) → decode_of bs ≡ some f → calls_in (length f.calls) (drop (layout_of f).calls.at bs) ≡ f.calls
file_calls bs f e = calls_of_lem (length f.calls) (drop (layout_of f).calls.at bs) [] f.calls (calls_there f bs e)

no_calls : (r : List ℕ) → calls_in 0 r ≡ []
unfolding calls_in
no_calls r = refl

-- THE FIRST CALL, and those behind it
pub record OneByOne (p : Puzzle) (one others all : List Call) : Type 0 where
  pub runs : run_of (run_of p one) others ≡ run_of p all
  pub prints : printed_by p one ++ printed_by (run_of p one) others ≡ printed_by p all

nothing : (p : Puzzle) → OneByOne p [] [] []
unfolding run replies lines_of
nothing p = record { runs = refl; prints = refl }

first_then : (p : Puzzle) (c : Call) (cs : List Call) → OneByOne p (c ∷ []) cs (c ∷ cs)
unfolding run replies lines_of
first_then p c cs =
    record {
      runs = refl;
      prints = ap (λ l. l ++ printed_by (run_of p (c ∷ [])) cs) (append-nil (line_by p c));
    }

by_parts : (p : Puzzle) {a b c d e f : List Call} → a ≡ d → b ≡ e → c ≡ f → OneByOne p d e f → OneByOne p a b c
by_parts p x y z o = rw (x, y, z) o

module _ (p : Puzzle) (bs : List ℕ) (at n : ℕ) where
  none_left : call_of (drop at bs) ≡ none → OneByOne p (calls_in 1 (drop at bs)) (calls_in n (drop (at + bytes_of (calls_in 1 (drop at bs))) bs)) (calls_in (suc n) (drop at bs))
  unfolding bytes_of
  none_left e =
      let a = calls_none 1 (drop at bs) e in
      let z : at + bytes_of (calls_in 1 (drop at bs)) ≡ at = ap (λ l. at + bytes_of l) a ∙ add-zero at in
      by_parts p a (ap (λ k. calls_in n (drop k bs)) z ∙ calls_none n (drop at bs) e) (calls_none (suc n) (drop at bs) e) (nothing p)

  first_done : Whole bs at → OneByOne p (calls_in 1 (drop at bs)) (calls_in n (drop (at + bytes_of (calls_in 1 (drop at bs))) bs)) (calls_in (suc n) (drop at bs))
  unfolding bytes_of
  first_done o =
      let c = o.0 in
      let r = drop (at + size_of c) bs in
      let a : calls_in 1 (drop at bs) ≡ c ∷ [] = calls_some 0 (drop at bs) r c o.1 ∙ ap (λ (l : List Call). c ∷ l) (no_calls r) in
      let z : at + bytes_of (calls_in 1 (drop at bs)) ≡ at + size_of c = ap (λ l. at + bytes_of l) a ∙ ap (λ k. at + k) (add-zero (size_of c)) in
      by_parts p a (ap (λ k. calls_in n (drop k bs)) z) (calls_some n (drop at bs) r c o.1) (first_then p c (calls_in n r))

  -- the calls that are left after one, on the puzzle that it left, make the same run and print the same lines
  pub one_by_one : OneByOne p (calls_in 1 (drop at bs)) (calls_in n (drop (at + bytes_of (calls_in 1 (drop at bs))) bs)) (calls_in (suc n) (drop at bs))
  one_by_one = ⊎_elim none_left first_done (call_cases bs at)
