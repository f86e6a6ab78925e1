-- The run of a list of calls: what is left of it, one law a call, and one at the end. Assumes nothing.
use Prim.Native.Nat.{ℕ, zero, suc, ◌+◌, ◌-◌, ◌*◌, ◌/◌, ◌≤◌, ◌<◌}
use mathlib.Core.Path.{◌≡◌, refl, sym, ap, ◌∙◌}
use mathlib.Core.Logic.{⊎_elim}
use mathlib.Core.Bool.{true}
use mathlib.Core.List.{List, [], ◌∷◌, ◌++◌, append-nil}
use mathlib.Core.Option.{none, some}
use native.Mathlib.Omega.{arith}
use borrow.Author.Tests.{le-leb, lt-leb}
use lib.Dec.{leb}
use lib.ListN.{length, take, drop, set, length-append, drop_of_length-le, length-drop}
use lib.Seq.{sets, length-sets, take-length}
use Rattle.case_file.specs.declared.Call.{Call}
use Rattle.std.specs.Prelude.{Some, None}
use Rattle.case_file.specs.Sound.{call_of}
use Rattle.case_file.specs.Layout.{size_of, step_at}
use Rattle.case_file.proofs.ListLaws.{Whole, call_cases, step_unsound}
use Rattle.limits.specs.Limits.{longest_line}
use Rattle.lists.proofs.SetsLaws.{sets_append}
use Rattle.puzzle.specs.declared.Puzzle.{Puzzle}
use Rattle.demand_3.specs.Run.{puzzle_after, run, replies}
use Rattle.case_run.specs.declared.Ran.{Ran}
use Rattle.case_run.specs.CaseRun.{as_call, calls_in, bytes_of, lines_of, run_of, printed_by, line_by, code_in, done_in, ran_of, Turned}

-- THE CALLS at a byte
pub calls_none : (n : ℕ) (r : List ℕ) → call_of r ≡ none → calls_in n r ≡ []
unfolding calls_in
calls_none zero r e = refl
calls_none (suc n) r e = rw e

pub calls_some : (n : ℕ) (r s : List ℕ) (c : Call) → call_of r ≡ some (c, s) → calls_in (suc n) r ≡ c ∷ calls_in n s
unfolding calls_in
calls_some n r s c e = rw e

-- what the cursor's step tells
pub stepped : (bs : List ℕ) (at next : ℕ) (c : Call) → Some (c, next) ≡ step_at at (call_of (drop at bs))
    → (next ≡ at + size_of c) × (call_of (drop at bs) ≡ some (c, drop next bs)) × (next ≤ length bs)
stepped bs at next c q =
    ⊎_elim
    (λ (e : call_of (drop at bs) ≡ none). let f : Some (c, next) ≡ None = simp e at q in let z : ◌≡◌ {A = ℕ} 0 1 = cc in absurd (omega arith))
    (λ (o : Whole bs at).
    let f : Some (c, next) ≡ Some (o.0, at + size_of o.0) = simp o.1 at q in
    let g : ◌≡◌ {A = Call × ℕ} (c, next) (o.0, at + size_of o.0) = cc in
    let d : c ≡ o.0 = ap (λ (x : Call × ℕ). x.0) g in
    let n : next ≡ at + size_of o.0 = ap (λ (x : Call × ℕ). x.1) g in
    rw (d, n) (refl, o.1, o.2))
    (call_cases bs at)

-- WHAT IS LEFT of a run, behind calls that are done
abbrev ran_from : Puzzle → ℕ → ℕ → ℕ → List Call → Ran
ran_from p at done len cs = record { code = 0; puzzle = run_of p cs; at = at + bytes_of cs; done = done + length cs; len = len + length (printed_by p cs) }

ran_same : {k : ℕ} (p : Puzzle) {a b c d e f : ℕ} → a ≡ b → c ≡ d → e ≡ f
    → ◌≡◌ {A = Ran} (record { code = k; puzzle = p; at = a; done = c; len = e }) (record { code = k; puzzle = p; at = b; done = d; len = f })
ran_same p x y z = rw (x, y, z)

-- all calls are done
pub all_done : {p : Puzzle} {at done count len : ℕ} {r : Ran} → done ≡ count → ◌≡◌ {A = Ran} (record { code = 0; puzzle = p; at = at; done = done; len = len }) r
    → ◌≡◌ {A = Ran} (record { code = 0; puzzle = p; at = at; done = count; len = len }) r
all_done e q = rw (sym e) q

module _ (p : Puzzle) (c : Call) (cs : List Call) where
  abbrev next : Puzzle
  next = puzzle_after p (as_call c)

  printed_next : printed_by p (c ∷ cs) ≡ line_by p c ++ printed_by next cs
  unfolding replies lines_of
  printed_next = refl

  module _ {p' : Puzzle} {l' : ℕ} (x : p' ≡ next) (y : l' ≡ length (line_by p c)) where
    ran_next : (at at' done len : ℕ) → at' ≡ at + size_of c → ran_from p' at' (done + 1) (len + l') cs ≡ ran_from p at done len (c ∷ cs)
    unfolding run bytes_of
    ran_next at at' done len z =
        rw x
        (ran_same (run_of next cs) (omega arith) (omega arith)
        (omega (arith, ap length printed_next, length-append (line_by p c) (printed_by next cs))))

    lines_next : (out out' : List ℕ) (len : ℕ) → out' ≡ sets out len (line_by p c) → sets out' (len + l') (printed_by p' cs) ≡ sets out len (printed_by p (c ∷ cs))
    lines_next out out' len z = rw (x, y, z) (sym (ap (sets out len) printed_next ∙ sets_append (line_by p c) (printed_by next cs) out len))

-- A PART of a buffer, written and given back
cons_sets : (x : ℕ) (xs : List ℕ) (i : ℕ) (l : List ℕ) → sets (x ∷ xs) (suc i) l ≡ x ∷ sets xs i l
cons_sets x xs i [] = refl
cons_sets x xs i (v ∷ l) = cons_sets x (set xs i v) (suc i) l

pub part_sets : (xs l : List ℕ) (a k : ℕ) → a + k ≡ length xs → take a xs ++ (sets (drop a xs) 0 l ++ drop k (drop a xs)) ≡ sets xs a l
part_sets xs l zero k e = ap (λ r. sets xs 0 l ++ r) (drop_of_length-le xs {i = k} (omega arith)) ∙ append-nil (sets xs 0 l)
part_sets [] l (suc a) k e = absurd (omega arith)
part_sets (x ∷ xs) l (suc a) k e = ap (λ r. x ∷ r) (part_sets xs l a k (omega arith)) ∙ sym (cons_sets x xs a l)

-- such a part goes to the end
pub lent_part : (xs : List ℕ) (a : ℕ) → a ≤ length xs → take (length xs - a) (drop a xs) ≡ drop a xs
lent_part xs a h = let z : length xs - a ≡ length (drop a xs) = omega (arith, length-drop a xs) in rw z (take-length (drop a xs))

-- THE LOOP of `run_calls`
pub record Running (p : Puzzle) (bs : List ℕ) (at count : ℕ) (out₀ : List ℕ) (puzzle : Puzzle) (next done len : ℕ) (out : List ℕ) : Type 0 where
  pub long : length out ≡ length out₀
  pub room : longest_line * count ≤ length out₀
  pub within : done ≤ count
  pub short : len ≤ longest_line * done
  pub ran : ran_from puzzle next done len (calls_in (count - done) (drop next bs)) ≡ ran_of 0 p at (calls_in count (drop at bs))
  pub lines : sets out len (printed_by puzzle (calls_in (count - done) (drop next bs))) ≡ sets out₀ 0 (printed_by p (calls_in count (drop at bs)))

module _ (p : Puzzle) (bs : List ℕ) (at count : ℕ) (out₀ : List ℕ) where
  -- too short a buffer
  pub no_room : length out₀ / longest_line < count → (◌≡◌ {A = Ran} (record { code = 6; puzzle = p; at = at; done = 0; len = 0 }) (ran_of (code_in count (length out₀)) p at (done_in count (drop at bs) (length out₀))))
      × ((out₀ ≡ sets out₀ 0 (printed_by p (done_in count (drop at bs) (length out₀)))) × (0 ≤ length out₀))
  unfolding run bytes_of lines_of replies
  no_room h = let q = lt-leb (longest_line * count) (length out₀) (omega arith) in (rw q (ran_same p (omega arith) refl refl), (rw q, omega arith))

module _ {p : Puzzle} {bs : List ℕ} {at count : ℕ} {out₀ : List ℕ} {puzzle : Puzzle} {next done len : ℕ} {out : List ℕ} (r : Running p bs at count out₀ puzzle next done len out) where
  -- the part that the next line is lent
  pub part_room : done < count → len + longest_line ≤ length out
  part_room h = omega (arith, r.long, r.room, r.short)

  -- the whole of it
  pub part_long : done < count → longest_line ≤ length (take (length out - len) (drop len out))
  part_long h = let k = part_room h in rw (lent_part out len (omega arith)) (omega (arith, length-drop len out))

  -- and given back
  pub part_back : (l part : List ℕ) → done < count → part ≡ sets (take (length out - len) (drop len out)) 0 l
      → take len out ++ (part ++ drop (length out - len) (drop len out)) ≡ sets out len l
  part_back l part h e =
      let k = part_room h in
      let z : len + (length out - len) ≡ length out = omega arith in
      let q : part ≡ sets (drop len out) 0 l = rw (lent_part out len (omega arith)) at e in
      rw q (part_sets out l len (length out - len) z)

  has_room : leb (longest_line * count) (length out₀) ≡ true
  has_room = le-leb (longest_line * count) (length out₀) r.room

  abbrev Ended : Type 0
  Ended = (◌≡◌ {A = Ran} (record { code = 0; puzzle = puzzle; at = next; done = done; len = len }) (ran_of (code_in count (length out₀)) p at (done_in count (drop at bs) (length out₀))))
      × ((out ≡ sets out₀ 0 (printed_by p (done_in count (drop at bs) (length out₀)))) × (len ≤ length out₀))

  ended : calls_in (count - done) (drop next bs) ≡ [] → Ended
  unfolding run bytes_of lines_of replies
  ended e =
      let a : ran_from puzzle next done len [] ≡ ran_of 0 p at (calls_in count (drop at bs)) = rw e at r.ran in
      let b : sets out len (printed_by puzzle []) ≡ sets out₀ 0 (printed_by p (calls_in count (drop at bs))) = rw e at r.lines in
      rw has_room (ran_same puzzle (omega arith) (omega arith) (omega arith) ∙ a, (b, omega (arith, r.within, r.short, r.room)))

  -- all calls done, or one that is unsound
  pub counted : count ≤ done → Ended
  unfolding calls_in
  counted h = let z : count - done ≡ 0 = omega arith in ended (ap (λ n. calls_in n (drop next bs)) z)

  pub stopped : None ≡ step_at next (call_of (drop next bs)) → Ended
  stopped q = ended (calls_none (count - done) (drop next bs) (step_unsound bs next q))

  pub running_next : (c : Call) (behind : ℕ) (after : Puzzle) {line : ℕ} {out' : List ℕ} → done < count → Some (c, behind) ≡ step_at next (call_of (drop next bs)) → Turned line after puzzle c
      → out' ≡ sets out len (line_by puzzle c) → Running p bs at count out₀ after behind (done + 1) (len + line) out'
  running_next c behind after {line} {out'} h q k e =
      let s = stepped bs next behind c q in
      let n : count - done ≡ suc (count - (done + 1)) = omega arith in
      let cs = calls_in (count - (done + 1)) (drop behind bs) in
      let calls : calls_in (count - done) (drop next bs) ≡ c ∷ cs = ap (λ m. calls_in m (drop next bs)) n ∙ calls_some (count - (done + 1)) (drop next bs) (drop behind bs) c s.1 in
      let ran : ran_from puzzle next done len (c ∷ cs) ≡ ran_of 0 p at (calls_in count (drop at bs)) = rw calls at r.ran in
      let lines : sets out len (printed_by puzzle (c ∷ cs)) ≡ sets out₀ 0 (printed_by p (calls_in count (drop at bs))) = rw calls at r.lines in
      record {
        long = ap length e ∙ length-sets out len (line_by puzzle c) ∙ r.long;
        room = r.room;
        within = omega arith;
        short = omega (arith, r.short, k.fits);
        ran = ran_next puzzle c cs k.turned k.count next behind done len s.0 ∙ ran;
        lines = lines_next puzzle c cs k.turned k.count out out' len e ∙ lines;
      }
