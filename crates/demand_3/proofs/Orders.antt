-- Entries that can stand together are decided on a fresh puzzle in any order, cut into strokes in any way: each stroke is accepted, and then they
-- stand. Assumes nothing.
use Prim.Native.Nat.{ℕ, ◌+◌, ◌/◌, ◌%◌, ◌≤◌, ◌<◌}
use mathlib.Core.Path.{◌≡◌, refl, ap, sym, ◌∙◌}
use mathlib.Core.Logic.{inl, inr, ◌≢◌, ⊎_elim}
use mathlib.Core.Bool.{Bool, false}
use mathlib.Core.List.{List, [], ◌∷◌, ◌++◌, map, map-append}
use native.Mathlib.Omega.{arith}
use borrow.Author.Tests.{eq-eqb, ne_eqb}
use lib.Dec.{eqb}
use Rattle.lists.specs.Lists.{In, count}
use Rattle.lists.proofs.Cases.{eq_or_ne}
use Rattle.lists.proofs.CountLaws.{count_here, count_other, count_none, in_count, count_in}
use Rattle.grid.specs.Grid.{grid, border_count}
use Rattle.ledger.specs.Ledger as ledger
use Rattle.ledger.specs.Ledger.{Decision, decision_of, decisions, state_for, state_in, standing, whole, borders, stroke_code, ledger_of}
use Rattle.ledger.proofs.Standing.{standing_named}
use Rattle.ledger.proofs.Strokes.{code_fits, fits_code, fits_first, fits_then}
use Rattle.ledger.proofs.Cuts.{strokes, after_stroke, whole_added, cut}
use Rattle.borders.specs.Entry.{Standing}
use Rattle.puzzle.specs.declared.Puzzle.{Puzzle}
use Rattle.puzzle.specs.declared.kind.Kind.{Kind}
use Rattle.rooms.specs.Rooms.{is_given}
use Rattle.puzzle.specs.Puzzle.{book_of, stroke_of}
use Rattle.demand_3.specs.Run.{stroke, puzzle_after, run, Reply, coded, reply_to, replies, on_ledger}
use Rattle.demand_3.specs.Demand3.{decide_as}
use Rattle.puzzle.proofs.Making.{Accepted}
use Rattle.demand_3.proofs.Reached.{Reached, reached_after, stroke_accepted}

entry_state : (l : ℕ) → state_for (eqb (l % 2) 1) ≡ l % 2 + 1
entry_state l =
    ⊎_elim
    (λ (q : l % 2 ≡ 1). rw q)
    (λ (q : l % 2 ≢ 1). rw (ne_eqb (l % 2) 1 q) (omega arith))
    (eq_or_ne (l % 2) 1)

-- the entry's border exists and is not given
pub record Free (n : ℕ) (given : ℕ → Bool) (l : ℕ) : Type 0 where
  pub inside : l / 2 < n
  pub not_given : given (l / 2) ≡ false

-- no two entries have one border
abbrev pub Apart : List ℕ → Type 0
Apart [] = Unit {0}
Apart (l ∷ ls) = ((m : ℕ) → In m ls → m / 2 ≢ l / 2) × Apart ls

-- a border of entries is that of one of them
entry_in : (ls : List ℕ) (e : ℕ) → In e (borders (decisions ls)) → (l : ℕ) × In l ls × (l / 2 ≡ e)
entry_in [] e m = absurd m
entry_in (l ∷ ls) e (inl q) = (l, inl refl, sym q)
entry_in (l ∷ ls) e (inr m) = let o = entry_in ls e m in (o.0, inr o.1, o.2)

once : (ls : List ℕ) → Apart ls → (e : ℕ) → count e (borders (decisions ls)) ≤ 1
once [] a e = omega (arith, count_none e)
once (l ∷ ls) a e =
    ⊎_elim
    (λ (q : l / 2 ≡ e).
    let none : count e (borders (decisions ls)) ≤ 0 = unnamed ls (λ m i p. a.0 m i (p ∙ sym q)) in
    rw q (omega (arith, count_here e (borders (decisions ls)))))
    (λ (q : l / 2 ≢ e). omega (arith, count_other e (l / 2) (borders (decisions ls)) q, once ls a.1 e))
    (eq_or_ne (l / 2) e)
  where
    unnamed : (ms : List ℕ) → ((m : ℕ) → In m ms → m / 2 ≢ e) → count e (borders (decisions ms)) ≤ 0
    unnamed [] f = omega (arith, count_none e)
    unnamed (m ∷ ms) f = omega (arith, count_other e (m / 2) (borders (decisions ms)) (f m (inl refl)), unnamed ms (λ k i. f k (inr i)))

-- such entries are accepted as one stroke on a fresh puzzle
pub one_stroke : (n : ℕ) (given : ℕ → Bool) (ls : List ℕ) → ((l : ℕ) → In l ls → Free n given l) → Apart ls → stroke_code n (standing given []) (decisions ls) ≡ 0
unfolding state_in
one_stroke n given ls f a =
    let at : (e : ℕ) → 1 ≤ count e (borders (decisions ls)) → (l : ℕ) × In l ls × (l / 2 ≡ e) = λ e h. entry_in ls e (count_in e (borders (decisions ls)) h) in
    fits_code n (standing given []) (decisions ls)
    record {
      inside = λ e h. let o = at e h in rw o.2 at (f o.0 o.1).inside;
      once = once ls a;
      free = λ e h. let o = at e h in standing_named n given [] e (rw o.2 at (f o.0 o.1).not_given);
    }

-- what each entry's border has then
pub decided_state : (ls : List ℕ) → Apart ls → (l : ℕ) → In l ls → state_in (decisions ls) (l / 2) ≡ l % 2 + 1
unfolding state_in
decided_state [] a l m = absurd m
decided_state (x ∷ ls) a l (inl e) = rw (e, eq-eqb (x / 2) (x / 2) refl) (entry_state x)
decided_state (x ∷ ls) a l (inr m) = rw (ne_eqb (x / 2) (l / 2) (λ q. a.0 l m (sym q))) (decided_state ls a.1 l m)

-- entries that stand on one board, none twice, have different borders
pub standing_apart : (s : ℕ → ℕ) (ls : List ℕ) → Standing s ls → ((l : ℕ) → count l ls ≤ 1) → Apart ls
standing_apart s [] stood one = tt
standing_apart s (l ∷ ls) stood one = (
  λ m i q.
      let kind : m % 2 ≡ l % 2 = omega (arith, stood m (inr i), stood l (inl refl), ap s q) in
      let e : m ≡ l = omega arith in
      let c : 1 ≤ count l ls = in_count l ls (rw e at i) in
      omega (arith, one l, count_here l ls),
  standing_apart s ls (λ m i. stood m (inr i)) (λ m. omega (arith, one m, more m)),
)
  where
    more : (m : ℕ) → count m ls ≤ count m (l ∷ ls)
    more m = ⊎_elim (λ (q : l ≡ m). rw q (omega (arith, count_here m ls))) (λ (z : l ≢ m). omega (arith, count_other m l ls z)) (eq_or_ne l m)

-- CUTTING
-- the decisions of parts are the parts' decisions
decisions_parts : (parts : List (List ℕ)) → decisions (whole parts) ≡ whole (map decisions parts)
unfolding whole
decisions_parts [] = refl
decisions_parts (es ∷ parts) = map-append decision_of es (whole parts) ∙ ap (λ m. decisions es ++ m) (decisions_parts parts)

on_ledger_lem : (parts : List (List ℕ)) → map on_ledger (map stroke parts) ≡ strokes (map decisions parts)
on_ledger_lem [] = refl
on_ledger_lem (es ∷ parts) = ap (λ m. ledger.stroke (decisions es) ∷ m) (on_ledger_lem parts)

-- what stands after the strokes: all of the parts' entries
pub cut_ledger : (n : ℕ) (given : ℕ → Bool) (parts : List (List ℕ)) → stroke_code n (standing given []) (decisions (whole parts)) ≡ 0
    → whole (ledger_of n given [] (map on_ledger (map stroke parts))) ≡ decisions (whole parts)
unfolding whole
cut_ledger n given parts q =
    ap (λ cs. whole (ledger_of n given [] cs)) (on_ledger_lem parts)
    ∙ cut n given (map decisions parts) [] (rw (decisions_parts parts) at q) ∙ sym (decisions_parts parts)

-- EACH STROKE IS ACCEPTED
module _ (kind : Kind) (h w : ℕ) (given clues : List ℕ) (a : Accepted h w given clues) where
  abbrev n : ℕ
  n = border_count (grid h w)

  reply_zero : (L : List (List Decision)) (p : Puzzle) → Reached kind h w given clues L p → (es : List ℕ)
      → stroke_code n (standing (is_given given) (whole L)) (decisions es) ≡ 0 → reply_to p (stroke es) ≡ coded 0
  unfolding reply_to
  reply_zero L p r es q =
      ap (λ x. coded (stroke_of x (decisions es)).code) r.constants ∙ ap coded (stroke_accepted kind h w given clues a L (book_of p) r.stood (decisions es) q)

  pub all_accepted : (L : List (List Decision)) (p : Puzzle) → Reached kind h w given clues L p → (parts : List (List ℕ))
      → stroke_code (border_count (grid h w)) (standing (is_given given) (whole L)) (decisions (whole parts)) ≡ 0
      → (x : Reply) → In x (replies p (map stroke parts)) → x ≡ coded 0
  unfolding replies whole
  all_accepted L p r [] q x m = absurd m
  all_accepted L p r (es ∷ parts) q x m =
      let f = code_fits n (standing (is_given given) (whole L)) (decisions es ++ decisions (whole parts)) (rw (map-append decision_of es (whole parts)) at q) in
      let first = fits_code n (standing (is_given given) (whole L)) (decisions es) (fits_first n (is_given given) (whole L) (decisions es) (decisions (whole parts)) f) in
      let then = fits_code n (standing (is_given given) (whole L ++ decisions es)) (decisions (whole parts)) (fits_then n (is_given given) (whole L) (decisions es) (decisions (whole parts)) f) in
      let L' = ledger.added L (decisions es) in
      let next : Reached kind h w given clues L' (puzzle_after p (stroke es)) =
      rw (after_stroke n (is_given given) L (decisions es) first) at (reached_after kind h w given clues a L p r (stroke es)) in
      ⊎_elim
      (λ (e : x ≡ reply_to p (stroke es)). e ∙ reply_zero L p r es first)
      (λ k. all_accepted L' (puzzle_after p (stroke es)) next parts (rw (whole_added L (decisions es)) then) x k)
      m

-- ONE BY ONE: a decide is a stroke of one
abbrev pub singles : List ℕ → List (List ℕ)
singles ls = map (λ l. l ∷ []) ls

pub whole_singles : (ls : List ℕ) → whole (singles ls) ≡ ls
unfolding whole
whole_singles [] = refl
whole_singles (l ∷ ls) = ap (λ m. l ∷ m) (whole_singles ls)

pub run_singles : (ls : List ℕ) (p : Puzzle) → run p (map stroke (singles ls)) ≡ run p (map decide_as ls)
unfolding run puzzle_after
run_singles [] p = refl
run_singles (l ∷ ls) p = run_singles ls (puzzle_after p (decide_as l))

pub reply_singles : (ls : List ℕ) (p : Puzzle) → replies p (map stroke (singles ls)) ≡ replies p (map decide_as ls)
unfolding replies puzzle_after reply_to
reply_singles [] p = refl
reply_singles (l ∷ ls) p = ap (λ m. reply_to p (decide_as l) ∷ m) (reply_singles ls (puzzle_after p (decide_as l)))
