-- The standing ledger (SPEC 1.5, 1.6, 12.1 to 12.4), a list of strokes over n borders of which some are given walls, the numbers that refuse its calls,
-- and question 2 of it. Assumes nothing.
use Rattle.std.specs.Prelude.{ℕ, ◌-◌, ◌/◌, ◌%◌, Bool, not, List, [], ◌∷◌, ◌++◌, map, eqb, ltb, leb, length, get_or, take}
use Rattle.lists.specs.Choice.{both, either, pick}
use Rattle.lists.specs.Lists.{range, count, all}

-- a border and its value, true for Wall (SPEC 1.5)
pub record Decision : Type 0 where
  pub border : ℕ
  pub wall : Bool

-- a stroke is given as a list of entries: 2 × border + 1 for Wall, 2 × border for Connected (SPEC 1.4, 12.1)
abbrev pub decision_of : ℕ → Decision
decision_of entry = record { border = entry / 2; wall = eqb (entry % 2) 1 }

abbrev pub decisions : List ℕ → List Decision
decisions entries = map decision_of entries

-- a single decide is a stroke of one (SPEC 12.1)
abbrev pub single : ℕ → Bool → List Decision
single e wall = record { border = e; wall = wall } ∷ []

pub data Call : Type 0 where
  stroke : List Decision → Call
  undo : Call
  ask : Call

-- Connected (1) or Wall (2), where undecided is 0 (SPEC 1.3)
abbrev pub state_for : Bool → ℕ
state_for wall = pick wall 2 1

-- the state that decisions give a border, 0 where they do not name it
unfoldable pub state_in : List Decision → ℕ → ℕ
state_in [] e = 0
state_in (d ∷ l) e = pick (eqb d.border e) (state_for d.wall) (state_in l e)

-- given walls stand as Wall, the ledger's borders with their values, all others are undecided (SPEC 1.6)
unfoldable pub standing : (ℕ → Bool) → List Decision → ℕ → ℕ
unfolding state_in
standing given l e = pick (given e) 2 (state_in l e)

-- strokes put together (SPEC 1.6): their decisions, or the entries that they are given as
unfoldable pub whole : {A : Type 0} → List (List A) → List A
whole [] = []
whole (s ∷ L) = s ++ whole L

abbrev pub borders : List Decision → List ℕ
borders l = map (λ (d : Decision). d.border) l

-- question 3 of a stroke: each border exists (SPEC 3.3)
abbrev pub all_exist : ℕ → List Decision → Bool
all_exist n ds = all (λ (d : Decision). ltb d.border n) ds

-- question 14: no border stands there twice, whatever the values (SPEC 12.2)
unfoldable pub none_twice : List ℕ → Bool
unfolding all count
none_twice l = all (λ e. leb (count e l) 1) l

-- question 4: each border is undecided (SPEC 3.4)
abbrev pub all_free : (ℕ → ℕ) → List Decision → Bool
all_free state ds = all (λ (d : Decision). eqb (state d.border) 0) ds

-- the number that refuses a stroke over n borders with these states, or 0: each question is put to the whole stroke before the next (SPEC 12.2).
-- The states are a function: the ledger's `standing`, or those of a record
unfoldable pub stroke_code : ℕ → (ℕ → ℕ) → List Decision → ℕ
unfolding none_twice
stroke_code n state ds = pick (all_exist n ds) (pick (none_twice (borders ds)) (pick (all_free state ds) 0 4) 14) 3

-- the number that refuses an undo of a ledger with so many strokes, or with so many decisions, or 0: 5 where there is none (SPEC 3.5)
abbrev pub undo_code : ℕ → ℕ
undo_code len = pick (eqb len 0) 5 0

-- the number of the first of two questions that refuses, or 0 (SPEC 3)
abbrev pub first_code : ℕ → ℕ → ℕ
first_code code next = pick (eqb code 0) next code

-- an empty stroke is not kept (SPEC 12.3)
unfoldable pub added : List (List Decision) → List Decision → List (List Decision)
added L [] = L
added L (d ∷ ds) = L ++ ((d ∷ ds) ∷ [])

-- an accepted stroke stands at the end, all of it or nothing; an accepted undo drops the last stroke; asks and refused calls change nothing (SPEC 1.5)
unfoldable pub ledger_after : ℕ → (ℕ → Bool) → List (List Decision) → Call → List (List Decision)
unfolding stroke_code added standing whole
ledger_after n given L (stroke ds) = pick (eqb (stroke_code n (standing given (whole L)) ds) 0) (added L ds) L
ledger_after n given L undo = take (length L - 1) L
ledger_after n given L ask = L

-- the ledger after a list of calls
unfoldable pub ledger_of : ℕ → (ℕ → Bool) → List (List Decision) → List Call → List (List Decision)
unfolding ledger_after
ledger_of n given L [] = L
ledger_of n given L (c ∷ cs) = ledger_of n given (ledger_after n given L c) cs

-- question 2 (SPEC 3.2), border by border: states are 0 to 2
abbrev pub state_ok : List ℕ → ℕ → Bool
state_ok s e = leb (get_or s e 0) 2

-- the ledger names each decided border that is not given once, and nothing else: how often it is to name e
abbrev pub named_once : (ℕ → Bool) → List ℕ → List ℕ → ℕ → Bool
named_once given s l e = eqb (count e l) (pick (both (not (given e)) (not (eqb (get_or s e 0) 0))) 1 0)

-- given walls are Wall
abbrev pub given_wall : (ℕ → Bool) → List ℕ → ℕ → Bool
given_wall given s e = either (not (given e)) (eqb (get_or s e 0) 2)

-- question 2 of a ledger: n borders with states s, of which the ledger names l
unfoldable pub holds_of : ℕ → (ℕ → Bool) → List ℕ → List ℕ → Bool
unfolding all range
holds_of n given s l =
    both (all (state_ok s) (range n)) (both (both (all (λ e. ltb e n) l) (all (named_once given s l) (range n))) (all (given_wall given s) (range n)))
