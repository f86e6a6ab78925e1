-- What the lone room check finds, and what the buffer then holds: nothing listed for a count above the vertices, the side that fails, or nothing.
-- Assumes nothing.
use Prim.Native.Nat.{ℕ, ◌≤◌, ◌<◌}
use mathlib.Core.Path.{◌≡◌, refl, ap, sym, ◌∙◌}
use mathlib.Core.Bool.{Bool, true, false}
use native.Mathlib.Omega.{arith}
use mathlib.Core.List.{List, []}
use mathlib.Core.Option.{Option, none, some}
use lib.Dec.{ltb}
use lib.ListN.{length}
use lib.Seq.{sets}
use Rattle.lists.specs.Choice.{pick, give, or_else}
use Rattle.std.specs.Prelude as std
use Rattle.std.specs.Prelude.{Some, None}
use Rattle.answers.specs.Answers.{Finds}
use Rattle.ledger.specs.Ledger.{state_for}
use Rattle.borders.specs.Entry.{entry_of}
use Rattle.room_parts.specs.Graph.{Graph, joined_parts, tipped_of, failing_of}
use Rattle.city_count.specs.Fault.{entries_of, room_fault, lone_fault}
use Rattle.city_count.proofs.LoneLaws.{lone_above, lone_within}

told : (o : Option (List ℕ)) (L : List ℕ) (buffer buffer' : List ℕ) (n : ℕ) → o ≡ some L → n ≡ length L → buffer' ≡ sets buffer 0 L → Finds o buffer buffer' (Some n)
told o L buffer buffer' n e en eb = rw e (record { answer = ap Some en; stored = eb })

quiet : (o : Option (List ℕ)) (buffer : List ℕ) → o ≡ none → Finds o buffer buffer None
quiet o buffer e = rw e (record { answer = refl; stored = refl })

module _ (g : Graph) (count : ℕ) (s : ℕ → ℕ) where
  -- the entries of a side
  side : Bool → List ℕ
  side wall = entries_of (entry_of wall) (state_for wall) g.edges s

  fault_by : (t u : Bool) → Option (List ℕ)
  fault_by t u = or_else (give t (side false)) (give u (side true))

  side_fails : (t u wall : Bool) → pick t (Some false) (pick u (Some true) None) ≡ Some wall → fault_by t u ≡ some (side wall)
  unfolding fault_by or_else give
  side_fails true u wall q = let e : false ≡ wall = cc in rw e refl
  side_fails false true wall q = let e : true ≡ wall = cc in rw e refl
  side_fails false false wall q = absurd (let z : ◌≡◌ {A = ℕ} 0 1 = cc in omega arith)

  none_fails : (t u : Bool) → pick t (Some false) (pick u (Some true) None) ≡ None → fault_by t u ≡ none
  unfolding fault_by or_else give
  none_fails true u q = absurd (let z : ◌≡◌ {A = ℕ} 0 1 = cc in omega arith)
  none_fails false true q = absurd (let z : ◌≡◌ {A = ℕ} 0 1 = cc in omega arith)
  none_fails false false q = refl

  -- above the vertices
  pub told_above : (buffer : List ℕ) → g.vertices < count → Finds (lone_fault g count s) buffer buffer (Some 0)
  told_above buffer h = told (lone_fault g count s) [] buffer buffer 0 (lone_above g count s h) refl refl

  module _ (buffer : List ℕ) (h : count ≤ g.vertices) (r : std.Option Bool) (e : r ≡ failing_of g count s) where
    pub told_side : (wall : Bool) (n : ℕ) (buffer' : List ℕ) → r ≡ Some wall → n ≡ length (entries_of (entry_of wall) (state_for wall) g.edges s)
        → buffer' ≡ sets buffer 0 (entries_of (entry_of wall) (state_for wall) g.edges s) → Finds (lone_fault g count s) buffer buffer' (Some n)
    unfolding room_fault failing_of fault_by side
    told_side wall n buffer' q en eb =
        told (lone_fault g count s) (side wall) buffer buffer' n (lone_within g count s h ∙ side_fails (tipped_of g count s) (ltb count (joined_parts g s)) wall (sym e ∙ q)) en eb

    pub told_none : r ≡ None → Finds (lone_fault g count s) buffer buffer None
    unfolding room_fault failing_of fault_by side
    told_none q = quiet (lone_fault g count s) buffer (lone_within g count s h ∙ none_fails (tipped_of g count s) (ltb count (joined_parts g s)) (sym e ∙ q))
