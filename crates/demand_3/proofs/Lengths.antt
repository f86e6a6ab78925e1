-- HOW MANY ENTRIES an ask lists, whatever the record and the buffer: at most nine a cell for translates, and sixteen for images (SPEC 3.6, 14.5).
-- Assumes nothing.
use Prim.Native.Nat.{ℕ, zero, suc, ◌*◌, ◌≤◌}
use mathlib.Core.Path.{◌≡◌, refl, ap, ◌∙◌, subst}
use mathlib.Core.List.{List}
use mathlib.Core.Option.{Option, none, some}
use native.Mathlib.Omega.{arith}
use lib.ListN.{length}
use lib.Seq.{sets}
use Rattle.std.proofs.lemmas.List.{length-take}
use Rattle.grid.specs.Grid.{cells}
use Rattle.puzzle.specs.declared.Puzzle.{Puzzle}
use Rattle.puzzle.specs.Kind.{images_of, ask_room}
use Rattle.puzzle.specs.Fault.{Found}
use Rattle.puzzle.specs.Puzzle.{grid_of, given_of, clues_of, book_of, fault_in, ask_code, says, writes, ask_of}
use Rattle.puzzle.proofs.Answers.{ask_accepted}
use Rattle.puzzle.proofs.Ready.{ready, ready_states}
use Rattle.puzzle.proofs.KindLaws.{translates_room, images_room}
use Rattle.demand_3.specs.Demand3.{list_of}
use Rattle.demand_3.proofs.FaultLaws.{fault_most}

-- a list of at most n entries is listed by at most n
listed_most : (code n : ℕ) (f : Option Found) (buf : List ℕ) → (code ≡ 0 → (x : Found) → f ≡ some x → length x.list ≤ n)
    → length (list_of (record { answer = says code f; buffer = writes code f buf })) ≤ n
listed_most zero n none buf h = omega arith
listed_most zero n (some x) buf h = omega (arith, h refl x refl, length-take (length x.list) (sets buf 0 x.list))
listed_most (suc code) n f buf h = omega arith

module _ (p : Puzzle) (buf : List ℕ) where
  list_most : length (list_of (ask_of p buf)) ≤ ask_room p.kind (grid_of p)
  list_most =
      listed_most (ask_code p buf) (ask_room p.kind (grid_of p)) (fault_in p) buf
      (λ z x q. fault_most (images_of p.kind) (grid_of p) (given_of p) (clues_of p) (book_of p).states (ready_states p (ready p (ask_accepted p buf z))) x q)

  pub translates_most : p.kind ≡ 0 → length (list_of (ask_of p buf)) ≤ 9 * cells (grid_of p)
  translates_most k = subst (λ n. length (list_of (ask_of p buf)) ≤ n) (ap (λ n. ask_room n (grid_of p)) k ∙ translates_room (grid_of p)) list_most

  pub images_most : p.kind ≡ 1 → length (list_of (ask_of p buf)) ≤ 16 * cells (grid_of p)
  images_most k = subst (λ n. length (list_of (ask_of p buf)) ≤ n) (ap (λ n. ask_room n (grid_of p)) k ∙ images_room (grid_of p)) list_most
