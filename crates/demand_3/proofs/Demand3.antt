-- DEMAND 3, for every accepted making of both kinds. The statement, sentence by sentence, is the record `Demand3` of specs/Demand3.antt. Assumes nothing.
use Prim.Native.Nat.{ℕ, ◌+◌, ◌/◌, ◌%◌, ◌≤◌, ◌<◌}
use mathlib.Core.Path.{◌≡◌, ap, sym, ◌∙◌, subst}
use mathlib.Core.Logic.{⊎_elim, ◌↔◌}
use mathlib.Core.Bool.{true, false}
use mathlib.Core.List.{List, [], map}
use mathlib.Core.Option.{Option, none, some}
use native.Mathlib.Omega.{arith}
use Rattle.lists.specs.Lists.{In}
use Rattle.lists.proofs.Cases.{le_or_lt, true_or_false}
use Rattle.frame.specs.Frame.{States}
use Rattle.grid.specs.Grid.{grid, border_count}
use Rattle.borders.specs.Entry.{Standing}
use Rattle.borders.specs.Border.{state_of, StatesOk}
use Rattle.shape.specs.Laws.{FullBoard}
use Rattle.ledger.specs.Ledger.{decisions, state_in, standing, whole, stroke_code}
use Rattle.ledger.proofs.Standing.{standing_named, standing_given}
use Rattle.puzzle.specs.declared.Made.{Made}
use Rattle.puzzle.specs.declared.kind.Kind.{Kind}
use Rattle.puzzle.specs.Kind.{kind_images}
use Rattle.puzzle.specs.Answer.{Clear}
use Rattle.rooms.specs.Rooms.{is_given}
use Rattle.puzzle.specs.Fault.{Found, fault_of}
use Rattle.rooms.specs.Units.{GivenWalls}
use Rattle.demand_3.specs.Laws.{RightBoard}
use Rattle.puzzle.specs.Puzzle.{states_of, fresh_puzzle, make_of, says, ask_of}
use Rattle.demand_3.specs.Run.{Call, stroke, ledger_after, state_after}
use Rattle.demand_3.specs.Demand3.{Long, list_of, list_in, Alike, Gives, IsFault, OrderOf, decide_as, fresh_of, after, AgainBy, Demand3}
use Rattle.puzzle.proofs.Basics.{states_same}
use Rattle.puzzle.proofs.Making.{Accepted, made_accepted, made_fresh}
use Rattle.demand_3.proofs.FaultLaws.{fault_listed, fault_again, fault_excludes, fault_full}
use Rattle.demand_3.proofs.Reached.{Reached, fresh_reached, reached}
use Rattle.demand_3.proofs.Asks.{fault_some, some_fault, clear_none, none_clear, states_stand, states_ok, state_outside, asked_gives}
use Rattle.demand_3.proofs.Orders.{Free, Apart, one_stroke, decided_state, standing_apart, cut_ledger, all_accepted, singles, whole_singles, run_singles, reply_singles}

module _ (kind : Kind) (h w : ℕ) (given clues : List ℕ) (made : (make_of kind h w given clues).code ≡ 0) where
  pub accepted : Accepted h w given clues
  accepted = made_accepted kind h w given clues made

  fresh_is : fresh_of kind h w given clues ≡ fresh_puzzle kind (grid h w) given clues
  fresh_is = ap (λ (m : Made). m.puzzle) (made_fresh kind h w given clues made)

  pub reached_calls : (calls : List Call) → Reached kind h w given clues (ledger_after h w given calls) (after kind h w given clues calls)
  reached_calls calls = rw fresh_is (reached kind h w given clues accepted calls)

  -- what stands after the calls, as a list of states, and what the checks find there
  abbrev state_list : List Call → List ℕ
  state_list calls = states_of (border_count (grid h w)) (state_after h w given calls)

  abbrev fault_after : List Call → Option Found
  fault_after calls = fault_of (kind_images kind) (grid h w) given clues (state_list calls)

  stood : (calls : List Call) → state_of (state_list calls) ≡ state_after h w given calls
  stood calls = states_stand h w given clues accepted (ledger_after h w given calls) (reached_calls calls).stood.sound

  ok : (calls : List Call) → StatesOk (grid h w) (state_list calls)
  ok calls = states_ok h w given clues accepted (ledger_after h w given calls) (reached_calls calls).stood.sound

  exact : (calls : List Call) (buf : List ℕ) → Long kind h w buf → Gives (ask_of (after kind h w given clues calls) buf) (fault_after calls)
  exact calls buf long = asked_gives kind h w given clues accepted (ledger_after h w given calls) (reached_calls calls).stood.sound (after kind h w given clues calls) (reached_calls calls) buf long

  same : (a b : List Call) → ((e : ℕ) → e < border_count (grid h w) → state_after h w given a e ≡ state_after h w given b e)
      → (buf_a buf_b : List ℕ) → Long kind h w buf_a → Long kind h w buf_b → Alike (ask_of (after kind h w given clues a) buf_a) (ask_of (after kind h w given clues b) buf_b)
  same a b alike buf_a buf_b long_a long_b =
      let q : fault_after a ≡ fault_after b =
      ap (fault_of (kind_images kind) (grid h w) given clues) (states_same (border_count (grid h w)) (state_after h w given a) (state_after h w given b) alike) in
      let x = exact a buf_a long_a in
      let y = exact b buf_b long_b in
      record { answers = x.answer ∙ ap (says 0) q ∙ sym y.answer; lists = x.list ∙ ap list_in q ∙ sym y.list }

  -- the same entries, cut into strokes in two ways, leave the same borders standing, and so the next ask answers alike
  pub cut_alike : (P Q : List (List ℕ)) → whole P ≡ whole Q → stroke_code (border_count (grid h w)) (standing (is_given given) []) (decisions (whole P)) ≡ 0
      → (buf_a buf_b : List ℕ) → Long kind h w buf_a → Long kind h w buf_b → Alike (ask_of (after kind h w given clues (map stroke P)) buf_a) (ask_of (after kind h w given clues (map stroke Q)) buf_b)
  cut_alike P Q q ok =
      let n = border_count (grid h w) in
      let e = cut_ledger n (is_given given) P ok ∙ ap decisions q ∙ sym (cut_ledger n (is_given given) Q (rw q at ok)) in
      same (map stroke P) (map stroke Q) (λ x l. ap (λ D. standing (is_given given) D x) e)

  -- a fault, as the checks find it
  module _ (calls : List Call) (buf : List ℕ) (long : Long kind h w buf) (fault : IsFault (ask_of (after kind h w given clues calls) buf).answer) where
    found : (f : Found) × (fault_after calls ≡ some f)
    found = fault_some (fault_after calls) (rw (exact calls buf long).answer at fault)

    list_is : list_of (ask_of (after kind h w given clues calls) buf) ≡ found.0.list
    list_is = (exact calls buf long).list ∙ ap list_in found.1

    listed : Standing (state_after h w given calls) (list_of (ask_of (after kind h w given clues calls) buf))
    listed = rw (list_is, ← stood calls) (fault_listed (kind_images kind) (grid h w) given clues (state_list calls) (ok calls) found.0 found.1)

    excludes : (s : States) → FullBoard (grid h w) s → Standing s (list_of (ask_of (after kind h w given clues calls) buf)) → RightBoard (kind_images kind) (grid h w) given clues s → ⊥
    excludes s full there right =
        fault_excludes (kind_images kind) (grid h w) given clues accepted.fit.small s full (state_list calls) (ok calls) found.0 found.1 (rw list_is at there) right

    -- THE GENERAL FORM: after any list of calls after which the listed borders stand as listed, whatever else stands, the ask is a fault
    pub wherever : (calls' : List Call) → Standing (state_after h w given calls') (list_of (ask_of (after kind h w given clues calls) buf))
        → (buf' : List ℕ) → Long kind h w buf' → IsFault (ask_of (after kind h w given clues calls') buf').answer
    wherever calls' there buf' long' =
        let m =
        fault_again (kind_images kind) (grid h w) given clues (state_list calls) (ok calls) found.0 found.1 (state_list calls') (ok calls') (rw (list_is, ← stood calls') at there) in
        rw (exact calls' buf' long').answer (some_fault (fault_after calls') m.0 m.1)

    module _ (parts : List (List ℕ)) (o : OrderOf given (list_of (ask_of (after kind h w given clues calls) buf)) (whole parts)) where
      apart : Apart (whole parts)
      apart = standing_apart (state_after h w given calls) (whole parts) (λ l m. listed l (o.listed l m).0) o.once

      free : (l : ℕ) → In l (whole parts) → Free (border_count (grid h w)) (is_given given) l
      free l m =
          let there : state_after h w given calls (l / 2) ≡ l % 2 + 1 = listed l (o.listed l m).0 in
          record {
            inside = ⊎_elim
                (λ (k : border_count (grid h w) ≤ l / 2).
                absurd (omega (arith, there, state_outside h w given clues accepted (ledger_after h w given calls) (reached_calls calls).stood.sound (l / 2) k)))
                (λ (k : l / 2 < border_count (grid h w)). k)
                (le_or_lt (border_count (grid h w)) (l / 2));
            not_given = (o.listed l m).1;
          }

      -- the parts would be accepted as one stroke
      in_one : stroke_code (border_count (grid h w)) (standing (is_given given) []) (decisions (whole parts)) ≡ 0
      in_one = one_stroke (border_count (grid h w)) (is_given given) (whole parts) free apart

      -- after the strokes each listed border stands as listed: the given walls from the start, the others as decided
      decided : Standing (state_after h w given (map stroke parts)) (list_of (ask_of (after kind h w given clues calls) buf))
      decided l m =
          let n = border_count (grid h w) in
          let D = whole (ledger_after h w given calls) in
          let D' = whole (ledger_after h w given (map stroke parts)) in
          ⊎_elim
          (λ (q : is_given given (l / 2) ≡ true). standing_given n (is_given given) D' (l / 2) q ∙ sym (standing_given n (is_given given) D (l / 2) q) ∙ listed l m)
          (λ (q : is_given given (l / 2) ≡ false).
          standing_named n (is_given given) D' (l / 2) q
          ∙ ap (λ K. state_in K (l / 2)) (cut_ledger n (is_given given) parts in_one) ∙ decided_state (whole parts) apart l (o.whole l m q))
          (true_or_false (is_given given (l / 2)))

      again_cut : AgainBy kind h w given clues (map stroke parts)
      unfolding whole
      again_cut =
          record {
            accepted = rw fresh_is (all_accepted kind h w given clues accepted [] (fresh_puzzle kind (grid h w) given clues) (fresh_reached kind h w given clues accepted) parts in_one);
            fault = wherever (map stroke parts) decided;
          }

    again : (order : List ℕ) → OrderOf given (list_of (ask_of (after kind h w given clues calls) buf)) order → AgainBy kind h w given clues (map decide_as order)
    again order o =
        let c = again_cut (singles order) (rw (whole_singles order) o) in
        record {
          accepted = rw (reply_singles order (fresh_of kind h w given clues)) at c.accepted;
          fault = rw (run_singles order (fresh_of kind h w given clues)) at c.fault;
        }

  fault_full_at : (s : States) (states : List ℕ) → state_of states ≡ s → FullBoard (grid h w) s → GivenWalls given s
      → (fault_of (kind_images kind) (grid h w) given clues states ≡ none) ↔ RightBoard (kind_images kind) (grid h w) given clues s
  fault_full_at s states q complete walls =
      subst (λ (t : States). (fault_of (kind_images kind) (grid h w) given clues states ≡ none) ↔ RightBoard (kind_images kind) (grid h w) given clues t) q
      (fault_full (kind_images kind) (grid h w) given clues accepted.fit.small states (subst (FullBoard (grid h w)) (sym q) complete) (subst (GivenWalls given) (sym q) walls))

  full : (calls : List Call) → FullBoard (grid h w) (state_after h w given calls) → (buf : List ℕ) → Long kind h w buf
      → ((ask_of (after kind h w given clues calls) buf).answer ≡ Clear) ↔ RightBoard (kind_images kind) (grid h w) given clues (state_after h w given calls)
  full calls complete buf long =
      let walls : GivenWalls given (state_after h w given calls) = λ e q. standing_given (border_count (grid h w)) (is_given given) (whole (ledger_after h w given calls)) e q in
      let k : (fault_after calls ≡ none) ↔ RightBoard (kind_images kind) (grid h w) given clues (state_after h w given calls) =
      fault_full_at (state_after h w given calls) (state_list calls) (stood calls) complete walls in
      let e = (exact calls buf long).answer in
      (λ q. k.0 (clear_none (fault_after calls) (sym e ∙ q)), λ right. e ∙ none_clear (fault_after calls) (k.1 right))

-- THE THEOREM
pub demand_3 : (kind : Kind) (h w : ℕ) (given clues : List ℕ) → (make_of kind h w given clues).code ≡ 0 → Demand3 kind h w given clues
demand_3 kind h w given clues made =
    record {
      same = same kind h w given clues made;
      exact = exact kind h w given clues made;
      listed = listed kind h w given clues made;
      excludes = excludes kind h w given clues made;
      again = again kind h w given clues made;
      again_cut = again_cut kind h w given clues made;
      full = full kind h w given clues made;
    }
