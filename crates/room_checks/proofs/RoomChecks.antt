-- The clued rooms one after the other: a law for each way through a room, for a turn of the loop, and for its ends. Assumes nothing.
use Prim.Native.Nat.{ℕ, ◌+◌, ◌-◌, ◌≤◌, ◌<◌}
use mathlib.Core.Path.{◌≡◌, ap, sym, ◌∙◌}
use mathlib.Core.Logic.{◌≢◌}
use mathlib.Core.Bool.{Bool}
use mathlib.Core.List.{List}
use mathlib.Core.Option.{Option, none, some}
use native.Mathlib.Nat.{sub-zero}
use borrow.Author.Tests.{eq-eqb, ne_eqb}
use lib.ListN.{length, get_or}
use Rattle.limits.specs.Limits.{no_clue}
use Rattle.lists.specs.Choice.{or_else}
use Rattle.lists.specs.Lists.{count_from, range, first}
use Rattle.lists.proofs.ListLaws.{count_from_step, count_from_end}
use Rattle.grid.specs.declared.Grid.{Grid}
use Rattle.std.specs.Prelude as std
use Rattle.std.specs.Prelude.{Some, None}
use Rattle.rooms.specs.RoomGraph.{room_graph, room_borders, edge_state, side_of, side_list, room_entries}
use Rattle.rooms.proofs.FindLaws.{side_list_lem}
use Rattle.room_checks.specs.RoomChecks.{clue_list, Faulty, fault_at, rooms_fault, Checks}

module _ (g : Grid) (given : ℕ → Bool) (cs : List ℕ) (s : ℕ → ℕ) (clue : ℕ) where
  pub no_clue_lem : clue ≡ no_clue → side_list g given cs s None ≡ clue_list g given cs clue s
  unfolding clue_list
  no_clue_lem q = rw (eq-eqb clue no_clue q)

  pub has_clue : clue ≢ no_clue → (r : std.Option Bool) → r ≡ side_of (room_graph g given cs) clue (edge_state (room_borders g given cs) s) → side_list g given cs s r ≡ clue_list g given cs clue s
  unfolding clue_list
  has_clue z r q = rw (ne_eqb clue no_clue z) (ap (side_list g given cs s) q ∙ side_list_lem g given cs s clue)

-- ALL ROOMS
module _ (g : Grid) (given : ℕ → Bool) (cs : ℕ → List ℕ) (clues : List ℕ) (s : ℕ → ℕ) where
  abbrev list : ℕ → Option (List ℕ)
  list r = clue_list g given (cs r) (get_or clues r 0) s

  abbrev count : ℕ
  count = length clues

  -- what the rooms from r on give
  pub rest : ℕ → Option Faulty
  rest r = first (λ k. fault_at k (list k)) (count_from r (count - r))

  pub rest_all : rest 0 ≡ rooms_fault g given cs clues s
  unfolding rest rooms_fault range
  rest_all = rw (sub-zero count)

  -- at the end nothing was found
  pub checks_none : (r : ℕ) → length clues ≤ r → rest r ≡ rooms_fault g given cs clues s → Checks g given cs clues s None
  unfolding rest first
  checks_none r h inv = record { told = sym (rw (count_from_end count r h)) ∙ inv; among = tt }

  -- a turn, by what the room's count finds
  module _ (r : ℕ) (h : r < length clues) (inv : rest r ≡ rooms_fault g given cs clues s) {x : std.Option Bool} (e : side_list g given (cs r) s x ≡ clue_list g given (cs r) (get_or clues r 0) s) where
    pub checks_at : {wall : Bool} → x ≡ Some wall → Checks g given cs clues s (Some (record { room = r; wall = wall }))
    unfolding rest first fault_at or_else
    checks_at {wall} q =
        let here : list r ≡ some (room_entries g given (cs r) wall s) = sym e ∙ ap (side_list g given (cs r) s) q in
        record { told = sym (rw (count_from_step count r h, here)) ∙ inv; among = h }

    pub rest_turn : x ≡ None → rest (r + 1) ≡ rooms_fault g given cs clues s
    unfolding rest first fault_at or_else
    rest_turn q =
        let here : list r ≡ none = sym e ∙ ap (side_list g given (cs r) s) q in
        sym (rw (count_from_step count r h, here)) ∙ inv
