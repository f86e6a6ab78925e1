-- THE THEOREMS of the room graph's calls: for every accepted making and every list of calls, refused ones included, the record's states are the
-- standing edges, and the next ask answers exactly what the lone room check finds on them. What it lists stands, rules the count out wherever it stands,
-- and is a fault there again; where each edge is decided it is clear exactly when the parts equal the count. Assumes nothing.
use Prim.Native.Nat.{ℕ, ◌+◌, ◌≤◌, ◌<◌}
use mathlib.Core.Path.{◌≡◌, refl, ap, sym, ◌∙◌}
use mathlib.Core.Bool.{Bool, true, false}
use mathlib.Core.List.{List, [], ◌++◌}
use mathlib.Core.Logic.{◌↔◌, ◌≢◌}
use mathlib.Core.Option.{Option, none, some}
use native.Mathlib.Omega.{arith}
use borrow.Author.Tests.{leb-true, eqb-true}
use lib.Dec.{leb, eqb}
use lib.ListN.{length, get_or, drop, get_or-append}
use lib.Seq.{sets, sets-eq}
use Rattle.lists.specs.Choice.{both}
use Rattle.lists.proofs.ChoiceLaws.{both_true}
use Rattle.borders.specs.Entry.{Standing}
use Rattle.limits.specs.Limits.{most_cells, most_borders}
use Rattle.answers.specs.Answers.{Outcome, refused, clear, found, listed}
use Rattle.ledger.specs.declared.Book.{Book}
use Rattle.ledger.specs.Ledger.{Call, ledger_of}
use Rattle.ledger.specs.Books.{zeros, fresh_book, none_given, run}
use Rattle.ledger.proofs.BookLaws.{zeros_length}
use Rattle.room_parts.specs.Graph.{Full, states_in, connected_parts}
use Rattle.city_count.specs.Fault.{lone_fault}
use Rattle.city_count.specs.Room.{room_of, fresh_room, ends_exist, room_code, sizes_ok, make_of, fault_of, ask_of}
use Rattle.city_count.specs.Run.{after_calls, state_after, graph_from}
use Rattle.city_count.proofs.LoopLaws.{Ends, all_ends}
use Rattle.city_count.proofs.RoomLaws.{Fits, ask_accepted}
use Rattle.city_count.proofs.LoneLaws.{lone_above, lone_listed, lone_again, lone_excludes, lone_decides, lone_agrees, lone_ends}
use Rattle.city_count.proofs.Reached.{reached, reached_code, run_book}

-- a slice that is copied to an array's front stands there
copied : (us : List ℕ) (i : ℕ) → length us ≤ most_borders → i < length us → get_or (sets zeros 0 us) i 0 ≡ get_or us i 0
copied us i l h =
    let q : sets zeros 0 us ≡ us ++ drop (0 + length us) zeros = sets-eq us zeros 0 (omega (arith, zeros_length)) in
    ap (λ (x : List ℕ). get_or x i 0) q ∙ get_or-append us (drop (0 + length us) zeros) 0 i h

-- what an ask that is not refused says was found
abbrev found_in : Outcome → Option (List ℕ)
found_in (listed l) = some l
found_in clear = none
found_in (refused n) = none

found_back : (o : Option (List ℕ)) (x : Outcome) → found o ≡ x → o ≡ found_in x
found_back none x q = ap found_in q
found_back (some l) x q = ap found_in q

-- what an accepted making says of its arguments
pub record Accepted (n : ℕ) (us vs : List ℕ) (count : ℕ) : Type 0 where
  pub few_vertices : n ≤ most_cells
  pub few_edges : length us ≤ most_borders
  pub lengths : length us ≡ length vs
  pub ends : Ends n us vs (length us)
  pub room : (make_of n us vs count).room ≡ fresh_room n (length us) (sets zeros 0 us) (sets zeros 0 vs) count

pub made_accepted : (n : ℕ) (us vs : List ℕ) (count : ℕ) → (make_of n us vs count).code ≡ 0 → Accepted n us vs count
made_accepted n us vs count = go (sizes_ok n us vs) refl (ends_exist n (length us) us vs) refl
  where
    go : (a : Bool) → sizes_ok n us vs ≡ a → (b : Bool) → ends_exist n (length us) us vs ≡ b → (make_of n us vs count).code ≡ 0 → Accepted n us vs count
    go true p true q z =
        let x = both_true (leb n most_cells) (both (leb (length us) most_borders) (eqb (length us) (length vs))) p in
        let y = both_true (leb (length us) most_borders) (eqb (length us) (length vs)) x.1 in
        record {
          few_vertices = leb-true n most_cells x.0;
          few_edges = leb-true (length us) most_borders y.0;
          lengths = eqb-true (length us) (length vs) y.1;
          ends = all_ends n us vs (length us) q;
          room = rw (p, q);
        }
    go true p false q z = absurd (let k = rw (p, q) at z in omega (arith, k))
    go false p b q z = absurd (let k = rw p at z in omega (arith, k))

module _ (n : ℕ) (us vs : List ℕ) (count : ℕ) (ok : Accepted n us vs count) where
  abbrev firsts : List ℕ
  firsts = sets zeros 0 us

  abbrev seconds : List ℕ
  seconds = sets zeros 0 vs

  first_at : (i : ℕ) → i < length us → get_or firsts i 0 ≡ get_or us i 0
  first_at i h = copied us i ok.few_edges h

  second_at : (i : ℕ) → i < length us → get_or seconds i 0 ≡ get_or vs i 0
  second_at i h = copied vs i (omega (arith, ok.lengths, ok.few_edges)) (omega (arith, ok.lengths))

  fits : Fits n (length us) firsts seconds
  fits =
      record {
        few_vertices = ok.few_vertices;
        few_edges = ok.few_edges;
        ends = λ i h. let o = ok.ends i h in (rw (first_at i h) o.0, rw (second_at i h) o.1);
      }

  module _ (cs : List Call) where
    abbrev kept : Book
    kept = run (length us) (fresh_book zeros) cs

    there : after_calls n us vs count cs ≡ room_of n (length us) firsts seconds count kept
    there = rw ok.room (run_book n (length us) firsts seconds count fits cs)

    -- the record's states are the standing edges
    pub states_stand : (e : ℕ) → e < length us → get_or (after_calls n us vs count cs).book.states e 0 ≡ state_after us cs e
    states_stand e h = rw there ((reached n (length us) firsts seconds count fits cs).stands e h)

    -- the record holds together
    pub run_holds : room_code (after_calls n us vs count cs) ≡ 0
    run_holds = rw there (reached_code n (length us) firsts seconds count fits (ledger_of (length us) none_given [] cs) kept (reached n (length us) firsts seconds count fits cs))

    -- what the check finds on the record is what it finds on the standing edges
    fault_stands : fault_of (after_calls n us vs count cs) ≡ lone_fault (graph_from n us vs) count (state_after us cs)
    fault_stands =
        rw there
        (lone_ends n (length us) firsts seconds us vs count (states_in kept.states) first_at second_at
        ∙ lone_agrees (graph_from n us vs) count (states_in kept.states) (state_after us cs) (reached n (length us) firsts seconds count fits cs).stands)

    -- the next ask with a long enough buffer comes to that
    pub ask_answers : (places : ℕ) → length us ≤ places → ask_of (after_calls n us vs count cs) places ≡ found (lone_fault (graph_from n us vs) count (state_after us cs))
    ask_answers places h =
        ask_accepted (after_calls n us vs count cs) places run_holds (let k : (after_calls n us vs count cs).edges ≤ places = rw there h in k) ∙ ap found fault_stands

    -- and an ask's answer tells what the check found
    told : (x : Outcome) (places : ℕ) → length us ≤ places → ask_of (after_calls n us vs count cs) places ≡ x → lone_fault (graph_from n us vs) count (state_after us cs) ≡ found_in x
    told x places h q = found_back (lone_fault (graph_from n us vs) count (state_after us cs)) x (sym (ask_answers places h) ∙ q)

    -- a count above the vertices is a fault that lists nothing, whatever stands
    pub ask_above : (places : ℕ) → length us ≤ places → n < count → ask_of (after_calls n us vs count cs) places ≡ listed []
    ask_above places h above = ask_answers places h ∙ ap found (lone_above (graph_from n us vs) count (state_after us cs) above)

    -- FULL: where each edge is decided, the next ask is clear exactly when the parts that the Connected edges make equal the count, whatever the count
    pub ask_decides : (places : ℕ) → length us ≤ places → Full (graph_from n us vs) (state_after us cs)
        → (ask_of (after_calls n us vs count cs) places ≡ clear) ↔ (connected_parts (graph_from n us vs) (state_after us cs) ≡ count)
    ask_decides places h full =
        let d = lone_decides (graph_from n us vs) count (state_after us cs) full in
        (λ q. d.0 (told clear places h q), λ q. ask_answers places h ∙ ap found (d.1 q))

    -- LISTED: each listed entry stands as listed
    pub ask_listed : (places : ℕ) → length us ≤ places → (L : List ℕ) → ask_of (after_calls n us vs count cs) places ≡ listed L → Standing (state_after us cs) L
    ask_listed places h L q = lone_listed (graph_from n us vs) count (state_after us cs) L (told (listed L) places h q)

    -- EXCLUDES: wherever the listed edges stand, the parts that the Connected edges make are not as many as the count
    pub ask_excludes : (places : ℕ) → length us ≤ places → (L : List ℕ) → ask_of (after_calls n us vs count cs) places ≡ listed L
        → (t : ℕ → ℕ) → Standing t L → connected_parts (graph_from n us vs) t ≢ count
    ask_excludes places h L q = lone_excludes (graph_from n us vs) count (state_after us cs) L (told (listed L) places h q)

  -- AGAIN: wherever the list of an ask's fault stands after other calls, the ask is a fault there too
  pub ask_again : (cs ds : List Call) (L : List ℕ) (places : ℕ) → length us ≤ places → ask_of (after_calls n us vs count cs) places ≡ listed L
      → Standing (state_after us ds) L → (M : List ℕ) × (ask_of (after_calls n us vs count ds) places ≡ listed M)
  ask_again cs ds L places h q stood =
      let o = lone_again (graph_from n us vs) count (state_after us cs) L (told cs (listed L) places h q) (state_after us ds) stood in
      (o.0, ask_answers ds places h ∙ ap found o.1)

  -- SAME: where the same edges stand, asks answer alike
  pub ask_same : (cs ds : List Call) → ((e : ℕ) → e < length us → state_after us cs e ≡ state_after us ds e) → (places : ℕ) → length us ≤ places
      → ask_of (after_calls n us vs count cs) places ≡ ask_of (after_calls n us vs count ds) places
  ask_same cs ds same places h =
      ask_answers cs places h ∙ ap found (lone_agrees (graph_from n us vs) count (state_after us cs) (state_after us ds) same) ∙ sym (ask_answers ds places h)
