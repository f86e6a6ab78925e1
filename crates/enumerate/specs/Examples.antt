-- Closed examples of the call: one unclued room unless it says otherwise; 9 stands in each place of the buffer. Assumes nothing.
use Rattle.std.specs.Prelude.{ℕ, ◌≡◌, refl, true, false, List, [], ◌∷◌, replicate}
use Rattle.limits.specs.Limits.{no_clue}
use Rattle.lists.specs.Lists.{count, range, gather}
use Rattle.ledger.specs.Ledger.{none_twice, stroke_code}
use Rattle.ledger.specs.Books.{zeros, names_from, state_all, book_holds}
use Rattle.puzzle.specs.declared.kind.Kind.{Kind}
use Rattle.puzzle.specs.declared.kind.Kind.TheVariants.{Translates, Images}
use Rattle.puzzle.specs.Fault.{fault_of}
use Rattle.clues.specs.Clues.{lists_code}
use Rattle.puzzle.specs.Puzzle.{together, no_clues, states_of}
use Rattle.demand_3.specs.Run.{Call, decide, run}
use Rattle.demand_3.specs.Demand3.{after}
use Rattle.enumerate.specs.Boards.{Listed, Refused}
use Rattle.enumerate.specs.Boards.{rights, Enumerated, boards_of}

-- a board without given walls on which these borders are decided
abbrev started : ℕ → ℕ → List Call → ℕ → ℕ → Enumerated
started h w calls cap places = boards_of (after Translates h w [] (no_clue ∷ []) calls) cap (replicate places 9)

abbrev lists : ℕ → List ℕ → Enumerated
lists n buf = record { answer = Listed n false; buffer = buf }

abbrev lists_and_more : ℕ → List ℕ → Enumerated
lists_and_more n buf = record { answer = Listed n true; buffer = buf }

abbrev refuses : ℕ → ℕ → Enumerated
refuses n places = record { answer = Refused n; buffer = replicate places 9 }

-- 1 by 2: the one answer is a Wall. A cap of 0 says that there is one; a cap that is just met says that there is no more
caps : (started 1 2 [] 0 0 ≡ lists_and_more 0 []) × (started 1 2 [] 1 1 ≡ lists 1 (2 ∷ [])) × (started 1 2 [] 2 4 ≡ lists 1 (2 ∷ 9 ∷ 9 ∷ 9 ∷ []))
unfolding run lists_code together book_holds zeros no_clues states_of fault_of count rights gather
caps = (refl, refl, refl)

-- 1 by 4: Connected comes before Wall; the places behind the boards stay
rising : (started 1 4 [] 2 7 ≡ lists 2 (1 ∷ 2 ∷ 1 ∷ 2 ∷ 2 ∷ 2 ∷ 9 ∷ [])) × (started 1 4 [] 1 3 ≡ lists_and_more 1 (1 ∷ 2 ∷ 1 ∷ []))
unfolding run lists_code together book_holds zeros no_clues states_of fault_of count rights gather
rising = (refl, refl)

-- 2 by 2: border 0 is compared first
border_0_first : started 2 2 [] 3 12 ≡ lists 3 (1 ∷ 1 ∷ 2 ∷ 2 ∷ 2 ∷ 2 ∷ 1 ∷ 1 ∷ 2 ∷ 2 ∷ 2 ∷ 2 ∷ [])
unfolding run lists_code together book_holds zeros no_clues states_of fault_of count rights gather
border_0_first = refl

-- what stands is kept: 1 by 4 with its middle Connected has no answer, with its first Wall one
kept : (started 1 4 (decide 1 false ∷ []) 2 6 ≡ lists 0 (replicate 6 9)) × (started 1 4 (decide 0 true ∷ []) 2 6 ≡ lists 1 (2 ∷ 2 ∷ 2 ∷ 9 ∷ 9 ∷ 9 ∷ []))
unfolding run stroke_code none_twice state_all names_from lists_code together book_holds zeros no_clues states_of fault_of count rights gather
kept = (refl, refl)

-- 1 by 1 has no border, so that any cap fits, and no answer. 1 by 3: a cap of 2 to the 63rd wants more places than a 64-bit product can tell
places : (started 1 1 [] 9223372036854775808 0 ≡ lists 0 []) × (started 1 3 [] 9223372036854775808 0 ≡ refuses 6 0) × (started 1 3 [] 1 1 ≡ refuses 6 1)
unfolding run lists_code together book_holds zeros no_clues states_of fault_of count rights gather
places = (refl, refl, refl)

-- 24 undecided borders are asked for places, and 25 are refused before that
undecided : (started 1 25 [] 1 23 ≡ refuses 6 23) × (started 1 26 [] 1 0 ≡ refuses 12 0)
unfolding run lists_code together book_holds zeros no_clues states_of count
undecided = (refl, refl)

-- a clue of 4 in the one room of a 1 by 4 board, and a given wall in its middle
rooms : (boards_of (after Translates 1 4 [] (4 ∷ []) []) 2 (replicate 6 9) ≡ lists 1 (2 ∷ 2 ∷ 2 ∷ 9 ∷ 9 ∷ 9 ∷ []))
    × (boards_of (after Translates 1 4 (1 ∷ []) (1 ∷ no_clue ∷ []) []) 2 (replicate 3 9) ≡ refuses 6 3)
    × (boards_of (after Translates 1 4 (1 ∷ []) (1 ∷ no_clue ∷ []) []) 1 (replicate 3 9) ≡ lists 1 (1 ∷ 2 ∷ 1 ∷ []))
unfolding run lists_code together book_holds zeros no_clues states_of fault_of count rights gather
rooms = (refl, refl, refl)

-- 2 by 3, three cells round a corner in each room, which is to hold one unit: each is the other turned by half, and no translate of it
abbrev trominoes : Kind → Enumerated
trominoes kind = boards_of (after kind 2 3 (1 ∷ 2 ∷ 5 ∷ []) (1 ∷ 1 ∷ []) (decide 0 false ∷ decide 3 false ∷ [])) 1 (replicate 7 9)

kinds : (trominoes Translates ≡ lists 0 (replicate 7 9)) × (trominoes Images ≡ lists 1 (1 ∷ 2 ∷ 2 ∷ 1 ∷ 1 ∷ 2 ∷ 1 ∷ []))
unfolding run stroke_code none_twice state_all names_from lists_code together book_holds zeros no_clues states_of fault_of count range rights gather
kinds = (refl, refl)
