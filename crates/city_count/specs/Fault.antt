-- What the room count lists, and what the lone room check does (SPEC 4.14, 15.1). Assumes nothing.
use Rattle.std.specs.Prelude.{ℕ, List, [], eqb, ltb}
use Rattle.std.proofs.Math.Option.{Option}
use Rattle.lists.specs.Choice.{when, give, or_else}
use Rattle.lists.specs.Lists.{range, gather}
use Rattle.borders.specs.Entry.{connected_entry, wall_entry}
use Rattle.room_parts.specs.Graph.{Graph, tipped_of, joined_parts, parts_if}

-- the entries of those of the first m edges that have the state k, in the order of the edges
unfoldable pub entries_of : (ℕ → ℕ) → ℕ → ℕ → (ℕ → ℕ) → List ℕ
unfolding gather when range
entries_of entry k m s = gather (λ i. when (eqb (s i) k) (entry i)) (range m)

-- Once below the count, the entries of all Connected edges of the graph; otherwise, where the parts joined without Walls outnumber the count, those of
-- all Walls (SPEC 4.14)
unfoldable pub room_fault : Graph → ℕ → (ℕ → ℕ) → Option (List ℕ)
unfolding or_else give tipped_of entries_of parts_if
room_fault g count s =
    or_else (give (tipped_of g count s) (entries_of connected_entry 1 g.edges s)) (give (ltb count (joined_parts g s)) (entries_of wall_entry 2 g.edges s))

-- THE LONE ROOM CHECK: a count above the vertices is a fault that lists nothing, drawn or not; otherwise the room count decides (SPEC 15.1)
unfoldable pub lone_fault : Graph → ℕ → (ℕ → ℕ) → Option (List ℕ)
unfolding or_else give room_fault
lone_fault g count s = or_else (give (ltb g.vertices count) []) (room_fault g count s)
