-- The group record, and what grouping and hand-out answer (SPEC 1.10, 4.1 and 4.2, with questions 1, 2, 3 and 6). Assumes nothing.
use Rattle.std.specs.Prelude.{ℕ, ◌+◌, ◌-◌, ◌*◌, Bool, List, [], eqb, ltb, leb, get_or, length, take, drop, replicate, Result, Ok, Err}
use Rattle.std.proofs.lemmas.List.Edits.{sets}
use Rattle.limits.specs.Limits.{most_cells}
use Rattle.lists.specs.Choice.{both, pick}
use Rattle.lists.specs.Lists.{range, all}
use Rattle.answers.specs.declared.Refusal.{Refusal}
use Rattle.answers.specs.Refusals.{number_of}
use Rattle.grid.specs.declared.Grid.{Grid}
use Rattle.grid.specs.Grid.{grid, sizes_ok, cells}
use Rattle.board.specs.declared.Board.{Board}
use Rattle.board.specs.Board.{size_of, board_code}
use Rattle.groups.specs.declared.GroupInfo.{GroupInfo}
use Rattle.groups.specs.declared.Grouping.{Grouping}
use Rattle.groups.specs.Groups.{group_ids, group_count}
use Rattle.groups.specs.Turn.{in_turn, starts_of}

-- no number of the arrays is used yet
unfoldable pub blank_places : List ℕ
blank_places = replicate most_cells 0

abbrev pub grouping : ℕ → GroupInfo → Grouping
grouping n i = record { code = n; info = i }

-- the record of a refused grouping (SPEC 3.13)
abbrev pub zero_info : GroupInfo
zero_info = record { grid = grid 0 0; count = 0; ids = blank_places; starts = blank_places }

-- a grouping that was made or refused, with the refusal's number
abbrev pub grouped_as : Result GroupInfo Refusal → Grouping
grouped_as (Ok i) = grouping 0 i
grouped_as (Err e) = grouping (number_of e) zero_info

-- the group record (SPEC 1.10); places behind the last cell and the last group stay 0
abbrev pub info_of : Grid → List ℕ → Bool → GroupInfo
info_of g st potential =
    record {
      grid = g;
      count = group_count g st potential;
      ids = sets blank_places 0 (group_ids g st potential);
      starts = sets blank_places 0 (starts_of (cells g) (group_ids g st potential) (group_count g st potential));
    }

-- questions 1 and 2 of the board, then 6: the buffer has h·w places
abbrev pub grouping_code : Board → ℕ → ℕ
grouping_code b places = pick (eqb (board_code b) 0) (pick (leb (cells (size_of b)) places) 0 6) (board_code b)

abbrev pub grouping_of : Board → Bool → ℕ → Grouping
grouping_of b potential places =
    pick (eqb (grouping_code b places) 0)
    (grouping 0 (info_of (size_of b) b.book.states potential))
    (grouping (grouping_code b places) zero_info)

-- the cells of all groups in turn, in the buffer's first h·w places (SPEC 4.1)
abbrev pub buffer_of : Board → Bool → List ℕ → List ℕ
buffer_of b potential buffer =
    pick (eqb (grouping_code b (length buffer)) 0)
    (sets buffer 0 (in_turn (cells (size_of b)) (group_ids (size_of b) b.book.states potential) (group_count (size_of b) b.book.states potential)))
    buffer

-- where group k ends: at the next group's start, the last at h·w (SPEC 4.2)
unfoldable pub end_of : ℕ → ℕ → List ℕ → ℕ → ℕ
end_of n count starts k = pick (ltb (k + 1) count) (get_or starts (k + 1) 0) n

-- the places from a up to e
abbrev pub stretch : List ℕ → ℕ → ℕ → List ℕ
stretch xs a e = take (e - a) (drop a xs)

-- group k's part of the cells in turn: from its start up to its end
abbrev pub group_part : ℕ → ℕ → List ℕ → List ℕ → ℕ → List ℕ
group_part n count starts flat k = stretch flat (get_or starts k 0) (end_of n count starts k)

-- the starts rise strictly from 0 (SPEC 3.2): the first is 0, and each is below the next or, the last, below h·w
unfoldable pub starts_rise : ℕ → ℕ → List ℕ → Bool
starts_rise n count starts = both (eqb (get_or starts 0 0) 0) (all (λ k. ltb (get_or starts k 0) (end_of n count starts k)) (range count))

-- the group of each cell exists (SPEC 3.2)
unfoldable pub groups_exist : ℕ → ℕ → List ℕ → Bool
groups_exist n count ids = all (λ c. ltb (get_or ids c 0) count) (range n)

-- question 2 of a group record; there are at most as many groups as cells
abbrev pub info_together : ℕ → ℕ → List ℕ → List ℕ → Bool
info_together n count ids starts = both (leb count n) (both (starts_rise n count starts) (groups_exist n count ids))

-- questions 1 and 2: the number of the one that refuses the record, or 0
abbrev pub info_code : GroupInfo → ℕ
info_code i = pick (sizes_ok i.grid) (pick (info_together (cells i.grid) i.count i.ids i.starts) 0 2) 1

-- questions 1, 2, 3 and 6, put to a hand-out
abbrev pub hand_out_code : GroupInfo → ℕ → ℕ → ℕ
hand_out_code i places k =
    pick (eqb (info_code i) 0) (pick (ltb k i.count) (pick (leb (cells i.grid) places) 0 6) 3) (info_code i)

-- the buffer's part from the group's start to its end (SPEC 4.2); refused, the empty part (3.14)
abbrev pub hand_out_of : GroupInfo → List ℕ → ℕ → List ℕ
hand_out_of i buffer k =
    pick (eqb (hand_out_code i (length buffer) k) 0)
    (group_part (cells i.grid) i.count i.starts buffer k)
    []

-- where that part begins: at the group's start; refused, at the buffer's start (SPEC 3.14)
abbrev pub hand_out_start : GroupInfo → ℕ → ℕ → ℕ
hand_out_start i places k = pick (eqb (hand_out_code i places k) 0) (get_or i.starts k 0) 0

-- the address of place a of a buffer at p, whose numbers have two bytes
abbrev pub address_of : ℕ × ℕ → ℕ → ℕ × ℕ
address_of p a = (p.0, a * 2 + p.1)
