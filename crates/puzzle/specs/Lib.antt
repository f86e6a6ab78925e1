-- Defined here: the kind of a puzzle, its images and its asks' buffer (`Kind`); what the checks find on given states (`Fault`); the cases of an ask's
-- answer (`Answer`); what making, stroke, decide, undo and ask answer, by the questions of SPEC 3 and 12 (`Puzzle`).
-- The questions that are put to a making's lists stand in crate clues, the counts of the rooms in crate room_checks.
-- Proved in proofs/: each function answers as defined, by laws over plain values; a record with the number of no kind is refused by each call
-- (`KindLaws`); what an ask finds is what the lone room check of each clued room's graph would (`Alone`). Lists of calls and demand 3 stand in crate demand_3.
pub mod Kind
pub mod Fault
pub mod Answer
pub mod Puzzle
