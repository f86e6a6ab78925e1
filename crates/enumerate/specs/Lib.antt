-- Defined here: which boards there are, and what the call answers and writes (`Boards`); what is promised of them, in terms of the laws and the
-- standing borders (`AllAnswers`); the search's own terms (`Search`); closed examples (`Examples`).
-- Proved in proofs/Promise.antt: the promise, on every record that the call accepts and after every list of calls from a fresh puzzle. It rests on
-- `AllAnswers` (the boards of the definition are exactly the answers, rising), which rests on demand 3's laws of the whole check. That the search
-- finds the boards of the definition is shown by `Ways`, a law for each way through it, from `Extensions` (the boards over given states, by the
-- first undecided border) and `Writing` (boards written one by one).
pub mod Boards
pub mod AllAnswers
pub mod Search
pub mod Examples
