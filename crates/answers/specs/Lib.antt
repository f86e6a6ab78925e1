-- Defined here: the cases of answers (`Listed`, `Answer`), what a call comes to, which case of which answer that is, and what it leaves in the buffer
-- (`Answers`), and the numbers of refusals, and what results come to as numbers (`Refusals`).
pub mod Listed
pub mod Answer
pub mod Answers
pub mod Refusals
