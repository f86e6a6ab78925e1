-- Defined here: what a sound file says (`Sound`), how it is written (`Encode`), and where its parts stand in it (`Layout`), which is what
-- the code hands out. `Examples` computes the file of SPEC 7.9 and some that are unsound.
-- Proved in proofs/: what is written is read (`WriteLaws.read_written`) and what is read was written (`BackLaws.Written-Read`); the lists and
-- the calls at the layout's places are the case's (`UseLaws`).
pub mod Sound
pub mod Encode
pub mod Layout
pub mod Examples
