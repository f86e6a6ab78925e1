-- Defined here: what is wrong with a file that is unsound, and at which byte (`Flaws`).
-- Proved in proofs/: only a sound file has no flaw (`FlawLaws.sound_exactly`).
pub mod Flaws
