-- Defined here: the bits of a word, a row of a board in one word, and what codes read of a table of words (`Words`); where the row words of
-- a board's borders stand (`Layout`).
pub mod Words
pub mod Layout
