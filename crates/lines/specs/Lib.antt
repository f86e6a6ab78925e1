-- Defined here: numbers in decimal (`Decimal`) and the line that each call prints (`Line`). `Examples` computes some of them.
-- Proved in proofs/DecimalLaws: the digits are a number's and no other's, with no zero in front; in proofs/LineLaws: how long a line can be.
pub mod Decimal
pub mod Line
pub mod Pen
pub mod Examples
