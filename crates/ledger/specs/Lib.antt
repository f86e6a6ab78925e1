-- Defined here: the standing ledger, a list of strokes, what stands by it, the numbers that refuse a stroke and an undo, and question 2 (`Ledger`); what
-- a record keeps of it and how calls change that (`Books`); the marks of the test (`Marks`); closed examples (`Examples`).
-- What is proved of it stands in proofs/: the test by marks is question 2 (`MarkLaws`); after every list of calls the states are the standing borders,
-- the record holds together, and an undo gives back the very book before an accepted stroke (`Reached`); question 2 is yes exactly for what strokes
-- make, none of them empty (`Exactly`); decisions stand alike however they are cut into strokes (`Cuts`) and whatever their order (`Order`); what an
-- accepted call needs of a record that holds together (`Found`).
pub mod Ledger
pub mod Books
pub mod Marks
pub mod Examples
pub mod Moves
