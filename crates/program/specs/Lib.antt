-- Defined here: what the calls of a file leave when their lines are written one by one (`Printing`), what the program ends with (`Ends`), and what its
-- arguments ask for (`Arguments`).
pub mod Printing
pub mod Ends
pub mod Arguments
