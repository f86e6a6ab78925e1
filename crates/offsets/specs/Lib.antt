-- Defined here: the table of an ask (`Table`), which cells have a Wall or an edge on a side (`Sides`), border places in doubled coordinates (`Places`), whether a unit reaches an adjacent potential
-- unit (`Reach`), its landings (`Landings`), and what one trial asks and answers (`Trial`): the code's steps to the definitions of crate shape.
pub mod Told
pub mod Table
pub mod Sides
pub mod Places
pub mod Reach
pub mod Landings
pub mod Trial
