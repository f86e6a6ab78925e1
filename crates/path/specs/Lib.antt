-- Defined here: the first-in first-out search for a path (`Path`), with closed examples (`Examples`); what a call answers and writes
-- (`Answer`); what the code keeps of a search (`Trace`).
-- Proved in proofs/: the search finds the target exactly if Connected borders join it to the start; the list then leads back (`Leads`), stands,
-- is shorter than the cells are many, and is empty exactly for one cell (`PathLaws`, by the search's invariant in `Search`); it depends on
-- the board's borders alone (`Agreement`); a call is refused by 10 exactly if the cells are not joined (`Outcomes`).
pub mod Path
pub mod Trace
pub mod Answer
pub mod Examples
