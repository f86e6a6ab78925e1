-- Defined here: the shape check over a list of images, stage by stage (`Shape`, SPEC 4.6 to 4.12, 14.2), with examples (`Examples`), and the laws
-- of a full board that concern shape (`Laws`, SPEC 2, 14.3).
-- Proved in proofs/Theorems.antt, for every list of images: a fault's entries stand as listed; no full board on which they stand obeys the laws; on
-- every board on which they stand the check answers a fault; on a full board it is clear exactly if the laws hold; the list has at most 8·h·w entries
-- and h·w more for each image. proofs/Agreement.antt: the answer depends on the board's borders alone. What is used of an offset stands in
-- proofs/Moves.antt, and proofs/Placing.antt proves it of each image; what is used of group numbers stands in groups/proofs/GroupLaws.antt (`Labels`);
-- and proofs/Boards.antt has boards that are right and some that are not.
pub mod Shape
pub mod Laws
pub mod Examples
