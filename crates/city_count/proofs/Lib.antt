pub mod EntryLaws
pub mod FaultLaws
pub mod LoneLaws
pub mod FindLaws
pub mod LoopLaws
pub mod RoomLaws
pub mod Reached
pub mod Theorem
