pub mod RoomChecks
pub mod Housed
pub mod Unclued
