pub mod Reached
pub mod FaultLaws
pub mod Lengths
pub mod Asks
pub mod Orders
pub mod Demand3
