pub mod Turns
pub mod Pictures
pub mod Beside
pub mod Symmetries
pub mod Isometries
