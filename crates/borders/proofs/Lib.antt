pub mod Choices
pub mod Congruence
pub mod EntryLaws
pub mod BorderLaws
pub mod Directions
pub mod Agreement
